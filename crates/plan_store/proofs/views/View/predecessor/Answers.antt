use Rattle.std.proofs.Common.{◌∙◌, sym}
use Rattle.occurrences.specs.declared.place.CurrentRow.{CurrentRow}
use Rattle.plan_store.specs.Views.{row_serial, with_hidden}
use Rattle.plan_store_lists.proofs.LookLemmas.{look_at, look_lacks}
use Rattle.plan_store.proofs.PlaceLemmas.{stands_cp, stands_history, stands_ltp}
use Rattle.plan_store.proofs.views.View.predecessor.Goals as goal

pub returns-in-Some : goal.returns-in-Some
returns-in-Some c hidden numbered seen =
    let view = c.args.self.now in
    let serial = c.args.pair.now.predecessor in
    let is = c.in-Some.ensures in (
      stands_ltp (with_hidden hidden view).sets numbered serial c.in-Some.row
          (look_at row_serial view.ltp.now.items view.ltp_rows.one_each c.in-Some.row serial is.0 is.1),
      tt,
    )

pub returns-in-Some-of_serial : goal.returns-in-Some-of_serial
returns-in-Some-of_serial c hidden numbered seen =
    let view = c.args.self.now in
    let serial = c.args.pair.now.predecessor in
    let is = c.in-Some-of_serial.ensures in (
      stands_cp (with_hidden hidden view).sets numbered serial c.in-Some-of_serial.current
          (look_at (λ (x : CurrentRow). x.row.serial) view.cp.now.items view.cp_rows.one_each c.in-Some-of_serial.current
          serial is.0 is.1),
      tt,
    )

-- the window has the row of history
pub returns : goal.returns
returns c hidden numbered seen =
    let view = c.args.self.now in
    let pair = c.args.pair.now in
    let is = c.in_ok-row.ensures in (
      stands_history (with_hidden hidden view).sets numbered pair.predecessor c.in_ok-row.row
          (sym (seen pair c.requires) ∙ look_at row_serial view.history.now.items view.history_rows.one_each c.in_ok-row.row
          pair.predecessor is.0 is.1),
      tt,
    )

pub returns-in_err-row : goal.returns-in_err-row
returns-in_err-row c hidden numbered seen =
    let view = c.args.self.now in
    let pair = c.args.pair.now in
    let serial = pair.predecessor in
    rw c.from_residual.ensures (record {
      ltp = look_lacks row_serial view.ltp.now.items serial c.in_default.ensures;
      cp = look_lacks (λ (x : CurrentRow). x.row.serial) view.cp.now.items serial c.in_default-of_serial.ensures;
      history = sym (seen pair c.requires)
          ∙ look_lacks row_serial view.history.now.items serial c.in_err-row.ensures;
    })
