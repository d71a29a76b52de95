use Rattle.occurrences.specs.declared.row.Row.{Row}
use Rattle.plan_store.specs.Views.{shown, with_hidden}
use Rattle.plan_store.proofs.ArrivalLemmas.{unshown_key}
use Rattle.plan_store_lists.proofs.LookLemmas.{look_has, look_some}
use Rattle.plan_store.proofs.PlaceLemmas.{live_none, stands_cp, stands_history, stands_ltp}
use Rattle.plan_store.proofs.views.View.live_row.Goals as goal

pub returns-in-Some : goal.returns-in-Some
returns-in-Some c hidden numbered part last =
    let s = (with_hidden hidden c.args.self.now).sets in
    let is = c.in-Some.ensures in
    (stands_ltp s numbered c.in-Some.row.serial c.in-Some.row is.0, tt, is.1)

pub returns-in-Some-cp_row : goal.returns-in-Some-cp_row
returns-in-Some-cp_row c hidden numbered part last =
    let s = (with_hidden hidden c.args.self.now).sets in
    let current = c.in-Some-cp_row.current in
    let is = c.in-Some-cp_row.ensures in
    (stands_cp s numbered current.row.serial current is.0, is.2, is.1)

pub returns-in_err-row : goal.returns-in_err-row
returns-in_err-row c hidden numbered part last =
    let view = c.args.self.now in
    let s = (with_hidden hidden view).sets in
    let of_key = c.of_key.ensures.all in
    rw c.from_residual.ensures (live_none s c.args.key.now c.in_default.ensures c.in_default-cp_row.ensures
    (unshown_key hidden.history (shown view).sets.history c.args.key.now last
    (λ serial row stands keyed. c.in_err-row.ensures row
    ((of_key view.last_rows.keyed row).1
    ((look_some (λ (r : Row). r.serial) view.lasts.now serial row stands).0, keyed)))))

pub returns : goal.returns
returns c hidden numbered part last =
    let view = c.args.self.now in
    let s = (with_hidden hidden view).sets in
    let row = c.in_ok-row.row in
    let of_key = c.of_key.ensures.all in
    let both = (of_key view.last_rows.keyed row).0 c.in_ok-row.ensures in (
      stands_history s numbered row.serial row (part row.serial row (look_has (λ (r : Row). r.serial) view.lasts.now
          view.last_rows.one_each row both.0)),
      tt,
      both.1,
    )
