use Rattle.std.proofs.Common.{◌≡◌, ◌∙◌, Some, None, true, false, refl, sym}
use Rattle.std.specs.Prelude.{is_some}
use Rattle.plan_store_lists.specs.Rows.{look_up, of_row}
use Rattle.plan_store.specs.Views.{current_serial, is_asked, row_serial}
use Rattle.plan_store.proofs.ReadLemmas.{some_kept}
use Rattle.plan_store_lists.proofs.LookLemmas.{look_at, look_lacks}
use Rattle.plan_store.proofs.ViewLemmas.{found_is}
use Rattle.plan_store.proofs.views.View.needs_planned.Goals as goal

-- it stands in the long-term plan
pub returns-then-is_some : goal.returns-then-is_some
returns-then-is_some c =
    let view = c.args.self.now in
    let here : is_some (look_up row_serial view.ltp.now.items c.args.serial) ≡ true =
    sym (found_is of_row view.ltp.now.items view.ltp_rows.one_each c.args.serial c.of_serial.result c.of_serial.ensures)
    ∙ sym c.is_some.ensures ∙ c.if-is_some.true in
    rw here refl

-- a row of the current plan
pub returns-in-Some : goal.returns-in-Some
returns-in-Some c =
    let view = c.args.self.now in
    let current = c.in-Some.current in
    let is = c.in-Some.ensures in
    let not_in_ltp : is_some (look_up row_serial view.ltp.now.items c.args.serial) ≡ false =
    sym (found_is of_row view.ltp.now.items view.ltp_rows.one_each c.args.serial c.of_serial.result c.of_serial.ensures)
    ∙ sym c.is_some.ensures ∙ c.if-is_some.false in
    let here : look_up current_serial view.cp.now.items c.args.serial ≡ Some current =
    look_at current_serial view.cp.now.items view.cp_rows.one_each current c.args.serial is.0 is.1 in
    rw (not_in_ltp, here) (c.is_asked.ensures ∙ some_kept (is_asked view.key.now current) current)

-- or of none
pub returns-in-None : goal.returns-in-None
returns-in-None c =
    let view = c.args.self.now in
    let not_in_ltp : is_some (look_up row_serial view.ltp.now.items c.args.serial) ≡ false =
    sym (found_is of_row view.ltp.now.items view.ltp_rows.one_each c.args.serial c.of_serial.result c.of_serial.ensures)
    ∙ sym c.is_some.ensures ∙ c.if-is_some.false in
    let none : look_up current_serial view.cp.now.items c.args.serial ≡ None =
    look_lacks current_serial view.cp.now.items c.args.serial c.in-None.ensures in
    rw (not_in_ltp, none) refl
