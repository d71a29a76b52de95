use Rattle.std.proofs.Common.{◌≡◌, ◌∙◌, Some, None, refl}
use Rattle.plan_store_lists.specs.Rows.{look_up}
use Rattle.plan_store.specs.Views.{is_of_key, row_serial}
use Rattle.plan_store.proofs.ReadLemmas.{some_kept}
use Rattle.plan_store_lists.proofs.LookLemmas.{look_at, look_lacks}
use Rattle.plan_store.proofs.views.View.needs_completed.Goals as goal

pub returns-in-Some : goal.returns-in-Some
returns-in-Some c =
    let view = c.args.self.now in
    let row = c.in-Some.row in
    let is = c.in-Some.ensures in
    let here : look_up row_serial view.history.now.items c.args.serial ≡ Some row =
    look_at row_serial view.history.now.items view.history_rows.one_each row c.args.serial is.0 is.1 in
    rw here (c.is_of_key.ensures ∙ some_kept (is_of_key view.key.now row) row)

pub returns-in-None : goal.returns-in-None
returns-in-None c =
    let none : look_up row_serial c.args.self.now.history.now.items c.args.serial ≡ None =
    look_lacks row_serial c.args.self.now.history.now.items c.args.serial c.in-None.ensures in
    rw none refl
