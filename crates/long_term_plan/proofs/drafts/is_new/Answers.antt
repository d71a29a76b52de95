use Rattle.std.proofs.Common.{◌≡◌, false, refl, Option, None, Some}
use Rattle.std.specs.Prelude.{is_some}
use Rattle.plan_store.specs.Views.{with_hidden}
use Rattle.long_term_plan.proofs.DraftingLemmas.{new_key}
use Rattle.long_term_plan.proofs.drafts.is_new.Goals as goal

absent : {X : Type 0} (o : Option X) → is_some o ≡ false → o ≡ None
absent None is = refl
absent (Some x) is = cc

pub returns-then-is_none : goal.returns-then-is_none
returns-then-is_none c h shows =
    let tells = c.is_deleted_by_operator.ensures in
    new_key (with_hidden h c.args.view.now).sets c.args.key.now c.ltp_row.result c.ltp_row.ensures
    (absent c.ltp_row.result c.if-is_none.ensures) c.is_deleted_by_operator.result
    ((λ yes. shows.1 (tells.0 yes)), λ there. tells.1 (shows.0 there))
