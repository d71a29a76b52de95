use Rattle.std.proofs.Common.{◌≡◌, ◌∙◌, None, Option, Some, false, refl, rules, subst, sym, true}
use Rattle.std.specs.Prelude.{is_some}
use Rattle.app_definitions.specs.declared.definitions.Definitions.{Definitions as All}
use Rattle.long_term_plan.proofs.EarlyLemmas.{IsOfDates, bounds_shown, create_bad, definitions_shown}
use Rattle.long_term_plan.proofs.creation.create_refusal.Goals as goal

none_is : {X : Type 0} (o : Option X) → is_some o ≡ false → o ≡ None
none_is None is = refl
none_is (Some x) is = cc

pub returns : goal.returns
returns c content shows =
    let view = c.args.view.now in
    let unplanned : content.sets.bounds ≡ None =
    sym (bounds_shown view content shows) ∙ sym c.bounds.ensures
    ∙ none_is c.bounds.result (sym c.if-is_some.ensures) in
    let bad : c.are_bad_days.result ≡ true = search rules in
    create_bad c.args.from c.args.to content unplanned (c.are_bad_days.ensures.0 bad) c.dates_or_lacking.result
    (subst (λ (all : All). IsOfDates all c.dates_or_lacking.result)
    (c.definitions.ensures ∙ definitions_shown view content shows) c.dates_or_lacking.ensures)
