use Rattle.std.proofs.Common.{◌≡◌, ◌∙◌, Some, rules, subst, sym, true}
use Rattle.app_definitions.specs.declared.definitions.Definitions.{Definitions as All}
use Rattle.long_term_plan.proofs.EarlyLemmas.{IsOfDates, bounds_shown, definitions_shown, extend_bad}
use Rattle.long_term_plan.proofs.extension.extend_refusal.Goals as goal

pub returns : goal.returns
returns c content shows =
    let view = c.args.view.now in
    let planned : content.sets.bounds ≡ Some c.in-Some.bounds =
    sym (bounds_shown view content shows) ∙ sym c.bounds.ensures ∙ c.in-Some.is in
    let bad : c.is_bad_last_day.result ≡ true = search rules in
    extend_bad c.args.to content c.in-Some.bounds planned (c.is_bad_last_day.ensures.0 bad) c.dates_or_lacking.result
    (subst (λ (all : All). IsOfDates all c.dates_or_lacking.result)
    (c.definitions.ensures ∙ definitions_shown view content shows) c.dates_or_lacking.ensures)
