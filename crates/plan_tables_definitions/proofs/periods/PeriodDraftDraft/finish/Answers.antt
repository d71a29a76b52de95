use Rattle.std.proofs.Common.{◌≡◌, subst, sym, ◌∙◌}
use Rattle.std.specs.Prelude.{IfSome, IsSome}
use Rattle.std.proofs.lemmas.Option.{IfSome_then}
use Rattle.std.proofs.lemmas.Result.{IfOk-weaker}
use Rattle.plan_periods.specs.Period.{IsSoundPeriod}
use Rattle.plan_periods.specs.declared.periods.Period.{Period}
use Rattle.plan_tables_definitions.specs.DraftedPeriods.{IsOfDays, entries_of}
use Rattle.plan_tables_definitions.specs.Placed.{HoldsPlaces}
use Rattle.plan_tables_definitions.proofs.PeriodLemmas.{period_alike, period_in_order}
use Rattle.plan_tables_definitions.proofs.PlaceLemmas.{same_list}
use Rattle.plan_tables_definitions.proofs.TellLemmas.{period_told}
use Rattle.plan_tables_definitions.proofs.periods.PeriodDraftDraft.finish.Goals as goal

pub returns-in-Some-clause-made : goal.returns-in-Some-clause-made
returns-in-Some-clause-made c =
    let order = subst (λ o. IfSome o (λ xs. HoldsPlaces xs.items c.args.self.now.entries)) c.in-Some.is
    c.in_ok-entries.ensures.made in
    IfOk-weaker c.defined_of.result (λ found. IfSome found (λ p. entries_of p ≡ c.deref.result.now)) _
    (λ found made. IfSome_then found made (λ p is. period_alike c.args._name.now p c.args.self.now.entries
    c.in-Some.entries.items (is ∙ c.deref.ensures.value) order)) c.defined_of.ensures.made

pub returns-in-Some-clause-told : goal.returns-in-Some-clause-told
returns-in-Some-clause-told c =
    let order = subst (λ o. IfSome o (λ xs. HoldsPlaces xs.items c.args.self.now.entries)) c.in-Some.is
    c.in_ok-entries.ensures.made in
    IfOk-weaker c.defined_of.result (λ found. IfSome found (λ p. entries_of p ≡ c.deref.result.now)) _
    (λ found made. IfSome_then found made (λ p same v read. period_told c.args._name.now p v ((period_alike
    c.args._name.now p c.args.self.now.entries c.in-Some.entries.items (same ∙ c.deref.ensures.value) order v).1 read)))
    c.defined_of.ensures.made

pub returns-in-Some-clause-found : goal.returns-in-Some-clause-found
returns-in-Some-clause-found c =
    let m = c.args.self.now.entries in
    let order = subst (λ o. IfSome o (λ xs. HoldsPlaces xs.items c.args.self.now.entries)) c.in-Some.is
    c.in_ok-entries.ensures.made in
    IfOk-weaker c.defined_of.result (λ found. (p : Period) → IsSoundPeriod p → IsOfDays p
    → entries_of p ≡ c.deref.result.now → IsSome found) _
    (λ found h d such alike. h d such.sound such.days (same_list (entries_of d) c.in-Some.entries.items
    (λ k. period_in_order c.args._name.now d m alike k ∙ sym (order k)) ∙ sym c.deref.ensures.value))
    c.defined_of.ensures.found

pub returns-in-None-clause-found : goal.returns-in-None-clause-found
returns-in-None-clause-found c d such alike = subst IsSome c.in-None.is (c.in_ok-entries.ensures.found (entries_of d)
    (period_in_order c.args._name.now d c.args.self.now.entries alike))
