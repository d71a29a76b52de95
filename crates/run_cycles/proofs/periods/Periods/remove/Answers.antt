use Rattle.std.proofs.Common.{List, All, map, ap, sym, subst, ◌∙◌}
use Rattle.std.specs.Option.{is_some}
use Rattle.plan_periods.specs.declared.periods.Period.{Period}
use Rattle.plan_periods.specs.Period.{IsSoundPeriod}
use Rattle.std.specs.FinMap.{get, remove}
use Rattle.run_cycles.proofs.PeriodsLemmas.{get-lookup, from_entries-without, All-remove_entry}
use Rattle.run_cycles.proofs.periods.Periods.remove.Goals as goal

pub invariant_of-self : goal.invariant_of-self
invariant_of-self c =
    let P : List Period → Type 0 = λ vs. All IsSoundPeriod vs in
    subst P (sym (ap (λ es. map (λ e. e.1) es) c.shift_remove.ensures.entries))
    (All-remove_entry IsSoundPeriod _ c.self.inside.by_name.entries c.self.invariant)

pub returns-clause-found : goal.returns-clause-found
returns-clause-found c =
    let e = c.is_some.ensures ∙ ap is_some (c.shift_remove.ensures.value ∙
    get-lookup c.args.name.now _ ∙ ap (λ m. get m c.args.name.now) c.self.view_is) in
    (λ h. sym e ∙ h, λ h. e ∙ h)

pub returns-clause-removed : goal.returns-clause-removed
returns-clause-removed c =
    from_entries-without _ _ c.args.name.now c.shift_remove.ensures.updates.0 ∙
    ap (λ m. remove m c.args.name.now) c.self.view_is
