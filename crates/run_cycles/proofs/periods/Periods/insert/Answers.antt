use Rattle.std.proofs.Common.{List, All, map, ap, sym, subst, ◌∙◌}
use Rattle.plan_periods.specs.declared.periods.Period.{Period}
use Rattle.plan_periods.specs.Period.{IsSoundPeriod}
use Rattle.std.specs.FinMap.{insert}
use Rattle.run_cycles.proofs.PeriodsLemmas.{from_entries-put, All-insert_entry}
use Rattle.run_cycles.proofs.periods.Periods.insert.Goals as goal

pub invariant_of-self-2 : goal.invariant_of-self-2
invariant_of-self-2 c =
    let P : List Period → Type 0 = λ vs. All IsSoundPeriod vs in
    subst P (sym (ap (λ es. map (λ e. e.1) es) c.in_ok-_replaced.ensures.entries))
    (All-insert_entry IsSoundPeriod c.self.inside.by_name.entries
    c.args.name c.args.period c.requires c.self.invariant)

pub returns-clause-ok : goal.returns-clause-ok
returns-clause-ok c =
    from_entries-put _ _ c.args.name c.args.period c.in_ok-_replaced.ensures.updates.0 ∙
    ap (λ m. insert m c.args.name c.args.period) c.self.view_is
