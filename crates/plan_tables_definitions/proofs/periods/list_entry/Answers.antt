use Rattle.std.proofs.Common.{sym, subst, ◌∙◌}
use Rattle.plan_tables_definitions.specs.DraftedPeriods.{entries_of, lettered_values}
use Rattle.plan_tables_definitions.specs.Gathering.{Joins}
use Rattle.plan_tables_definitions.specs.Placed.{IsPlaced}
use Rattle.plan_tables_definitions.proofs.PeriodLemmas.{lettered_back}
use Rattle.plan_tables_definitions.proofs.PlaceLemmas.{one_at, placed_gets}
use Rattle.plan_tables_definitions.proofs.periods.list_entry.Goals as goal

pub returns-in-Some-clause-refused : goal.returns-in-Some-clause-refused
returns-in-Some-clause-refused c d name is within = c.is_same.ensures.1 (one_at (lettered_values name)
    (lettered_back name) (entries_of d) c.args.entries.now c.args.place c.args.entry c.in-Some.other
    (sym c.get.ensures ∙ c.in-Some.is) is within)

pub returns-in_ok-put-in-None-clause-taken : goal.returns-in_ok-put-in-None-clause-taken
returns-in_ok-put-in-None-clause-taken c name _ = subst (λ m. Joins (IsPlaced (lettered_values name)
    c.args.entries.now) (lettered_values name c.args.place c.args.entry) (IsPlaced (lettered_values name) m))
    (sym c.in_ok-put-in-None.ensures)
    (placed_gets (lettered_values name) (lettered_back name) c.args.entries.now c.args.place c.args.entry
    (sym c.get.ensures ∙ c.in-None.is))
