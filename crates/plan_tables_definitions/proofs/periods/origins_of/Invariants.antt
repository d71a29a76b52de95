use Rattle.std.proofs.Common.{◌≡◌, map, take}
use Rattle.plan_tables_definitions.specs.DraftedPeriods.{listed_entry}
use Rattle.plan_tables_definitions.proofs.periods.origins_of.Given as goal

abbrev pub invariant-loop-entry : goal.invariant-loop-entry
invariant-loop-entry l = map listed_entry l.origins.items ≡ take l.entry-index l.entries
