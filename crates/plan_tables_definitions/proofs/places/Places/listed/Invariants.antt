use Rattle.plan_tables_definitions.proofs.PlaceLemmas.{AreFirst}
use Rattle.plan_tables_definitions.proofs.places.Places.listed.Given as goal

abbrev pub invariant-loop-place : goal.invariant-loop-place
invariant-loop-place g l = AreFirst l.xs.items l.place l.self
