use Rattle.plan_tables_definitions.specs.Adding.{Adds, IsOfPlace}
use Rattle.plan_tables_definitions.specs.Parts.{IsOffsetAt}
use Rattle.plan_tables_definitions.proofs.offsets.push_offsets.Given as goal

abbrev pub invariant-loop-place : goal.invariant-loop-place
invariant-loop-place l = Adds 3 (IsOfPlace (IsOffsetAt l.app l.name) l.offsets l.place) l.fn.rows.items l.rows.items
