use Rattle.plan_tables_schema.specs.Free.{IsAsideOf}
use Rattle.std.specs.List.{AllWithin}
use Rattle.plan_tables_opening.proofs.standing.are_aside.Given as goal

abbrev pub invariant-loop-reference : goal.invariant-loop-reference
invariant-loop-reference l = AllWithin (IsAsideOf l.tables) l.child.references 0 l.reference-index
