use Rattle.plan_tables_schema.specs.Free.{AreAside}
use Rattle.std.specs.List.{AllWithin}
use Rattle.plan_tables_opening.proofs.standing.refers_none.Given as goal

abbrev pub invariant-loop-child : goal.invariant-loop-child
invariant-loop-child l = AllWithin (AreAside l.made) l.tables 0 l.child-index
