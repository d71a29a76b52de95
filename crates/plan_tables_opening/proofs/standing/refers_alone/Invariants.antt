use Rattle.std.proofs.Common.{◌≡◌, ◌⊎◌}
use Rattle.plan_tables_schema.specs.Free.{AreAside}
use Rattle.sqlite_schema.specs.declared.schema.Table.{Table}
use Rattle.std.specs.List.{AllWithin}
use Rattle.plan_tables_opening.proofs.standing.refers_alone.Given as goal

abbrev pub invariant-loop-child : goal.invariant-loop-child
invariant-loop-child l = AllWithin (λ (d : Table). (d.tree ≡ l.tree) ⊎ AreAside l.made d) l.tables 0 l.child-index
