use Rattle.std.specs.List.{AllWithin}
use Rattle.plan_migrations_remaking.specs.Types.{HasTypes}
use Rattle.plan_migrations_remaking.proofs.types.have_types.Given as goal

abbrev pub invariant-loop-cells : goal.invariant-loop-cells
invariant-loop-cells l = AllWithin (HasTypes l.letters) l.rows 0 l.cells-index
