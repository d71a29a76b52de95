use Rattle.std.proofs.Common.{◌<◌, ℕ, IsTrue, slice_index_or}
use Rattle.sqlite.specs.Order.{column}
use Rattle.plan_migrations_remaking.specs.Types.{has_type}
use Rattle.plan_migrations_remaking.proofs.types.are_of_types.Given as goal

abbrev pub invariant-loop-at : goal.invariant-loop-at
invariant-loop-at l = (i : ℕ) → i < l.at → IsTrue (has_type (slice_index_or l.letters i 0) (column l.cells i))
