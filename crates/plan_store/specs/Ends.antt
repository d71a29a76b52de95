-- The rows of history that a listing of the pairs of one application needs, where history is elsewhere.
use Rattle.std.specs.Prelude.{◌≡◌, ℕ, List, Contains, None, Some, Option}
use Rattle.occurrences.specs.declared.row.Row.{Row}
use Rattle.external_dependencies.specs.declared.pairs.Pair.{Pair}
use Rattle.planner_machine.specs.Content.{Content}
use Rattle.plan_store.specs.AppPairs.{with_others}
use Rattle.plan_store.specs.Listed.{row_at}

-- rows of history: all of the application, and each predecessor of its rows that the lists lack
pub record HasFound (app : List ℕ) (lists : Content) (history : ℕ → Option Row) (found : List Row) : Type 0 where
  pub only : (row : Row) → Contains found row → history row.serial ≡ Some row
  pub of_app : (row : Row) → history row.serial ≡ Some row → row.key.app ≡ app → Contains found row
  pub ends : (pair : Pair) (row : Row) → Contains lists.pairs pair
      → row_at (with_others found lists.sets) pair.successor ≡ Some row → row.key.app ≡ app
      → row_at (with_others found lists.sets) pair.predecessor ≡ None → history pair.predecessor ≡ None
