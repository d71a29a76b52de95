-- The pairs of one row.
use Rattle.std.specs.Prelude.{◌≡◌, ℕ, List, Option}
use Rattle.occurrences.specs.declared.row.Row.{Row}
use Rattle.external_dependencies.specs.Link.{ListsWithin}
use Rattle.external_dependencies.specs.Nearest.{IsNearest}
use Rattle.external_dependencies.specs.declared.links.Link.{Link}
use Rattle.external_dependencies.specs.declared.live.Arrival.{Arrival}
use Rattle.external_dependencies.specs.declared.pairs.Pair.{Pair}
use Rattle.planner_machine.specs.Content.{Sets}
use Rattle.planner_machine.specs.Pairs.{LiveAt}

-- the successor is the row, and the predecessor is its nearest one in an application of its list, within the limit that
-- the list gives
pub record IsRowPair (links : List Link) (s : Sets) (row : Row) (pair : Pair) : Type 0 where
  pub successor : row.serial ≡ pair.successor
  pub app : List ℕ
  pub within : Option ℕ
  pub listed : ListsWithin links row.key.app app within
  pub near : Arrival
  pub nearest : IsNearest (LiveAt s) row.key app within near
  pub predecessor : near.serial ≡ pair.predecessor
