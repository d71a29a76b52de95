-- The deletions of one application.
use Rattle.std.specs.Prelude.{◌≡◌, ◌↔◌, ℕ, List, Contains, Option, Some}
use Rattle.occurrences.specs.declared.place.Deletion.{Deletion}
use Rattle.external_dependencies.specs.Arrival.{arrival_cmp}
use Rattle.external_dependencies.specs.Nearest.{arrival_of}
use Rattle.plan_store_lists.specs.Keyed.{IsKeyed}

-- exactly the deletions of the application, in the order of their arrivals
pub record AreDeletionsOf (app : List ℕ) (deletions : ℕ → Option Deletion) (found : List Deletion) : Type 0 where
  pub keyed : IsKeyed arrival_cmp (λ (d : Deletion). arrival_of d.row) found
  pub exactly : (d : Deletion) → Contains found d ↔ ((deletions d.row.serial ≡ Some d) × (d.row.key.app ≡ app))
