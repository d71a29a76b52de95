-- The applications whose rows hold what a change reaches.
use Rattle.std.specs.Prelude.{◌≡◌, ◌⊎◌, ◌↔◌, ℕ, List, Contains}
use Rattle.external_dependencies.specs.Link.{Lists}
use Rattle.external_dependencies.specs.Touch.{IsMoved}
use Rattle.external_dependencies.specs.declared.links.Link.{Link}
use Rattle.external_dependencies.specs.declared.rows.PlacedRow.{PlacedRow}
use Rattle.external_dependencies.specs.declared.touch.Touch.{Touch}
use Rattle.plan_store.specs.Views.{IsAny, ListsSet}
use Rattle.plan_store_lists.specs.Rows.{of_current, of_row}
use Rattle.occurrences.specs.declared.place.CurrentRow.{CurrentRow}
use Rattle.occurrences.specs.declared.place.Place.TheVariants.{LongTerm}
use Rattle.occurrences.specs.declared.row.Row.{Row}
use Rattle.planner_machine.specs.Content.{Sets}
use Rattle.plan_store_pairs.specs.Turns.{IsBeside}

-- the application and those that its list names are among these
abbrev pub HasWithList : List Link → List (List ℕ) → List ℕ → Type 0
HasWithList links apps app = Contains apps app
    × ((predecessor : List ℕ) → Lists links app predecessor → Contains apps predecessor)

-- each application whose rows the change may reach is among these, with those that its list names: one with rows that
-- were made or withdrawn, one whose list changed, and one whose list names one with such rows
pub record HasReached (touch : Touch) (links : List Link) (apps : List (List ℕ)) : Type 0 where
  pub touched : (row : Row) → IsMoved touch row → HasWithList links apps row.key.app
  pub changed : (app : List ℕ) → Contains touch.lists.items app → HasWithList links apps app
  pub naming : (row : Row) (app : List ℕ) → IsMoved touch row → Lists links app row.key.app
      → HasWithList links apps app

-- of the occurrences in the current plan, not deleted, and in history of the sets the list has those of these
-- applications; of the long-term plan it has these rows
abbrev pub AreGathered : Sets → List (List ℕ) → List Row → List PlacedRow → Type 0
AreGathered s apps planned rows =
    (cp : List CurrentRow) → ListsSet of_current s.cp IsAny cp
    → (history : List Row) → ListsSet of_row s.history IsAny history
    → (p : PlacedRow) → Contains rows p
    ↔ ((Contains planned p.row × (p.place ≡ LongTerm)) ⊎ (IsBeside cp history p × Contains apps p.row.key.app))
