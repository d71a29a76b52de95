-- What a planning statement makes of the live occurrences: it removes rows of the long-term plan and adds others, and
-- all else lives on; and what that touches.
use Rattle.std.specs.Prelude.{◌≡◌, ◌≢◌, ◌⊎◌, ℕ, List, [], Contains}
use Rattle.occurrences.specs.declared.place.CurrentRow.{CurrentRow}
use Rattle.occurrences.specs.declared.place.Place.TheVariants.{LongTerm, History}
use Rattle.occurrences.specs.declared.row.Row.{Row}
use Rattle.external_dependencies.specs.Touch.{HasSameList, Touches}
use Rattle.external_dependencies.specs.declared.links.Link.{Link}
use Rattle.external_dependencies.specs.declared.rows.PlacedRow.{PlacedRow}
use Rattle.external_dependencies.specs.declared.touch.Touch.{Touch}
use Rattle.planner_machine.specs.Content.{Content, Sets}
use Rattle.planner_machine.specs.InForce.{IsDefinedLink}
use Rattle.plan_store_pairs.specs.LiveRows.{AreLiveRows, IsCurrentIn}

-- each of the links is in force, or is defined
abbrev pub AreKnownLinks : Content → List Link → Type 0
AreKnownLinks c links = (link : Link) → Contains links link → Contains c.in_force link ⊎ IsDefinedLink c.definitions link

-- the touch names the rows that go, those that are made, and each application whose list changes
pub record IsTouchOf (gone made : List Row) (was_links links : List Link) (touch : Touch) : Type 0 where
  pub comes : touch.made.items ≡ made
  pub goes : touch.withdrawn.items ≡ gone
  pub none_opened : touch.opened.items ≡ []
  pub lists : (app : List ℕ) → HasSameList was_links links app ⊎ Contains touch.lists.items app

-- one of the rows has the serial and the key of that one
abbrev pub HasItself : List Row → Row → Type 0
HasItself rows row = (x : Row) × Contains rows x × (x.serial ≡ row.serial) × (x.key ≡ row.key)

-- of the rows of the long-term plan those that go are gone and the others stay, under their serials and keys; what is
-- made has new serials
pub record ArePlanned (rows stay gone made : List Row) : Type 0 where
  pub on : (row : Row) → Contains rows row → HasItself stay row ⊎ Contains gone row
  pub stood : (row : Row) → Contains stay row → HasItself rows row
  pub gone_stood : (row : Row) → Contains gone row → Contains rows row
  pub gone_apart : (row x : Row) → Contains gone row → Contains stay x → x.serial ≢ row.serial
  pub new : (row x : Row) → Contains rows row → Contains made x → x.serial ≢ row.serial

-- the occurrence is in the current plan, not deleted, or in history
abbrev pub IsBeside : List CurrentRow → List Row → PlacedRow → Type 0
IsBeside current completed p = IsCurrentIn current p ⊎ (Contains completed p.row × (p.place ≡ History))

-- the occurrence is in the long-term plan, or in another set
abbrev pub IsInLists : List Row → List CurrentRow → List Row → PlacedRow → Type 0
IsInLists planned current completed p =
    (Contains planned p.row × (p.place ≡ LongTerm)) ⊎ IsBeside current completed p

-- the touch names all that a change touches that leads from the one sets and lists to the other, where those are the
-- live occurrences after it
pub record IsTurn (s s' : Sets) (was_links links : List Link) (touch : Touch) (now : List PlacedRow) : Type 0 where
  pub was : List PlacedRow
  pub before : AreLiveRows s was
  pub after : AreLiveRows s' now
  pub touches : Touches touch was now was_links links
