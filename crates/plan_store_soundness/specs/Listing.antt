-- All rows of a content, with their places.
use Rattle.std.specs.Prelude.{◌≡◌, ◌++◌, Bool, true, false, List, [], map, Some}
use Rattle.occurrences.specs.declared.status.Status.TheVariants.{D}
use Rattle.occurrences.specs.declared.place.CurrentRow.{CurrentRow}
use Rattle.occurrences.specs.declared.place.Deletion.{Deletion}
use Rattle.occurrences.specs.declared.place.Place.{Place}
use Rattle.occurrences.specs.declared.place.Place.TheVariants.{LongTerm, Current, History, Deleted}
use Rattle.occurrences.specs.declared.row.Row.{Row}
use Rattle.external_dependencies.specs.declared.rows.PlacedRow.{PlacedRow}
use Rattle.planner_machine.specs.Content.{Sets}
use Rattle.plan_store.specs.declared.contents.Content.{Content as Kept}

-- an occurrence in one place
abbrev pub in_place : Place → Row → PlacedRow
in_place place row = record { row = row; place = place }

abbrev pub current_place : CurrentRow → PlacedRow
current_place current = record { row = current.row; place = Current current.status }

abbrev pub deleted_place : Deletion → PlacedRow
deleted_place deletion = record { row = deletion.row; place = Deleted deletion.reason }

-- the rows of the four lists, one after another
abbrev pub placed_list : Kept → List PlacedRow
placed_list kept =
    ((map (in_place LongTerm) kept.ltp.items ++ map current_place kept.cp.items)
    ++ map (in_place History) kept.history.items)
    ++ map deleted_place kept.deletions.items

-- the set of its place has the row under its serial
abbrev pub IsHeldIn : Sets → Row → Place → Type 0
IsHeldIn s row LongTerm = s.ltp row.serial ≡ Some row
IsHeldIn s row (Current status) = s.cp row.serial ≡ Some (record { row = row; status = status })
IsHeldIn s row History = s.history row.serial ≡ Some row
IsHeldIn s row (Deleted reason) = s.deletions row.serial ≡ Some (record { row = row; reason = reason })

abbrev pub IsHeld : Sets → PlacedRow → Type 0
IsHeld s p = IsHeldIn s p.row p.place

-- whether the row is live
abbrev pub is_live_place : Place → Bool
is_live_place LongTerm = true
is_live_place (Current D) = false
is_live_place (Current _) = true
is_live_place History = true
is_live_place (Deleted _) = false

abbrev pub is_live_row : PlacedRow → Bool
is_live_row p = is_live_place p.place

-- the four lists are empty
pub record HasNoRows (kept : Kept) : Type 0 where
  pub ltp : kept.ltp.items ≡ []
  pub cp : kept.cp.items ≡ []
  pub history : kept.history.items ≡ []
  pub deletions : kept.deletions.items ≡ []

-- nothing is issued, and there are no rows, no pairs and no lists in force
pub record IsBare (kept : Kept) : Type 0 where
  pub issued : kept.issued ≡ 0
  pub rows : HasNoRows kept
  pub pairs : kept.pairs ≡ []
  pub in_force : kept.in_force.items ≡ []
