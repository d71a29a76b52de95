-- A live occurrence that a statement withdraws.
use Rattle.std.specs.Prelude.{◌≡◌, ◌≢◌, ◌⊎◌, ◌↔◌, ℕ, List, Contains, Option, Some, None}
use Rattle.occurrences.specs.Place.{IsLive}
use Rattle.occurrences.specs.declared.place.Place.TheVariants.{History}
use Rattle.occurrences.specs.declared.row.Row.{Row}
use Rattle.external_dependencies.specs.declared.rows.PlacedRow.{PlacedRow}
use Rattle.external_dependencies.specs.Nearest.{ArrivesWithin}
use Rattle.external_dependencies.specs.declared.change.PairChange.{PairChange}
use Rattle.external_dependencies.specs.declared.live.Arrival.{Arrival}
use Rattle.external_dependencies.specs.declared.pairs.Pair.{Pair}
use Rattle.planner_machine.specs.Content.{Content, Sets, IsOnlyAt}
use Rattle.planner_machine.specs.Pairs.{pair_of}
use Rattle.plan_store.specs.Views.{IsLastBefore}
use Rattle.plan_store_pairs.specs.Gathering.{IsReached}
use Rattle.plan_store_pairs.specs.declared.gathering.Reached.{Reached}

-- the row was live in one of the plans, and now nothing is live under its serial; under every other serial all is as
-- it was
pub record LosesRow (s s' : Sets) (row : Row) : Type 0 where
  pub placed : PlacedRow
  pub of_row : placed.row ≡ row
  pub stood : IsOnlyAt s row.serial placed
  pub lived : IsLive placed.place
  pub planned : placed.place ≢ History
  pub gone : (p : PlacedRow) → IsOnlyAt s' row.serial p → IsLive p.place → ⊥
  pub others : (serial : ℕ) → serial ≢ row.serial → (p : PlacedRow) → IsOnlyAt s serial p ↔ IsOnlyAt s' serial p

-- the pair of the occurrence with the row
abbrev pub IsLostPair : List Pair → Row → Reached → Pair → Type 0
IsLostPair pairs row x pair = Contains pairs pair × (pair ≡ pair_of x.placed.row.serial row.serial)

-- the serial is that of the row before this one, which arrives within the limit of the occurrence
abbrev pub IsBehind : Option Arrival → Reached → ℕ → Type 0
IsBehind (Some near) x serial = ArrivesWithin x.within x.placed.row.key.ia near.ia × (near.serial ≡ serial)
IsBehind None x serial = ⊥

-- if the occurrence has a pair with the row, its pair with the row before that
pub record IsBackPair (pairs : List Pair) (row : Row) (before : Option Arrival) (x : Reached) (pair : Pair) : Type 0 where
  pub had : Contains pairs (pair_of x.placed.row.serial row.serial)
  pub successor : pair.successor ≡ x.placed.row.serial
  pub behind : IsBehind before x pair.predecessor

-- the row goes: its own pairs go, and those with it of open occurrences; and each of these occurrences turns to the
-- row before it in its application
pub record TurnsFrom (c : Content) (row : Row) (before : Option Arrival) (change : PairChange) : Type 0 where
  pub last : IsLastBefore c.sets row.key.app row.key.ia before
  pub removed : (pair : Pair) → Contains change.removed pair
      ↔ ((Contains c.pairs pair × (pair.successor ≡ row.serial))
      ⊎ ((x : Reached) × IsReached c row x × IsLostPair c.pairs row x pair))
  pub added : (pair : Pair) → Contains change.added pair
      ↔ ((x : Reached) × IsReached c row x × IsBackPair c.pairs row before x pair)
