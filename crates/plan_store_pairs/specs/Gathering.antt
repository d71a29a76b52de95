-- Open occurrences that another may precede, and what is added for each of some.
use Rattle.std.specs.Prelude.{◌≡◌, ◌⊎◌, ◌↔◌, ℕ, ◌<◌, ◌≤◌, List, Contains, Option}
use Rattle.occurrences.specs.Place.{IsLive, IsOpen}
use Rattle.occurrences.specs.declared.row.Row.{Row}
use Rattle.external_dependencies.specs.Link.{AreNamedOnce, Lists, ListsWithin}
use Rattle.external_dependencies.specs.Nearest.{IsCandidate, arrival_of}
use Rattle.external_dependencies.specs.Touch.{IsWithin}
use Rattle.external_dependencies.specs.declared.links.Link.{Link}
use Rattle.external_dependencies.specs.declared.live.Arrival.{Arrival}
use Rattle.external_dependencies.specs.declared.rows.PlacedRow.{PlacedRow}
use Rattle.planner_machine.specs.Content.{Content, Sets, IsOnlyAt}
use Rattle.planner_machine.specs.Pairs.{LiveAt}
use Rattle.plan_store.specs.Views.{ShowsNearest}
use Rattle.plan_store.specs.declared.views.View.{View}
use Rattle.plan_store_pairs.specs.Spans.{ArrivesBetween}
use Rattle.plan_store_pairs.specs.declared.gathering.Reached.{Reached}

-- what passes the test is added
abbrev pub AddsIf : {Y : Type 0} → (Y → Type 0) → List Y → List Y → Type 0
AddsIf {Y} Is old new = (y : Y) → Contains new y ↔ (Contains old y ⊎ Is y)

-- what passes the test for one of these is added
abbrev pub AddsEach : {X Y : Type 0} → (X → Y → Type 0) → List X → List Y → List Y → Type 0
AddsEach {X} Is xs = AddsIf (λ y. (x : X) × Contains xs x × Is x y)

-- the occurrence is live under its serial
abbrev pub IsLiveUnder : Sets → PlacedRow → Type 0
IsLiveUnder s p = IsOnlyAt s p.row.serial p × IsLive p.place

-- live occurrences are added to the rows, and none is removed
pub record AddsLive (s : Sets) (old new : List PlacedRow) : Type 0 where
  pub stay : (p : PlacedRow) → Contains old p → Contains new p
  pub come : (p : PlacedRow) → Contains new p → Contains old p ⊎ IsLiveUnder s p

-- live occurrences of the application that arrive in the stretch are added to the rows, and none is removed
pub record AddsBetween (s : Sets) (app : List ℕ) (first : ℕ) (last : Option ℕ) (old new : List PlacedRow) : Type 0
  where
    pub adds : AddsLive s old new
    pub only : (p : PlacedRow) → Contains new p → Contains old p ⊎ ArrivesBetween app first last p.row

-- an open occurrence of the application that arrives from the first moment to the last, or without end
pub record IsOpenBetween (s : Sets) (app : List ℕ) (first : ℕ) (last : Option ℕ) (p : PlacedRow) : Type 0 where
  pub stands : IsOnlyAt s p.row.serial p
  pub waits : IsOpen p.place
  pub arrives : ArrivesBetween app first last p.row

-- the row may precede the occurrence within that limit
abbrev pub MayPrecede : Row → Reached → Type 0
MayPrecede row x = IsCandidate x.placed.row.key row.key.app x.within (arrival_of row)

-- one of the occurrences, under the limit, where it is open and the row may precede it
abbrev pub IsReachedAmong : Row → Option ℕ → PlacedRow → Reached → Type 0
IsReachedAmong row within p x = (x ≡ record { placed = p; within = within }) × IsOpen p.place × MayPrecede row x

-- an open occurrence of the link's application, under the limit of the link, that the row may precede, and that arrives
-- by the last moment
pub record IsReachedBy (s : Sets) (row : Row) (last : Option ℕ) (link : Link) (x : Reached) : Type 0 where
  pub stands : IsOnlyAt s x.placed.row.serial x.placed
  pub waits : IsOpen x.placed.place
  pub of_app : x.placed.row.key.app ≡ link.app
  pub limit : x.within ≡ link.within
  pub may : MayPrecede row x
  pub by_last : IsWithin last x.placed.row.key.ia

-- an open occurrence that the row may precede: its list names the row's application under that limit
pub record IsReached (c : Content) (row : Row) (x : Reached) : Type 0 where
  pub stands : IsOnlyAt c.sets x.placed.row.serial x.placed
  pub waits : IsOpen x.placed.place
  pub listed : ListsWithin c.in_force x.placed.row.key.app row.key.app x.within
  pub may : MayPrecede row x

-- no live occurrence of the row's application arrives after the row and before the moment
abbrev pub IsUpToNext : Sets → Row → ℕ → Type 0
IsUpToNext s row ia = (n : Arrival) → LiveAt s n → n.app ≡ row.key.app → row.key.ia < n.ia → ia ≤ n.ia

-- the row may precede each of these, and of all that it may precede those are here that arrive up to the next live one
-- of its application; a list names an application once
pub record AreReached (c : Content) (row : Row) (found : List Reached) : Type 0 where
  pub once : AreNamedOnce c.in_force
  pub only : (x : Reached) → Contains found x → IsReached c row x
  pub all : (x : Reached) → IsReached c row x → IsUpToNext c.sets row x.placed.row.key.ia → Contains found x

-- the window shows of history what may precede the row in each application of its list
abbrev pub ShowsList : Content → View → Row → Type 0
ShowsList c view row = (app : List ℕ) → Lists c.in_force row.key.app app → ShowsNearest c view row.key app
