-- What a listing makes of the writer that its lines go to.
use Rattle.std.specs.Prelude.{◌≡◌, ℕ, List, ◌++◌, length}
use Rattle.std.specs.Prelude.{Option, flat_map}
use Rattle.std.specs.Io.KnownBytes.{Appends}
use Rattle.plan_listings.specs.Line.{AreLinesOf}
use Rattle.plan_store.specs.Listings.{Shown}
use Rattle.plan_store.specs.declared.listings.ListFault.{ListFault}
use Rattle.plan_store.specs.declared.listings.ListFault.TheVariants as Faults
use Rattle.planner_cli.specs.Replies.{ended}
use Rattle.planner_cli.specs.Rows.{IsShownText}
use Rattle.planner_cli.specs.Runs.{IsFrontOf}

-- the item's line is written
abbrev pub AcceptsLine : Option (List ℕ) → Shown → Option (List ℕ) → Type 0
AcceptsLine old item new = (line : List ℕ) × IsShownText item line × Appends old new (ended line)

-- a front of it is
abbrev pub AcceptsFront : Option (List ℕ) → Shown → Option (List ℕ) → Type 0
AcceptsFront old item new =
    (line : List ℕ) × IsShownText item line × ((front : List ℕ) × IsFrontOf front (ended line) × Appends old new front)

-- the lines of these items are written
abbrev pub AcceptsLines : Option (List ℕ) → List Shown → Option (List ℕ) → Type 0
AcceptsLines old items new =
    (lines : List (List ℕ)) × AreLinesOf IsShownText items lines × Appends old new (flat_map ended lines)

-- the whole listing is written, which has so many items
pub record WritesAll (IsWhole : List Shown → Type 0) (old new : Option (List ℕ)) (count : ℕ) : Type 0 where
  pub items : List Shown
  pub whole : IsWhole items
  pub taken : AcceptsLines old items new
  pub counted : count ≡ length items

-- the lines of the first items are written or, where the writer is to blame, a front of them
abbrev pub EndsInLines : ListFault → Option (List ℕ) → List Shown → Option (List ℕ) → Type 0
EndsInLines Faults.Memory old first new = AcceptsLines old first new
EndsInLines Faults.Device old first new = AcceptsLines old first new
EndsInLines (Faults.Sink _) old first new =
    (lines : List (List ℕ)) × AreLinesOf IsShownText first lines
    × ((front : List ℕ) × IsFrontOf front (flat_map ended lines) × Appends old new front)

pub record WritesPart (IsWhole : List Shown → Type 0) (old new : Option (List ℕ)) (fault : ListFault) : Type 0 where
  pub first : List Shown
  pub rest : List Shown
  pub whole : IsWhole (first ++ rest)
  pub ends : EndsInLines fault old first new
