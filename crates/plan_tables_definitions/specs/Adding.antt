-- Rows that are appended to others, as sets.
use Rattle.std.specs.Prelude.{◌≡◌, ◌≢◌, ◌↔◌, ◌⊎◌, ℕ, ◌<◌, List, Some, slice_get, AllPairs, Contains, take}
use Rattle.std.specs.FinMap as map
use Rattle.sqlite.specs.Order.{Row as Values}
use Rattle.plan_tables_content.specs.Content.{ByName}

-- the rows differ in their first cells
abbrev pub AreApart : ℕ → Values → Values → Type 0
AreApart cells v w = take cells v ≢ take cells w

-- no two rows have the same first cells
abbrev pub HaveOwnKeys : ℕ → List Values → Type 0
HaveOwnKeys cells rows = AllPairs (AreApart cells) rows

-- the rows are now those of before and such ones, which come once each: if no two rows of before have the same first
-- cells, and none of them has those of such a row, then no two have them now
pub record Adds (cells : ℕ) (Is : Values → Type 0) (old new : List Values) : Type 0 where
  pub rows : (values : Values) → Contains new values ↔ (Contains old values ⊎ Is values)
  pub keys : HaveOwnKeys cells old → ((v w : Values) → Contains old v → Is w → AreApart cells v w)
      → HaveOwnKeys cells new

-- a row of an entry of the list, at one of the first places
abbrev pub IsOfPlace : {X : Type 0} → (ℕ → X → Values → Type 0) → List X → ℕ → Values → Type 0
IsOfPlace {X} IsAt xs places values =
    (place : ℕ) × (x : X) × (place < places) × (slice_get xs place ≡ Some x) × IsAt place x values

-- a row of the definition of this name, if there is one
abbrev pub IsOfName : {D : Type 0} → (List ℕ → D → Values → Type 0) → ByName D → List ℕ → Values → Type 0
IsOfName {D} IsRow definitions name values = (d : D) × (map.get definitions name ≡ Some d) × IsRow name d values

-- a row of one of the first numbers
abbrev pub IsUpTo : (ℕ → Values → Type 0) → ℕ → Values → Type 0
IsUpTo Is n values = (k : ℕ) × (k < n) × Is k values
