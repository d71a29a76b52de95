-- Rows that are read one after another, name by name.
use Rattle.std.specs.Prelude.{◌≡◌, ◌↔◌, ◌⊎◌, ℕ, List, [], ◌∷◌, Some, ⊤}
use Rattle.std.specs.FinMap as map
use Rattle.sqlite.specs.Order.{Row as Values}
use Rattle.work_calendars.specs.Name.{IsName}
use Rattle.plan_tables_content.specs.Content.{ByName}
use Rattle.plan_tables_definitions.specs.Storing.{AreRowsOf}

-- one row more than before
abbrev pub Joins : (Values → Type 0) → Values → (Values → Type 0) → Type 0
Joins Before row After = (values : Values) → After values ↔ (Before values ⊎ (values ≡ row))

-- all of these are of those
abbrev pub Within : (Values → Type 0) → (Values → Type 0) → Type 0
Within Is Are = (values : Values) → Is values → Are values

-- the two have the same rows
abbrev pub Alike : (Values → Type 0) → (Values → Type 0) → Type 0
Alike Is Are = (values : Values) → Is values ↔ Are values

-- the rows were read, and of each name one at least
pub record AreRead {X : Type 0} (IsRead : List ℕ → X → Values → Type 0) (read : List Values) (drafts : ByName X)
    : Type 0 where
  pub rows : AreRowsOf IsRead read drafts
  pub some : (name : List ℕ) (x : X) → map.get drafts name ≡ Some x → (values : Values) × IsRead name x values

-- each definition has a name, and passes the test
abbrev pub AreSound : {D : Type 0} → (List ℕ → D → Type 0) → ByName D → Type 0
AreSound {D} Is all = (name : List ℕ) (d : D) → map.get all name ≡ Some d → IsName name × Is name d

-- entries of the same names, one for one, which are so related
abbrev pub Paired : {X D : Type 0} → (List ℕ → X → D → Type 0) → List (List ℕ × X) → List (List ℕ × D) → Type 0
Paired Rel [] [] = ⊤
Paired Rel [] (f ∷ fs) = ⊥
Paired Rel (e ∷ es) [] = ⊥
Paired Rel (e ∷ es) (f ∷ fs) = (e.0 ≡ f.0) × Rel e.0 e.1 f.1 × Paired Rel es fs

-- the definition has the rows that were read
abbrev pub IsFinish : {X D : Type 0} → (List ℕ → D → Values → Type 0) → (List ℕ → X → Values → Type 0)
    → List ℕ → X → D → Type 0
IsFinish IsRow IsRead name x d = Alike (IsRow name d) (IsRead name x)

-- and once a row was read, its rows encode it
pub record IsGathered {X D : Type 0} (IsRow : List ℕ → D → Values → Type 0) (IsRead : List ℕ → X → Values → Type 0)
    (IsTold : D → Type 0) (name : List ℕ) (x : X) (d : D) : Type 0 where
  pub alike : Alike (IsRow name d) (IsRead name x)
  pub told : (values : Values) → IsRead name x values → IsTold d

-- some definition that passes the test has the rows that were read
abbrev pub CanFinish : {X D : Type 0} → (List ℕ → D → Values → Type 0) → (List ℕ → X → Values → Type 0)
    → (List ℕ → D → Type 0) → List ℕ × X → Type 0
CanFinish {X} {D} IsRow IsRead Is e = (d : D) × Is e.0 d × Alike (IsRow e.0 d) (IsRead e.0 e.1)
