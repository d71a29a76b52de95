-- Definitions by name, as the records of a block give them.
use Rattle.std.specs.Prelude.{◌≡◌, ◌≢◌, ◌↔◌, ℕ, Bool, ◌++◌, ◌∷◌, List, [], filter, length, Option, None, Some, IsSome}
use Rattle.std.specs.Prelude.{Contains, IfSome, IsTrue, nat_eq}
use Rattle.std.specs.Prelude.{map as list_map}
use Rattle.std.specs.Cmp.Lexicographic.{pointwise, slice_cmp}
use Rattle.std.specs.List.{IsDistinct}
use Rattle.std.specs.Map.{keys_of}
use Rattle.std.specs.Ordering.{nat_cmp}
use Rattle.std.specs.FinMap as map
use Rattle.work_calendars.specs.Name.{IsName}
use Rattle.app_definition_records.specs.Fields.{field}
use Rattle.app_definition_records.specs.Rising.{AreRising}
use Rattle.app_definition_records.specs.Records.{Record, Records}
use Rattle.app_definition_records.specs.declared.columns.TheConstants.{NAME}

-- the records about a name, which is their first field, in order
abbrev pub records_of : List ℕ → Records → Records
records_of name rows = filter (λ row. pointwise nat_eq (field row NAME) name) rows

-- the record has as many fields as the first of the records before it, where there are any
abbrev pub IsAsLong : Records → Record → Type 0
IsAsLong [] row = Unit {0}
IsAsLong (first ∷ rest) row = length row ≡ length first

-- a record of a kind is good after the records before it: a record of the kind may have so many fields, and the first
-- record has as many; its first field is a name, and the rest is good after the earlier records about that name
pub record FitsKind (HasFields : ℕ → Type 0) (FitsName : Records → Record → Type 0) (before : Records) (row : Record)
    : Type 0 where
  pub complete : HasFields (length row)
  pub as_long : IsAsLong before row
  pub name : IsName (field row NAME)
  pub fits : FitsName (records_of (field row NAME) before) row

-- the definition of a name is the one that these records about it make, and there is none where there is no record
abbrev pub IsDefinedBy : {D : Type 0} → (D → Records → Type 0) → Option D → Records → Type 0
IsDefinedBy IsMadeOf None rows = rows ≡ []
IsDefinedBy IsMadeOf (Some d) rows = (rows ≢ []) × IsMadeOf d rows

-- the definitions are those that these records give, for each name those that its own records make
abbrev pub AreGivenBy : {D : Type 0} → (D → Records → Type 0) → map.FinMap (slice_cmp nat_cmp) D → Records → Type 0
AreGivenBy IsMadeOf definitions rows = (name : List ℕ)
    → IsDefinedBy IsMadeOf (map.get definitions name) (records_of name rows)

-- the first record about a name begins a definition, which it makes, where it is good, and else none
pub record Begins {D : Type 0} (FitsName : Records → Record → Type 0) (IsMadeOf : D → Records → Type 0)
    (row : Record) (begun : Option D) : Type 0 where
  pub fits : IsSome begun ↔ FitsName [] row
  pub made : IfSome begun (λ d. IsMadeOf d (row ∷ []))

-- a record joins those before it: it is accepted if it is good after them, and `new` is then made of them and of it
pub record Joins {D : Type 0} (Fits : Records → Record → Type 0) (IsMadeOf : D → Records → Type 0)
    (before : Records) (row : Record) (new : D) (taken : Bool) : Type 0 where
  pub fits : IsTrue taken ↔ Fits before row
  pub made : IsTrue taken → IsMadeOf new (before ++ row ∷ [])

-- no two of the entries have one name
abbrev pub HaveOwnNames : {D : Type 0} → List (List ℕ × D) → Type 0
HaveOwnNames entries = IsDistinct (pointwise nat_eq) (keys_of entries)

-- the entries are those of the definitions, in some order, and no two have one name
pub record AreEntriesOf {D : Type 0} (entries : List (List ℕ × D))
    (definitions : map.FinMap (slice_cmp nat_cmp) D) : Type 0 where
  pub are : map.from_entries entries ≡ definitions
  pub own_names : HaveOwnNames entries

-- the definitions of `more`, and for all other names those of `old`
abbrev pub overlaid : {D : Type 0} → map.FinMap (slice_cmp nat_cmp) D → map.FinMap (slice_cmp nat_cmp) D
    → map.FinMap (slice_cmp nat_cmp) D
overlaid old more = map.from_entries (map.entries more ++ map.entries old)

-- what `old` has under each name of `more`: a definition, or none
abbrev pub replaced : {D : Type 0} → map.FinMap (slice_cmp nat_cmp) D → map.FinMap (slice_cmp nat_cmp) D
    → map.FinMap (slice_cmp nat_cmp) (Option D)
replaced old more = map.from_entries (list_map (λ e. (e.0, map.get old e.0)) (map.entries more))

-- the definitions with this one under the name, or with none
abbrev pub with_one : {D : Type 0} → List ℕ → Option D → map.FinMap (slice_cmp nat_cmp) D
    → map.FinMap (slice_cmp nat_cmp) D
with_one name None all = map.remove all name
with_one name (Some definition) all = map.insert all name definition

abbrev pub with_each : {D : Type 0} → List (List ℕ × Option D) → map.FinMap (slice_cmp nat_cmp) D
    → map.FinMap (slice_cmp nat_cmp) D
with_each [] all = all
with_each (noted ∷ rest) all = with_one noted.0 noted.1 (with_each rest all)

-- the definitions with what was noted of a name under it, and with all others as they are
abbrev pub restored : {D : Type 0} → map.FinMap (slice_cmp nat_cmp) (Option D) → map.FinMap (slice_cmp nat_cmp) D
    → map.FinMap (slice_cmp nat_cmp) D
restored was all = with_each (map.entries was) all

-- each name of which something was noted has a definition
abbrev pub AllStand : {D : Type 0} → map.FinMap (slice_cmp nat_cmp) (Option D) → map.FinMap (slice_cmp nat_cmp) D
    → Type 0
AllStand was all = (name : List ℕ) → IsSome (map.get was name) → IsSome (map.get all name)

-- the names are those that have a definition, in byte order, each once
pub record AreNamesOf {D : Type 0} (names : List (List ℕ))
    (definitions : map.FinMap (slice_cmp nat_cmp) D) : Type 0 where
  pub rising : AreRising (λ name. name) names
  pub exactly : (name : List ℕ) → Contains names name ↔ IsSome (map.get definitions name)
