-- Definitions that some good records give.
use Rattle.std.specs.Prelude.{◌≡◌, ℕ, List, Some}
use Rattle.std.specs.Cmp.Lexicographic.{slice_cmp}
use Rattle.std.specs.Ordering.{nat_cmp}
use Rattle.std.specs.FinMap as map
use Rattle.app_definition_records.specs.ByName.{FitsKind, IsDefinedBy, records_of}
use Rattle.app_definition_records.specs.Records.{AllGood, Record, Records}

-- some good records make the definition of the name
abbrev pub IsGiven : {D : Type 0} → (ℕ → Type 0) → (Records → Record → Type 0) → (D → Records → Type 0) → List ℕ → D → Type 0
IsGiven HasFields FitsName IsMadeOf name d =
    (rows : Records) × AllGood (FitsKind HasFields FitsName) rows × IsDefinedBy IsMadeOf (Some d) (records_of name rows)

-- so it is of each definition
abbrev pub AllGiven : {D : Type 0} → (List ℕ → D → Type 0) → map.FinMap (slice_cmp nat_cmp) D → Type 0
AllGiven {D} IsGiven all = (name : List ℕ) (d : D) → map.get all name ≡ Some d → IsGiven name d
