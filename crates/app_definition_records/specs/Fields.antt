-- The fields of a record, taken as they are.
use Rattle.std.specs.Prelude.{◌≡◌, ◌⊎◌, ◌+◌, ◌-◌, ◌*◌, ◌<◌, ◌≤◌, ℕ, List, [], ◌∷◌, get_or, slice_index, length, fold}
use Rattle.std.specs.Prelude.{All, Option, Some, None}
use Rattle.std.specs.Char.{IsAsciiDigit}
use Rattle.std.specs.Str.{byte}
use Rattle.work_calendars.specs.Spelling.{SpellsDay, SpellsMinute}
use Rattle.app_definition_records.specs.Records.{Record}

-- the field at a place, counted from 0, and no bytes where there is none
abbrev pub field : Record → ℕ → List ℕ
field row place = get_or row place []

-- a field that may be left empty
abbrev pub IsEmptyOr : (List ℕ → Type 0) → List ℕ → Type 0
IsEmptyOr P bytes = (bytes ≡ []) ⊎ P bytes

abbrev pub some_unless_empty : List ℕ → Option (List ℕ)
some_unless_empty [] = None
some_unless_empty (b ∷ bytes) = Some (b ∷ bytes)

-- a text that spells a day
abbrev pub IsDayText : List ℕ → Type 0
IsDayText text = (day : ℕ) × SpellsDay text day

-- no day where the field is empty, else the day that it spells
abbrev pub SpellsOptionalDay : List ℕ → Option ℕ → Type 0
SpellsOptionalDay text None = text ≡ []
SpellsOptionalDay text (Some day) = SpellsDay text day

-- a text that spells a minute of the day
abbrev pub IsMinuteText : List ℕ → Type 0
IsMinuteText text = (minute : ℕ) × SpellsMinute text minute

-- the number that digits are in decimal
abbrev pub number_value : List ℕ → ℕ
number_value digits = fold (λ n digit. n * 10 + (digit - byte "0")) 0 digits

-- decimal digits without a leading zero, 0 itself aside
pub record IsNumber (text : List ℕ) : Type 0 where
  pub not_empty : 0 < length text
  pub digits : All IsAsciiDigit text
  pub no_leading_zero : slice_index text 0 ≡ byte "0" → length text ≡ 1

-- the decimal digits of a number up to that one
abbrev pub IsNumberUpTo : ℕ → List ℕ → Type 0
IsNumberUpTo greatest text = IsNumber text × (number_value text ≤ greatest)
