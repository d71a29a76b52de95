-- Names: how they are spelled, and how one is kept in an array.
use Rattle.std.specs.Prelude.{◌≡◌, ℕ, ◌-◌, ◌<◌, ◌≤◌, Bool, not, ◌||◌, ◌==◌, IsTrue, List, ◌++◌, length, take}
use Rattle.std.specs.Prelude.{slice_index, codes}
use Rattle.std.specs.Char.{is_ascii_digit, is_ascii_uppercase}
use Rattle.std.specs.List.{All, list_any, position_or_len}
use Rattle.std.proofs.Common.{sym, ap, subst, ◌∙◌}
use Rattle.std.proofs.Math.ListN.{replicate}
use Rattle.std.proofs.lemmas.List.{length-take-le}
use Rattle.work_calendars.specs.declared.names.TheConstants.{LONGEST_NAME, LONGEST_SHORT_NAME}

-- A to Z, 0 to 9, '@', '#' and '$'
unfoldable pub is_name_byte : ℕ → Bool
is_name_byte b =
    is_ascii_uppercase b || is_ascii_digit b || list_any (λ c. b == c) (codes "@#$")

-- a name of at most that many characters, of which the first is no digit
pub record IsNameWithin (longest : ℕ) (name : List ℕ) : Type 0 where
  pub not_empty : 0 < length name
  pub fits : length name ≤ longest
  pub alphabet : All (λ b. IsTrue (is_name_byte b)) name
  pub start : IsTrue (not (is_ascii_digit (slice_index name 0)))

-- a name of an application or a calendar
abbrev pub IsName : List ℕ → Type 0
IsName name = IsNameWithin LONGEST_NAME name

-- a short name, of a period or a run cycle
abbrev pub IsShort : List ℕ → Type 0
IsShort name = IsNameWithin LONGEST_SHORT_NAME name

-- how many bytes come before the first zero
abbrev pub name_length : List ℕ → ℕ
name_length bytes = position_or_len (λ b. b == 0) bytes

-- an array of that size that holds a name in its first bytes, and zeros after it
pub record HoldsName (size : ℕ) (bytes : List ℕ) (len : ℕ) : Type 0 where
  pub full : length bytes ≡ size
  pub padded : bytes ≡ take len bytes ++ replicate (size - len) 0
  pub within : len ≤ size
  pub named : IsNameWithin size (take len bytes)

-- the array of a name
abbrev pub padded_name : ℕ → List ℕ → List ℕ
padded_name size name = name ++ replicate (size - length name) 0

length-held : (size : ℕ) (bytes : List ℕ) (len : ℕ) → HoldsName size bytes len → length (take len bytes) ≡ len
length-held size bytes len h =
    length-take-le len bytes (let P : ℕ → Type 0 = λ n. len ≤ n in subst P (sym h.full) h.within)

pub padded_name-held : (size : ℕ) (bytes : List ℕ) (len : ℕ) →
    HoldsName size bytes len → padded_name size (take len bytes) ≡ bytes
padded_name-held size bytes len h =
    ap (λ n. take len bytes ++ replicate (size - n) 0) (length-held size bytes len h) ∙ sym h.padded
