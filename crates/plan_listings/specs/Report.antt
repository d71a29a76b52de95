-- What a trial prints before its last line: rows with a sign before each, in one list.
use Rattle.std.specs.Prelude.{◌≡◌, ℕ, List, [], ◌∷◌, ◌++◌, Option, Some, None, map, flat_map}
use Rattle.std.specs.Str.{byte}
use Rattle.std.specs.List.Sorted.{IsPermutation, IsSortedByKey}
use Rattle.occurrences.specs.Row.{row_cmp}
use Rattle.occurrences.specs.Status.{status_letter}
use Rattle.occurrences.specs.declared.row.Row.{Row}
use Rattle.occurrences.specs.declared.status.Status.{Status}
use Rattle.occurrences.specs.declared.status.Status.TheVariants.{W, C, D}
use Rattle.plan_listings.specs.declared.report.Signed.{Signed}
use Rattle.plan_listings.specs.Line.{AreLinesOf, ended}
use Rattle.plan_listings.specs.Row.{IsRowText}

-- a blank and the letter of a status, where the trial shows one
abbrev pub letter_text : Option ℕ → List ℕ
letter_text None = []
letter_text (Some letter) = 32 ∷ letter ∷ []

-- the sign, a blank, the row, and a blank and the letter, if there is one
pub record IsSignedText (shown : Signed) (text : List ℕ) : Type 0 where
  pub row_text : List ℕ
  pub row_is : IsRowText shown.row row_text
  pub text_is : text ≡ shown.sign ∷ 32 ∷ row_text ++ letter_text shown.letter

-- exactly these rows, by input arrival, application and serial
pub record IsReport (rows : List Signed) (text : List ℕ) : Type 0 where
  pub shown : List Signed
  pub exactly : IsPermutation rows shown
  pub rising : IsSortedByKey (λ x. x.row) row_cmp shown
  pub lines : List (List ℕ)
  pub are_lines : AreLinesOf IsSignedText shown lines
  pub prints : text ≡ flat_map ended lines

-- a row that would be made or withdrawn
abbrev pub plan_sign : ℕ → Row → Signed
plan_sign sign row = record { row = row; sign = sign; letter = None }

-- a row that would be moved or carried, or go to history or to the deletions, and the status that it has or takes
abbrev pub daily_sign : ℕ → Status → Row → Signed
daily_sign sign status row = record { row = row; sign = sign; letter = Some (status_letter status) }

-- `+` before what would be made, `-` before what would be withdrawn
abbrev pub plan_signs : List Row → List Row → List Signed
plan_signs made withdrawn = map (plan_sign (byte "+")) made ++ map (plan_sign (byte "-")) withdrawn

-- `>` before what would be moved, and wait; `=` before what would be carried, with its status; `H` before what would go
-- to history, complete; `X` before what would go to the deletions, deleted
abbrev pub daily_signs : List Row → List (Row × Status) → List Row → List Row → List Signed
daily_signs moved carried completed deleted =
    map (daily_sign (byte ">") W) moved ++ map (λ c. daily_sign (byte "=") c.1 c.0) carried
    ++ map (daily_sign (byte "H") C) completed ++ map (daily_sign (byte "X") D) deleted
