-- What the fields of a record spell.
use Rattle.std.proofs.Common.{◌≡◌, ℕ, zero, suc, ◌+◌, ◌-◌, ◌*◌, ◌/◌, ◌%◌, ◌<◌, ◌≤◌, List, [], ◌∷◌, ◌++◌, get_or}
use Rattle.std.proofs.Common.{length, ap, refl, arith}
use Rattle.std.specs.Prelude.{IsUtf8, fold}
use Rattle.std.specs.List.{AllByRecursion}
use Rattle.std.proofs.lemmas.Str.{IsUtf8-from_ascii}
use Rattle.std.proofs.lemmas.List.Sums.{fold-append}
use Rattle.jiff_core.proofs.SignedLemmas.{signed_arith}
use Rattle.jiff_core.proofs.CalendarLemmas.{days_in_month_bounds}
use Rattle.work_calendars.specs.Spelling.{SpellsDay, SpellsMinute, date_spelling, clock_spelling}
use Rattle.app_definition_records.specs.Fields.{number_value}

ascii_at : (text : List ℕ) → AllByRecursion (λ b. b < 128) text → (i : ℕ) → get_or text i 0 < 128
ascii_at [] all i = omega arith
ascii_at (b ∷ text) all zero = all.0
ascii_at (b ∷ text) all (suc i) = ascii_at text all.1 i

-- a text of a day is ASCII
pub IsUtf8-day : (text : List ℕ) (day : ℕ) → SpellsDay text day → IsUtf8 text
IsUtf8-day text day s =
    let in_year = s.date.year_in in
    let e = s.is_year in
    let year : s.year < 10000 = omega (arith, signed_arith) in
    let in_month = s.date.month_in in
    let in_day = s.date.day_in in
    let bound = days_in_month_bounds s.date.year s.date.month in
    let month : s.date.month < 100 = omega arith in
    let of_month : s.date.day < 100 = omega arith in
    rw s.text_is (IsUtf8-from_ascii _ (ascii_at (date_spelling s.year s.date.month s.date.day) (
      omega arith,
      (
        omega arith,
        (
          omega arith,
          (
            omega arith,
            (omega arith, (omega arith, (omega arith, (omega arith, (omega arith, (omega arith, tt)))))),
          ),
        ),
      ),
    )))

-- a text of a minute is ASCII
pub IsUtf8-minute : (text : List ℕ) (minute : ℕ) → SpellsMinute text minute → IsUtf8 text
IsUtf8-minute text minute s =
    let within = s.in_range in
    rw s.text_is (IsUtf8-from_ascii _ (ascii_at (clock_spelling (minute / 60) (minute % 60))
    (omega arith, (omega arith, (omega arith, (omega arith, (omega arith, tt)))))))

-- a digit more
pub number_value-more : (digits : List ℕ) (digit : ℕ)
    → number_value (digits ++ digit ∷ []) ≡ number_value digits * 10 + (digit - 48)
number_value-more digits digit = fold-append (λ n d. n * 10 + (d - 48)) 0 digits (digit ∷ [])

from-le : (n : ℕ) (more : List ℕ) → n ≤ fold (λ n d. n * 10 + (d - 48)) n more
from-le n [] = omega arith
from-le n (d ∷ more) =
    let h : n * 10 + (d - 48) ≤ fold (λ n d. n * 10 + (d - 48)) (n * 10 + (d - 48)) more =
    from-le (n * 10 + (d - 48)) more in
    omega (arith, h)

-- a number's first digits are no greater
pub number_value-le : (digits more : List ℕ) → number_value digits ≤ number_value (digits ++ more)
number_value-le digits more = rw (fold-append (λ n d. n * 10 + (d - 48)) 0 digits more)
    (from-le (number_value digits) more)

-- a text of one letter
pub one_letter : (text : List ℕ) (a : ℕ) → length text ≡ 1 → get_or text 0 0 ≡ a → text ≡ a ∷ []
one_letter [] a long is = absurd (omega (arith, long))
one_letter (x ∷ []) a long is = ap (λ y. y ∷ []) is
one_letter (x ∷ y ∷ text) a long is = absurd (omega (arith, long))

-- a text of three letters
pub three_letters : (text : List ℕ) (a b c : ℕ) → length text ≡ 3 → get_or text 0 0 ≡ a → get_or text 1 0 ≡ b
    → get_or text 2 0 ≡ c
    → text ≡ a ∷ b ∷ c ∷ []
three_letters [] a b c long p q r = absurd (omega (arith, long))
three_letters (x ∷ []) a b c long p q r = absurd (omega (arith, long))
three_letters (x ∷ y ∷ []) a b c long p q r = absurd (omega (arith, long))
three_letters (x ∷ y ∷ z ∷ []) a b c long p q r = rw (p, q, r) refl
three_letters (x ∷ y ∷ z ∷ w ∷ text) a b c long p q r = absurd (omega (arith, long))
