-- Texts that spell days, minutes and numbers.
use Rattle.std.proofs.Common.{◌≡◌, ℕ, ℤ, pos, negsuc, zero, suc, ◌+◌, ◌<◌, ◌≤◌, ◌+ℤ◌, ◌≤ℤ◌, List, []}
use Rattle.std.proofs.Common.{refl, sym, ap, subst, ◌∙◌, inl, inr, arith}
use Rattle.std.proofs.lemmas.Int.{by_lt_z}
use Rattle.std.proofs.lemmas.Bool.{cases_lt}
use Rattle.jiff_core.specs.declared.civil.date.Date.{Date}
use Rattle.jiff_core.specs.Calendar.{days_from_civil, days_in_month, IsYear}
use Rattle.jiff_core.specs.Date.{epoch_day}
use Rattle.jiff_core.proofs.CalendarLemmas.{day_count-epoch, days_from_civil-day_count, days_in_month_bounds}
use Rattle.jiff_core.proofs.DateLemmas.{days_from_civil-day, days_from_civil-next_month, days_from_civil-next_year}
use Rattle.jiff_core.proofs.DateLemmas.{days_from_civil-max}
use Rattle.jiff_core.proofs.SignedLemmas.{signed_arith}
use Rattle.work_calendars.specs.Day.{IsDay, first_day, last_day}
use Rattle.work_calendars.specs.Spelling.{SpellsDay, date_spelling}
use Rattle.work_calendars.proofs.SpellingFacts.{natural_year}

-- a date of each day number
abbrev HasDate : ℕ → Type 0
HasDate day = (date : Date) × (epoch_day date ≡ pos day)

first : Date
first = record {
  year = pos 1970;
  month = 1;
  day = 1;
  year_in = omega (arith, signed_arith);
  month_in = omega arith;
  day_in = omega arith;
}

first_is : epoch_day first ≡ pos 0
unfolding first
first_is = omega (arith, signed_arith, days_from_civil-day_count (pos 1970) 1 1, day_count-epoch)

in_month : (day : ℕ) (date : Date) → epoch_day date ≡ pos day → date.day < days_in_month date.year date.month
    → HasDate (suc day)
in_month day date is more =
    let bound = date.day_in in
    let e = days_from_civil-day date.year date.month (date.day + 1) date.day (omega arith) bound.0 in (
      record {
        year = date.year;
        month = date.month;
        day = date.day + 1;
        year_in = date.year_in;
        month_in = date.month_in;
        day_in = (omega arith, omega arith);
      },
      omega (arith, signed_arith),
    )

in_year : (day : ℕ) (date : Date) → epoch_day date ≡ pos day → date.day ≡ days_in_month date.year date.month
    → date.month < 12 → HasDate (suc day)
in_year day date is last before =
    let months = date.month_in in
    let long = days_in_month_bounds date.year (date.month + 1) in
    let e = days_from_civil-next_month date.year date.month date.day months.0 last in (
      record {
        year = date.year;
        month = date.month + 1;
        day = 1;
        year_in = date.year_in;
        month_in = (omega arith, omega arith);
        day_in = (omega arith, omega arith);
      },
      omega (arith, signed_arith),
    )

next_year : (day : ℕ) (date : Date) → epoch_day date ≡ pos day → day < 2000000
    → date.day ≡ days_in_month date.year date.month → date.month ≡ 12 → HasDate (suc day)
next_year day date is low last december =
    let long : days_in_month date.year date.month ≡ 31 = ap (days_in_month date.year) december in
    let day_is : date.day ≡ 31 = last ∙ long in
    let bounds = date.year_in in
    let here : days_from_civil date.year 12 31 ≡ pos day =
    ap (λ m. days_from_civil date.year m 31) (sym december)
    ∙ ap (days_from_civil date.year date.month) (sym day_is) ∙ is in
    let after = date.year +ℤ pos 1 in
    let not_last : date.year ≡ pos 9999 → ⊥ = λ same.
    let there : days_from_civil (pos 9999) 12 31 ≡ pos day = subst (λ y. days_from_civil y 12 31 ≡ pos day) same here in
    let wrong : pos 2932896 ≡ pos day = sym days_from_civil-max ∙ there in omega (arith, signed_arith) in
    let e = days_from_civil-next_year date.year after (omega (arith, signed_arith)) refl in (
      record {
        year = after;
        month = 1;
        day = 1;
        year_in = by_lt_z date.year (pos 9999)
            (λ lt. let within : IsYear after = (omega (arith, signed_arith), omega (arith, signed_arith)) in within)
            (λ ge. absurd (not_last (omega (arith, signed_arith))));
        month_in = (omega arith, omega arith);
        day_in = (omega arith, omega arith);
      },
      omega (arith, signed_arith),
    )

next_date : (day : ℕ) → day < 2000000 → HasDate day → HasDate (suc day)
next_date day low (date, is) =
    let bound = date.day_in in let months = date.month_in in
    elim (cases_lt date.day (days_in_month date.year date.month)) [
      | inl more ↦ in_month day date is more
      | inr last ↦ elim (cases_lt date.month 12) [
        | inl before ↦ in_year day date is (omega arith) before
        | inr december ↦ next_year day date is low (omega arith) (omega arith)
      ]
    ]

has_date : (day : ℕ) → day ≤ 2000000 → HasDate day
has_date zero low = (first, first_is)
has_date (suc day) low = next_date day (omega arith) (has_date day (omega arith))

-- a text of each day
text_of : (day : ℕ) → IsDay day → (text : List ℕ) × SpellsDay text day
text_of day in_range =
    let (date, is) = has_date day (omega arith) in
    let natural = natural_year date day is in
    let (year, year_is) = natural_of date.year natural in (
      date_spelling year date.month date.day,
      record { date = date; year = year; is_year = year_is; number = is; in_range = in_range; text_is = refl },
    )
  where
    natural_of : (z : ℤ) → pos 0 ≤ℤ z → (n : ℕ) × (z ≡ pos n)
    natural_of (pos n) low = (n, refl)
    natural_of (negsuc n) low = absurd (omega (arith, signed_arith))

spelled_day : (day : ℕ) → (text : List ℕ) × (IsDay day → SpellsDay text day)
spelled_day day = elim (cases_lt day first_day) [
  | inl early ↦ ([], λ in_range. absurd (omega (arith, in_range.0)))
  | inr begun ↦ elim (cases_lt last_day day) [
    | inl late ↦ ([], λ in_range. absurd (omega (arith, in_range.1)))
    | inr within ↦ let (text, spells) = text_of day (begun, within) in (text, λ in_range. spells)
  ]
]

pub day_text : ℕ → List ℕ
day_text day = (spelled_day day).0

pub day_spelled : (day : ℕ) → IsDay day → SpellsDay (day_text day) day
unfolding day_text
day_spelled day in_range = (spelled_day day).1 in_range
