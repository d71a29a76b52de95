-- How days, minutes and moments are spelled: YYYY-MM-DD, HH.MM, and YYYY-MM-DD/HH.MM, with all digits present.
use Rattle.std.specs.Prelude.{◌≡◌, ℕ, ◌+◌, ◌/◌, ◌%◌, List, [], ◌∷◌, ◌++◌, pos, codes}
use Rattle.jiff_core.specs.declared.civil.date.Date.{Date}
use Rattle.jiff_core.specs.Date.{epoch_day}
use Rattle.work_calendars.specs.Day.{IsDay}
use Rattle.work_calendars.specs.Minute.{IsMinute}
use Rattle.work_calendars.specs.Moment.{day_of_moment, minute_of_moment}

-- the decimal digit of a number below ten
abbrev pub digit : ℕ → ℕ
digit n = 48 + n

-- the two digits of a number below a hundred
abbrev pub two_digits : ℕ → List ℕ
two_digits n = digit (n / 10) ∷ digit (n % 10) ∷ []

-- the four digits of a number below ten thousand
abbrev pub four_digits : ℕ → List ℕ
four_digits n =
    digit (n / 1000) ∷ digit (n / 100 % 10) ∷ digit (n / 10 % 10) ∷ digit (n % 10) ∷ []

-- a year, a month and a day of the month, with '-' between them
abbrev pub date_spelling : ℕ → ℕ → ℕ → List ℕ
date_spelling year month day = four_digits year ++ codes "-" ++ two_digits month ++ codes "-" ++ two_digits day

-- an hour and a minute of the hour, with '.' between them
abbrev pub clock_spelling : ℕ → ℕ → List ℕ
clock_spelling hour minute = two_digits hour ++ codes "." ++ two_digits minute

-- the text spells the date of the calendar that has that day number, which is one of the range
pub record SpellsDay (text : List ℕ) (day : ℕ) : Type 0 where
  pub date : Date
  pub year : ℕ
  pub is_year : date.year ≡ pos year
  pub number : epoch_day date ≡ pos day
  pub in_range : IsDay day
  pub text_is : text ≡ date_spelling year date.month date.day

-- the text spells the hour and the minute of that minute of the day
pub record SpellsMinute (text : List ℕ) (minute : ℕ) : Type 0 where
  pub in_range : IsMinute minute
  pub text_is : text ≡ clock_spelling (minute / 60) (minute % 60)

-- the text spells the moment's day and its minute, with '/' between them
pub record SpellsMoment (text : List ℕ) (moment : ℕ) : Type 0 where
  pub day_text : List ℕ
  pub minute_text : List ℕ
  pub spells_day : SpellsDay day_text (day_of_moment moment)
  pub spells_minute : SpellsMinute minute_text (minute_of_moment moment)
  pub text_is : text ≡ day_text ++ (codes "/" ++ minute_text)
