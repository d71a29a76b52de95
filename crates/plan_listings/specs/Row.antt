-- Rows as lists and trials show them, and the two ends of a dependency.
use Rattle.std.specs.Prelude.{◌≡◌, ℕ, ◌/◌, ◌%◌, List, [], ◌∷◌, ◌++◌, codes}
use Rattle.work_calendars.specs.Moment.{day_of_moment, minute_of_moment}
use Rattle.work_calendars.specs.Spelling.{digit, SpellsDay, SpellsMinute}
use Rattle.occurrences.specs.declared.row.Origin.{Origin}
use Rattle.occurrences.specs.declared.row.Origin.TheVariants.{Added, Generated}
use Rattle.occurrences.specs.declared.row.Row.{Row}
use Rattle.plan_listings.specs.Line.{left_in}

-- a serial's nine digits, leading zeros included
abbrev pub serial_text : ℕ → List ℕ
serial_text n =
    digit (n / 100000000 % 10) ∷ digit (n / 10000000 % 10) ∷ digit (n / 1000000 % 10)
    ∷ digit (n / 100000 % 10) ∷ digit (n / 10000 % 10) ∷ digit (n / 1000 % 10)
    ∷ digit (n / 100 % 10) ∷ digit (n / 10 % 10) ∷ digit (n % 10) ∷ []

-- the serial, and the application left in 16 places
abbrev pub name_text : Row → List ℕ
name_text row = serial_text row.serial ++ 32 ∷ left_in 16 row.key.app

-- `G` and the run cycle left in 8 places, or `A` and 8 blanks
abbrev pub origin_text : Origin → List ℕ
origin_text (Generated name) = codes "G " ++ left_in 8 name
origin_text Added = codes "A " ++ left_in 8 []

-- a moment's date and time
pub record IsMomentText (moment : ℕ) (text : List ℕ) : Type 0 where
  pub date : List ℕ
  pub time : List ℕ
  pub spells_date : SpellsDay date (day_of_moment moment)
  pub spells_time : SpellsMinute time (minute_of_moment moment)
  pub text_is : text ≡ date ++ 32 ∷ time

-- a row's input arrival and deadline
pub record AreTimesText (row : Row) (text : List ℕ) : Type 0 where
  pub ia : List ℕ
  pub deadline : List ℕ
  pub ia_is : IsMomentText row.key.ia ia
  pub deadline_is : IsMomentText row.deadline deadline
  pub text_is : text ≡ ia ++ 32 ∷ deadline

-- its serial, application, origin and run cycle
abbrev pub front_text : Row → List ℕ
front_text row = name_text row ++ 32 ∷ origin_text row.origin

-- a row: serial, application, origin, run cycle, input arrival, deadline
pub record IsRowText (row : Row) (text : List ℕ) : Type 0 where
  pub times : List ℕ
  pub times_are : AreTimesText row times
  pub text_is : text ≡ front_text row ++ 32 ∷ times

-- a row, and the letter of its status or reason
pub record IsMarkedText (row : Row) (letter : ℕ) (text : List ℕ) : Type 0 where
  pub shown : List ℕ
  pub shown_is : IsRowText row shown
  pub text_is : text ≡ shown ++ 32 ∷ letter ∷ []

-- an end of a dependency: serial, application, input arrival
pub record IsEndText (row : Row) (text : List ℕ) : Type 0 where
  pub ia : List ℕ
  pub ia_is : IsMomentText row.key.ia ia
  pub text_is : text ≡ name_text row ++ 32 ∷ ia

-- a dependency: the successor, then the predecessor
pub record IsPairText (successor predecessor : Row) (text : List ℕ) : Type 0 where
  pub waits : List ℕ
  pub waited_for : List ℕ
  pub waits_is : IsEndText successor waits
  pub waited_for_is : IsEndText predecessor waited_for
  pub text_is : text ≡ waits ++ 32 ∷ waited_for
