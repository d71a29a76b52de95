-- For private contracts only, about the searches among offsets: what a number has to be, and what lies in a range.
use Rattle.std.specs.Prelude.{◌≡◌, ℕ, ◌+◌, ◌≤◌, ◌<◌, ◌⊎◌, ◌↔◌, Bool, ℤ, List, Any, Contains, Option, Some, None, IfSome}
use Rattle.work_calendars.specs.CountedIndex.{CountedStatuses}
use Rattle.work_calendars.specs.Day.{IsDay}
use Rattle.work_calendars.specs.WorkDay.{IsNthWorkDay}
use Rattle.plan_periods.specs.declared.periods.Period.{Period}
use Rattle.plan_periods.specs.Interval.{IsInterval, MeetsRange}
use Rattle.plan_periods.specs.declared.periods.Period.TheVariants.{All as AllDays, Work, Listed}
use Rattle.run_cycles.specs.declared.offsets.TheConstants.{MAX_OFFSET}
use Rattle.run_cycles.specs.declared.rules.Rule.{Rule}
use Rattle.run_cycles.specs.declared.rules.Rule.TheVariants.{WorkDaysOnly, Before, After, Same, Skip}
use Rattle.run_cycles.specs.Offset.{Offset, FromFirst, FromLast, offset_of}
use Rattle.run_cycles.specs.RawDay.{IsDayAt, IsRawDay}
use Rattle.run_cycles.specs.CountedDay.{IsWorkDayAt}
use Rattle.run_cycles.specs.Shift.{IsShifted}

-- the offset lies within n days, or work days, from either end of an interval
abbrev pub IsWithin : ℕ → Offset → Type 0
IsWithin n (FromFirst k) = k ≤ n
IsWithin n (FromLast k) = k ≤ n

-- how far from either end of an interval an offset can name a day; a listed interval may be open
abbrev pub reach_of : Period → ℕ
reach_of (AllDays _ n) = n
reach_of (Work _ n) = n
reach_of (Listed _) = MAX_OFFSET

-- the list gained the offset if that lies within n days, and no other
abbrev pub AddsWithin : ℕ → ℤ → List ℤ → List ℤ → Type 0
AddsWithin n offset old new =
    (k : ℤ) → Contains new k ↔ (Contains old k ⊎ ((k ≡ offset) × IsWithin n (offset_of k)))

-- the list has those of the offsets that lie within n days, and no others
abbrev pub KeepsWithin : ℕ → List ℤ → List ℤ → Type 0
KeepsWithin n offsets kept = (k : ℤ) → Contains kept k ↔ (Contains offsets k × IsWithin n (offset_of k))

-- x is the number at the offset among those from `start` to before an end, or with none
abbrev pub IsPlaceAt : Offset → ℕ → Option ℕ → ℕ → Type 0
IsPlaceAt (FromFirst k) start end x = (1 ≤ k) × (x + 1 ≡ start + k) × IfSome end (λ e. x < e)
IsPlaceAt (FromLast k) start (Some e) x = (1 ≤ k) × (start ≤ x) × (x + k ≡ e)
IsPlaceAt (FromLast k) start None x = ⊥

-- some day from `low` to `high` is at the offset of the interval
abbrev pub IsDayAtWithin : ℕ → ℕ → Offset → ℕ → Option ℕ → Type 0
IsDayAtWithin low high k first end = (x : ℕ) × (low ≤ x) × (x ≤ high) × IsDay x × IsDayAt k first end x

-- some day from `low` to `high` is the raw day at the offset
abbrev pub IsRawDayWithin : ℕ → ℕ → Period → Offset → Type 0
IsRawDayWithin low high period k = (x : ℕ) × (low ≤ x) × (x ≤ high) × IsRawDay period k x

-- a work day is counted at the offset where so many work days come before it, before the interval's first day, and up
-- to the interval's last day, if it has one
abbrev pub HasCount : Offset → ℕ → ℕ → Option ℕ → Type 0
HasCount (FromFirst k) before before_first up_to_last = before + 1 ≡ before_first + k
HasCount (FromLast k) before before_first (Some n) = n ≡ before + k
HasCount (FromLast k) before before_first None = ⊥

-- a number gives the day d: as the place of a work day where work days count alone, else as a raw day that becomes d
abbrev pub GivesPlace : Rule → (ℕ → Bool) → ℕ → ℕ → Type 0
GivesPlace WorkDaysOnly work x d = IsNthWorkDay work x d
GivesPlace Before work x d = IsDay x × IsShifted Before work x d
GivesPlace After work x d = IsDay x × IsShifted After work x d
GivesPlace Same work x d = IsDay x × IsShifted Same work x d
GivesPlace Skip work x d = IsDay x × IsShifted Skip work x d

-- how many questions a number takes at most
abbrev pub questions_of : Rule → ℕ
questions_of WorkDaysOnly = 1
questions_of Before = 2
questions_of After = 2
questions_of Same = 2
questions_of Skip = 2

-- the number at the offset gives d
abbrev pub IsGivenAt : Rule → (ℕ → Bool) → ℕ → Option ℕ → Offset → ℕ → Type 0
IsGivenAt rule work start end k d = (x : ℕ) × IsPlaceAt k start end x × GivesPlace rule work x d

-- d is given at the offset by the interval from `first` to an end, or with none
abbrev pub GivesIn : Rule → (ℕ → Bool) → ℕ → Option ℕ → Offset → ℕ → Type 0
GivesIn WorkDaysOnly work first end k d = IsWorkDayAt work k first end d
GivesIn Before work first end k d = (x : ℕ) × IsDay x × IsDayAt k first end x × IsShifted Before work x d
GivesIn After work first end k d = (x : ℕ) × IsDay x × IsDayAt k first end x × IsShifted After work x d
GivesIn Same work first end k d = (x : ℕ) × IsDay x × IsDayAt k first end x × IsShifted Same work x d
GivesIn Skip work first end k d = (x : ℕ) × IsDay x × IsDayAt k first end x × IsShifted Skip work x d

-- d is given at the offset by an interval of the period that meets the days from `from` to `to`
abbrev pub GivesInMet : Period → Rule → (ℕ → Bool) → ℕ → ℕ → Offset → ℕ → Type 0
GivesInMet period rule work from to k d =
    (first : ℕ) × (end : Option ℕ) × IsInterval period first end × MeetsRange first end from to
    × GivesIn rule work first end k d

-- d is one of the days from `low` to before `high`, and P holds of it at one of the offsets
abbrev pub IsInWindow : ℕ → ℕ → (Offset → ℕ → Type 0) → List ℤ → ℕ → Type 0
IsInWindow low high P offsets d = (low ≤ d) × (d < high) × Any (λ k. P (offset_of k) d) offsets

-- the list gained exactly the days that P holds of
abbrev pub AddsDays : (ℕ → Type 0) → List ℕ → List ℕ → Type 0
AddsDays P old new = (d : ℕ) → Contains new d ↔ (Contains old d ⊎ P d)

-- the index was asked so many questions at most
abbrev pub AsksAtMost : ℕ → CountedStatuses → CountedStatuses → Type 0
AsksAtMost n old new = (new.statuses ≡ old.statuses) × (new.asked ≤ old.asked + n)
