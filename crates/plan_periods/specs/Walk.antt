-- A walk over the intervals of a period that meet a range of days: what is left of it, and how many
-- intervals it has looked at.
use Rattle.std.specs.Prelude.{◌≡◌, ℕ, ◌+◌, ◌-◌, ◌/◌, ◌≤◌, ◌<◌, ◌↔◌, Option, List, length, IsNone}
use Rattle.std.specs.Option.{option_to_list}
use Rattle.std.specs.List.{Contains, AllPairs}
use Rattle.plan_periods.specs.Interval.{IsInterval, MeetsRange}
use Rattle.plan_periods.specs.declared.intervals.Interval.{Interval}
use Rattle.plan_periods.specs.declared.periods.Period.{Period}
use Rattle.plan_periods.specs.declared.periods.Period.TheVariants.{All as AllDays, Work, Listed}

-- the intervals of `period` that meet the days from `from` to `to`, of which `left` are still to come after
-- `visited` intervals were looked at
pub record Walk : Type 0 where
  pub period : Period
  pub from : ℕ
  pub to : ℕ
  pub left : List Interval
  pub visited : ℕ

-- the list has the intervals of the period that meet the range, each once, by rising first day
pub record ListsMeeting (period : Period) (from to : ℕ) (list : List Interval) : Type 0 where
  pub each : (x : Interval) → Contains list x ↔ (IsInterval period x.first x.last × MeetsRange x.first x.last from to)
  pub rising : AllPairs (λ x y. x.first < y.first) list

-- how many days a range has
abbrev pub days_of_range : ℕ → ℕ → ℕ
days_of_range from to = to + 1 - from

-- a walk over a period of days looks at no more intervals than fit into the range, and two
abbrev pub VisitsFew : Period → ℕ → ℕ → ℕ → Type 0
VisitsFew (AllDays _ n) from to visited = visited ≤ days_of_range from to / n + 2
VisitsFew (Work _ _) _ _ visited = visited ≡ 0
VisitsFew (Listed entries) _ _ visited = visited ≤ length entries

-- how many intervals were looked at before and after a call that gave this: each one given, and of a list
-- those that were passed over, at its end all
abbrev pub CountsVisits : Period → Option Interval → ℕ → ℕ → Type 0
CountsVisits (AllDays _ _) given before after = after ≡ before + length (option_to_list given)
CountsVisits (Work _ _) _ before after = after ≡ before
CountsVisits (Listed entries) given before after =
    (before + length (option_to_list given) ≤ after) × (IsNone given → after ≡ length entries)

-- a call that gave this went on with the walk over the same period and range
pub record GoesOn (old : Walk) (given : Option Interval) (new : Walk) : Type 0 where
  pub period : new.period ≡ old.period
  pub from : new.from ≡ old.from
  pub to : new.to ≡ old.to
  pub visits : CountsVisits old.period given old.visited new.visited
