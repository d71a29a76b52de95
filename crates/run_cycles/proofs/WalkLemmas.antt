-- What a walk over the intervals that meet a range finds.
use Rattle.std.proofs.Common.{ℕ, ◌≤◌, ◌↔◌, List, Bool, Option, Some, None, ℤ, arith}
use Rattle.std.specs.Prelude.{Any}
use Rattle.plan_periods.specs.declared.intervals.Interval.{Interval}
use Rattle.plan_periods.specs.declared.periods.Period.{Period}
use Rattle.plan_periods.specs.Interval.{HoldsDay}
use Rattle.plan_periods.specs.Walk.{ListsMeeting}
use Rattle.run_cycles.specs.CountedDay.{IsCountedInInterval, IsWorkDayAt}
use Rattle.run_cycles.specs.Offset.{Offset, FromFirst, FromLast, offset_of}
use Rattle.run_cycles.specs.RawDay.{IsDayAt}
use Rattle.run_cycles.specs.Searches.{IsDayAtWithin, IsRawDayWithin}

-- a day at an offset lies in the interval
pub holds_day : (k : Offset) (first : ℕ) (end : Option ℕ) (x : ℕ) → IsDayAt k first end x → HoldsDay first end x
holds_day (FromFirst k) first end x h = (omega (arith, h.0, h.1), h.2)
holds_day (FromLast k) first (Some last) x h = (h.1, omega (arith, h.0, h.2))
holds_day (FromLast k) first None x h = absurd h

pub holds_work_day : (k : Offset) (work : ℕ → Bool) (first : ℕ) (end : Option ℕ) (d : ℕ) →
    IsWorkDayAt work k first end d → HoldsDay first end d
holds_work_day (FromFirst k) work first end d h = h.1
holds_work_day (FromLast k) work first (Some last) d h = h.1
holds_work_day (FromLast k) work first None d h = absurd h

module _ (period : Period) (low high : ℕ) (offsets : List ℤ)
    (left : List Interval) (lists : ListsMeeting period low high left) where
  -- an offset has a day within the range in one of the intervals of the walk, where it has one in any of the period
  pub raw_by_walk : Any (λ i. Any (λ k. IsDayAtWithin low high (offset_of k) i.first i.last) offsets) left ↔
      Any (λ k. IsRawDayWithin low high period (offset_of k)) offsets
  raw_by_walk = (
    (λ h.
        let (n, i, within, at, any) = h in
        let (j, k, inside, there, found) = any in
        let (x, from, to, day, is) = found in
        (j, k, inside, there, (x, from, to, (day, (i.first, i.last, ((lists.each i).0 (n, within, at)).0, is))))),
    λ h.
        let (j, k, inside, there, found) = h in
        let (x, from, to, raw) = found in
        let (day, some) = raw in
        let (first, end, interval, is) = some in
        let i : Interval = record { first = first; last = end } in
        let (n, within, at) = (lists.each i).1 (interval, (x, holds_day (offset_of k) first end x is, from, to)) in
        (n, i, within, at, (j, k, inside, there, (x, from, to, day, is))),
  )

itself : (d : ℕ) → d ≤ d
itself d = omega arith

module _ (period : Period) (work : ℕ → Bool) (d : ℕ) (offsets : List ℤ)
    (left : List Interval) (lists : ListsMeeting period d d left) where
  -- an offset counts the day in one of the intervals of the walk, where it counts it in any of the period
  pub counted_by_walk : Any (λ i. Any (λ k. IsWorkDayAt work (offset_of k) i.first i.last d) offsets) left ↔
      Any (λ k. IsCountedInInterval period (offset_of k) work d) offsets
  counted_by_walk = (
    (λ h.
        let (n, i, within, at, any) = h in
        let (j, k, inside, there, is) = any in
        (j, k, inside, there, (i.first, i.last, ((lists.each i).0 (n, within, at)).0, is))),
    λ h.
        let (j, k, inside, there, found) = h in
        let (first, end, interval, is) = found in
        let i : Interval = record { first = first; last = end } in
        let (n, within, at) = (lists.each i).1 (
          interval,
          (
            d,
            holds_work_day (offset_of k) work first end d is,
            itself d,
            itself d,
          ),
        ) in
        (n, i, within, at, (j, k, inside, there, is)),
  )
