-- Which days run cycles name can be decided, and the occurrences of some days are finite.
use Rattle.std.proofs.Common.{◌≡◌, ℕ, zero, suc, ◌+◌, ◌-◌, ◌*◌, ◌<◌, ◌≤◌, ◌%◌, Bool, List}
use Rattle.std.proofs.Common.{length, refl, sym, ap, subst, ◌∙◌, inl, inr, arith, Option, None, Some, slice_get}
use Rattle.std.proofs.Common.{mul-suc, mul-zero}
use Rattle.std.specs.List.{Contains}
use Rattle.std.specs.FinMap as map
use Rattle.std.specs.Cmp.Lexicographic.{slice_cmp}
use Rattle.std.specs.Ordering.{nat_cmp, is_gt}
use Rattle.std.proofs.lemmas.Option.{slice_get_past}
use Rattle.work_calendars.specs.Day.{IsDay, first_day, last_day}
use Rattle.work_calendars.specs.WorkDay.{IsNextWorkDay, IsPreviousWorkDay}
use Rattle.plan_periods.specs.declared.periods.Period.{Period}
use Rattle.plan_periods.specs.declared.periods.Period.TheVariants.{All as AllDays, Work, Listed}
use Rattle.plan_periods.specs.Interval.{IsInterval, HoldsDay, last_of_entry}
use Rattle.plan_periods.specs.Period.{Entry}
use Rattle.run_cycles.specs.declared.cycles.Deadline.{Deadline}
use Rattle.run_cycles.specs.declared.cycles.CycleType.{CycleType}
use Rattle.run_cycles.specs.declared.cycles.CycleType.TheVariants.{Normal, Negative}
use Rattle.run_cycles.specs.declared.cycles.RunCycle.{RunCycle}
use Rattle.run_cycles.specs.declared.named.Named.{Named}
use Rattle.run_cycles.specs.declared.rules.Rule.{Rule}
use Rattle.run_cycles.specs.declared.rules.Rule.TheVariants.{WorkDaysOnly, Before, After, Same, Skip}
use Rattle.run_cycles.specs.CountedDay.{HasPlace, IsCountedInInterval, IsWorkDayAt, work_days_among, work_days_from_to}
use Rattle.run_cycles.specs.NamedDay.{GivesDay, IsShiftedDay, NamesDay}
use Rattle.run_cycles.specs.Occurrence.{HasDeadline, IsGivenBy, IsNegative, IsNormal, IsOccurrence}
use Rattle.run_cycles.specs.Occurrence.{IsOccurrenceBetween, NamesAt, PeriodMap, deadline_of}
use Rattle.run_cycles.specs.Offset.{FromFirst, FromLast, Offset, offset_of}
use Rattle.run_cycles.specs.RawDay.{IsDayAt, IsRawDay}
use Rattle.run_cycles.specs.Shift.{IsMoved, IsShifted}
use Rattle.planner_answers.proofs.Finite.{Decided, Finite, decided_all, decided_any, decided_both, decided_if}
use Rattle.planner_answers.proofs.Finite.{decided_three, decided_le, decided_lt, decided_not, decided_number, decided_so}
use Rattle.planner_answers.proofs.Finite.{finite_below, finite_from, finite_if, finite_list, finite_made}
use Rattle.planner_answers.proofs.Finite.{finite_none, finite_one, finite_over, finite_so}
use Rattle.planner_answers.proofs.Equal.{decided_all_in, decided_any_in, decided_false, decided_if_some, decided_match}
use Rattle.planner_answers.proofs.Equal.{decided_name, decided_some_and, decided_true}

-- the intervals of a period that begin by a day

abbrev IntervalBy : Period → ℕ → ℕ × Option ℕ → Type 0
IntervalBy period end i = IsInterval period i.0 i.1 × (i.0 ≤ end)

-- the j-th interval of days
abbrev at_place : ℕ → ℕ → ℕ → ℕ × Option ℕ
at_place origin n j = (origin + j * n, Some (origin + j * n + n - 1))

no_more : (j m : ℕ) → j ≤ j * suc m
no_more j m = let e : j * suc m ≡ j * m + j = mul-suc j m in omega (arith, e)

module _ (origin n end bound : ℕ)
    (near : (j : ℕ) → origin + j * n ≤ end → (i : ℕ) × (i < bound) × (origin + i * n ≡ origin + j * n)) where
  abbrev Fits : ℕ × Option ℕ → Type 0
  Fits i = (i.0 + n - 1 ≤ last_day) × (i.0 ≤ end)

  abbrev Placed : ℕ × Option ℕ → Type 0
  Placed i = ((j : ℕ) × (j < bound) × (at_place origin n j ≡ i)) × Fits i

  placed_is : (i : ℕ × Option ℕ) → Placed i → IntervalBy (AllDays origin n) end i
  placed_is i ((j, lt, same), fits) =
      let first : origin + j * n ≡ i.0 = ap (λ (x : ℕ × Option ℕ). x.0) same in
      let last : Some (origin + j * n + n - 1) ≡ i.1 = ap (λ (x : ℕ × Option ℕ). x.1) same in
      ((j, sym first, sym last ∙ ap (λ f. Some (f + n - 1)) first, fits.0), fits.1)

  is_placed : (i : ℕ × Option ℕ) → IntervalBy (AllDays origin n) end i → Placed i
  is_placed i ((j, first, last, fits), early) =
      let (k, lt, same) = near j (subst (λ f. f ≤ end) first early) in
      let begins : origin + k * n ≡ i.0 = same ∙ sym first in
      ((k, lt, λ t. (begins t, (ap (λ f. Some (f + n - 1)) begins ∙ sym last) t)), (fits, early))

  all_placed : Finite (IntervalBy (AllDays origin n) end)
  all_placed = finite_so placed_is is_placed
      (finite_if (finite_made (at_place origin n) (finite_below bound))
      (λ i h. decided_both (decided_le (i.0 + n - 1) last_day) (decided_le i.0 end)))

all_intervals : (origin n end : ℕ) → Finite (IntervalBy (AllDays origin n) end)
all_intervals origin zero end =
    all_placed origin zero end 1 (λ j h. (zero, omega arith, ap (λ x. origin + x) (mul-zero zero ∙ sym (mul-zero j))))
all_intervals origin (suc m) end =
    all_placed origin (suc m) end (suc end) (λ j h. (j, (let up = no_more j m in omega (arith, up)), refl))

module _ (entries : List Entry) (end : ℕ) where
  abbrev EntryAt : ℕ → ℕ × Option ℕ → Type 0
  EntryAt k i = (own : Option ℕ) × (slice_get entries k ≡ Some (i.0, own))
      × (i.1 ≡ last_of_entry own (slice_get entries (k + 1)))

  abbrev made_of : ℕ → Entry → ℕ × Option ℕ
  made_of k e = (e.0, last_of_entry e.1 (slice_get entries (k + 1)))

  entry_at : (k : ℕ) (o : Option Entry) → slice_get entries k ≡ o → Finite (EntryAt k)
  entry_at k None is = finite_none (λ i (own, at, last). let no : ⊥ = cc in no)
  entry_at k (Some e) is = finite_so to back (finite_one (made_of k e))
    where
      to : (i : ℕ × Option ℕ) → made_of k e ≡ i → EntryAt k i
      to i same = subst (EntryAt k) same (e.1, is, refl)

      back : (i : ℕ × Option ℕ) → EntryAt k i → made_of k e ≡ i
      back i (own, at, last) =
          let whole : ◌≡◌ {A = Option Entry} (Some e) (Some (i.0, own)) = sym is ∙ at in
          let same : ◌≡◌ {A = Entry} e (i.0, own) = cc in
          let first : e.0 ≡ i.0 = ap (λ (x : Entry). x.0) same in
          let ends : e.1 ≡ own = ap (λ (x : Entry). x.1) same in
          λ t. (first t, (ap (λ o. last_of_entry o (slice_get entries (k + 1))) ends ∙ sym last) t)

  entry_there : (k : ℕ) (e : Entry) → slice_get entries k ≡ Some e → k < length entries
  entry_there k e at = elim (decided_lt k (length entries)) [
    | inl lt ↦ lt
    | inr past ↦
        let none = slice_get_past entries k (omega arith) in
        absurd (let no : ⊥ = cc in no)
  ]

  listed_intervals : Finite (IntervalBy (Listed entries) end)
  listed_intervals =
      finite_so
      (λ i ((k, lt, (own, at, last)), early). ((k, own, at, last), early))
      (λ i ((k, own, at, last), early). ((k, entry_there k (i.0, own) at, (own, at, last)), early))
      (finite_if (finite_over EntryAt (finite_below (length entries)) (λ k lt. entry_at k (slice_get entries k) refl))
      (λ i h. decided_le i.0 end))

pub finite_intervals : (period : Period) (end : ℕ) → Finite (IntervalBy period end)
finite_intervals (AllDays origin n) end = all_intervals origin n end
finite_intervals (Work origin n) end = finite_none (λ i h. h.0)
finite_intervals (Listed entries) end = listed_intervals entries end

-- some interval with a fact that only holds where it begins by the day
pub decided_interval : (period : Period) (end : ℕ) (P : ℕ → Option ℕ → Type 0)
    → ((first : ℕ) (last : Option ℕ) → P first last → first ≤ end)
    → ((first : ℕ) (last : Option ℕ) → Decided (P first last))
    → Decided ((first : ℕ) × (last : Option ℕ) × IsInterval period first last × P first last)
decided_interval period end P early test =
    decided_so
    (λ (i, is, p). (i.0, i.1, is.0, p))
    (λ (first, last, is, p). ((first, last), (is, early first last p), p))
    (decided_any (finite_intervals period end) (λ i is. test i.0 i.1))

decided_holds : (first : ℕ) (end : Option ℕ) (d : ℕ) → Decided (HoldsDay first end d)
decided_holds first end d = decided_both (decided_le first d) (decided_if_some end (λ last. decided_le d last))

decided_work_day_at : (work : ℕ → Bool) (k : Offset) (first : ℕ) (end : Option ℕ) (d : ℕ)
    → Decided (IsWorkDayAt work k first end d)
decided_work_day_at work (FromFirst k) first end d =
    decided_three (decided_true (work d)) (decided_holds first end d) (decided_number (work_days_from_to work first d) k)
decided_work_day_at work (FromLast k) first (Some last) d =
    decided_three (decided_true (work d)) (decided_holds first (Some last) d)
    (decided_number (work_days_from_to work d last) k)
decided_work_day_at work (FromLast k) first None d = inr (λ h. h)

work_day_early : (work : ℕ → Bool) (k : Offset) (d first : ℕ) (end : Option ℕ) → IsWorkDayAt work k first end d
    → first ≤ d
work_day_early work (FromFirst k) d first end h = h.1.0
work_day_early work (FromLast k) d first (Some last) h = h.1.0
work_day_early work (FromLast k) d first None h = absurd h

decided_counted_in : (period : Period) (k : Offset) (work : ℕ → Bool) (d : ℕ)
    → Decided (IsCountedInInterval period k work d)
decided_counted_in period k work d =
    decided_interval period d (λ first end. IsWorkDayAt work k first end d) (work_day_early work k d)
    (λ first end. decided_work_day_at work k first end d)

decided_place : (k : Offset) (n c : ℕ) → Decided (HasPlace k n c)
decided_place (FromFirst k) n c = decided_three (decided_le 1 k) (decided_le k n) (decided_number (c % n + 1) k)
decided_place (FromLast k) n c = decided_three (decided_le 1 k) (decided_le k n) (decided_number (c % n + k) n)

decided_day_at : (k : Offset) (first : ℕ) (end : Option ℕ) (x : ℕ) → Decided (IsDayAt k first end x)
decided_day_at (FromFirst k) first end x =
    decided_three (decided_le 1 k) (decided_number (x + 1) (first + k)) (decided_if_some end (λ last. decided_le x last))
decided_day_at (FromLast k) first (Some last) x =
    decided_three (decided_le 1 k) (decided_le first x) (decided_number (x + k) (last + 1))
decided_day_at (FromLast k) first None x = inr (λ h. h)

day_early : (k : Offset) (x first : ℕ) (end : Option ℕ) → IsDayAt k first end x → first ≤ x
day_early (FromFirst k) x first end h = let a = h.0 in let b = h.1 in omega (arith, a, b)
day_early (FromLast k) x first (Some last) h = h.1
day_early (FromLast k) x first None h = absurd h

pub decided_day : (x : ℕ) → Decided (IsDay x)
decided_day x = decided_both (decided_le first_day x) (decided_le x last_day)

decided_raw : (period : Period) (k : Offset) (x : ℕ) → Decided (IsRawDay period k x)
decided_raw period k x =
    decided_both (decided_day x)
    (decided_interval period x (λ first end. IsDayAt k first end x) (day_early k x)
    (λ first end. decided_day_at k first end x))

decided_next : (work : ℕ → Bool) (d e : ℕ) → Decided (IsNextWorkDay work d e)
decided_next work d e =
    decided_so
    (λ (later, is, nearest). record { later = later; is_work = is; nearest = λ x up down. nearest x down up })
    (λ h. (h.later, h.is_work, λ x down up. h.nearest x up down))
    (decided_three (decided_lt d e) (decided_true (work e))
    (decided_all (finite_below e) (λ x down. decided_if (decided_lt d x) (decided_false (work x)))))

decided_previous : (work : ℕ → Bool) (d e : ℕ) → Decided (IsPreviousWorkDay work d e)
decided_previous work d e =
    decided_so
    (λ (earlier, is, nearest). record { earlier = earlier; is_work = is; nearest = λ x up down. nearest x down up })
    (λ h. (h.earlier, h.is_work, λ x down up. h.nearest x up down))
    (decided_three (decided_lt e d) (decided_true (work e))
    (decided_all (finite_below d) (λ x down. decided_if (decided_lt e x) (decided_false (work x)))))

decided_moved : (rule : Rule) (work : ℕ → Bool) (x d : ℕ) → Decided (IsMoved rule work x d)
decided_moved WorkDaysOnly work x d = inr (λ h. h)
decided_moved Before work x d = decided_previous work x d
decided_moved After work x d = decided_next work x d
decided_moved Same work x d = decided_number d x
decided_moved Skip work x d = inr (λ h. h)

decided_shifted : (rule : Rule) (work : ℕ → Bool) (x d : ℕ) → Decided (IsShifted rule work x d)
decided_shifted rule work x d = decided_match (work x) (decided_number d x) (decided_moved rule work x d)

decided_shifted_day : (period : Period) (rule : Rule) (work : ℕ → Bool) (d : ℕ) (k : Offset)
    → Decided (IsShiftedDay period rule work d k)
decided_shifted_day period rule work d k =
    decided_so
    (λ (x, within, both). (x, both.0, both.1))
    (λ (x, raw, shifted). (x, ((let top = raw.0.1 in omega (arith, top)), raw.0.0), (raw, shifted)))
    (decided_any (finite_from first_day (suc last_day))
    (λ x within. decided_both (decided_raw period k x) (decided_shifted rule work x d)))

decided_gives : (period : Period) (rule : Rule) (work : ℕ → Bool) (d : ℕ) (k : Offset)
    → Decided (GivesDay period rule work d k)
decided_gives (Work origin n) rule work d k =
    decided_three (decided_true (work d)) (decided_le origin d)
    (decided_place k n (work_days_among work origin (d - origin)))
decided_gives (AllDays origin n) WorkDaysOnly work d k = decided_counted_in (AllDays origin n) k work d
decided_gives (AllDays origin n) Before work d k = decided_shifted_day (AllDays origin n) Before work d k
decided_gives (AllDays origin n) After work d k = decided_shifted_day (AllDays origin n) After work d k
decided_gives (AllDays origin n) Same work d k = decided_shifted_day (AllDays origin n) Same work d k
decided_gives (AllDays origin n) Skip work d k = decided_shifted_day (AllDays origin n) Skip work d k
decided_gives (Listed entries) WorkDaysOnly work d k = decided_counted_in (Listed entries) k work d
decided_gives (Listed entries) Before work d k = decided_shifted_day (Listed entries) Before work d k
decided_gives (Listed entries) After work d k = decided_shifted_day (Listed entries) After work d k
decided_gives (Listed entries) Same work d k = decided_shifted_day (Listed entries) Same work d k
decided_gives (Listed entries) Skip work d k = decided_shifted_day (Listed entries) Skip work d k

-- whether the run cycle, with this period, names the day
pub decided_names : (cycle : RunCycle) (period : Period) (work : ℕ → Bool) (d : ℕ) → Decided (NamesDay cycle period work d)
decided_names cycle period work d =
    decided_both
    (decided_both (decided_le cycle.in_effect d) (decided_if_some cycle.out_effect (λ out. decided_lt d out)))
    (decided_any_in cycle.offsets (λ k. decided_gives period cycle.rule work d (offset_of k)))

module _ (periods : PeriodMap) (work : ℕ → Bool) where
  decided_names_at : (d t : ℕ) (cycle : RunCycle) → Decided (NamesAt periods work d t cycle)
  decided_names_at d t cycle =
      decided_both (decided_number cycle.ia t)
      (decided_some_and (map.get periods cycle.period) (λ period. decided_names cycle period work d))

  decided_normal : (kind : CycleType) → Decided (IsNormal kind)
  decided_normal (Normal own) = inl tt
  decided_normal (Negative own) = inr (λ h. h)

  decided_negative : (kind : CycleType) → Decided (IsNegative kind)
  decided_negative (Normal own) = inr (λ h. h)
  decided_negative (Negative own) = inl tt

  decided_deadline : (kind : CycleType) (x : Named)
      → Decided ((deadline : Deadline) × HasDeadline kind deadline × (x.deadline ≡ deadline_of x.day deadline))
  decided_deadline (Normal own) x =
      decided_so (λ same. (own, refl, same))
      (λ (deadline, is, same). same ∙ ap (deadline_of x.day) is)
      (decided_number x.deadline (deadline_of x.day own))
  decided_deadline (Negative own) x = inr (λ (deadline, is, same). is)

  decided_given_by : (x : Named) (cycle : RunCycle) → Decided (IsGivenBy periods work x cycle)
  decided_given_by x cycle =
      decided_three (decided_deadline cycle.kind x) (decided_names_at x.day x.time cycle)
      (decided_name x.run_cycle cycle.name)

  decided_occurrence : (cycles : List RunCycle) (x : Named) → Decided (IsOccurrence cycles periods work x)
  decided_occurrence cycles x =
      decided_so
      (λ (given, least, kept). record { given = given; least = least; kept = kept })
      (λ h. (h.given, h.least, h.kept))
      (decided_three (decided_any_in cycles (decided_given_by x))
      (decided_all_in cycles (λ cycle. decided_if
      (decided_both (decided_normal cycle.kind) (decided_names_at x.day x.time cycle))
      (decided_false (is_gt (slice_cmp nat_cmp x.run_cycle cycle.name)))))
      (decided_all_in cycles (λ cycle. decided_not
      (decided_both (decided_negative cycle.kind) (decided_names_at x.day x.time cycle)))))

  -- what a run cycle may give on a day
  abbrev MayGive : ℕ → RunCycle → Named → Type 0
  MayGive d cycle x = (own : Deadline) × HasDeadline cycle.kind own
      × (◌≡◌ {A = Named} (record { day = d; time = cycle.ia; run_cycle = cycle.name; deadline = deadline_of d own }) x)

  may_give : (d : ℕ) (cycle : RunCycle) → Finite (MayGive d cycle)
  may_give d cycle = by_kind cycle.kind refl
    where
      by_kind : (kind : CycleType) → cycle.kind ≡ kind → Finite (MayGive d cycle)
      by_kind (Normal own) is =
          finite_so
          (λ x same. (own, subst (λ k. HasDeadline k own) (sym is) refl, same))
          (λ x (deadline, has, same). ap (λ o. record {
            day = d;
            time = cycle.ia;
            run_cycle = cycle.name;
            deadline = deadline_of d o;
          }) (sym (subst (λ k. HasDeadline k deadline) is has)) ∙ same)
          (finite_one (record { day = d; time = cycle.ia; run_cycle = cycle.name; deadline = deadline_of d own }))
      by_kind (Negative own) is = finite_none (λ x (deadline, has, same). subst (λ k. HasDeadline k deadline) is has)

  abbrev MayBe : List RunCycle → ℕ → Named → Type 0
  MayBe cycles d x = (cycle : RunCycle) × Contains cycles cycle × MayGive d cycle x

  may_be : (cycles : List RunCycle) (d : ℕ) → Finite (MayBe cycles d)
  may_be cycles d = finite_over (MayGive d) (finite_list cycles) (λ cycle there. may_give d cycle)

  -- the occurrences of the days from one to another
  pub finite_occurrences : (cycles : List RunCycle) (from to : ℕ)
      → Finite (IsOccurrenceBetween cycles periods work from to)
  finite_occurrences cycles from to =
      finite_so forward backward
      (finite_if (finite_over (MayBe cycles) (finite_from from (suc to)) (λ d within. may_be cycles d))
      (λ x h. decided_occurrence cycles x))
    where
      forward : (x : Named)
          → ((d : ℕ) × ((d < suc to) × (from ≤ d)) × MayBe cycles d x) × IsOccurrence cycles periods work x
          → IsOccurrenceBetween cycles periods work from to x
      forward x ((d, within, (cycle, there, (own, has, same))), is) =
          let day : d ≡ x.day = ap (λ (y : Named). y.day) same in
          let below = within.0 in
          let above = within.1 in
          (omega (arith, day, above), omega (arith, day, below), is)

      backward : (x : Named) → IsOccurrenceBetween cycles periods work from to x
          → ((d : ℕ) × ((d < suc to) × (from ≤ d)) × MayBe cycles d x) × IsOccurrence cycles periods work x
      backward x (above, below, is) =
          let (k, cycle, lt, at, ((own, has, due), names, name)) = is.given in (
            (
              x.day,
              (omega (arith, below), above),
              (
                cycle,
                (k, lt, at),
                (own, has, λ i. record { day = x.day; time = names.0 i; run_cycle = sym name i; deadline = sym due i }),
              ),
            ),
            is,
          )
