-- Which days the numbers at offsets give.
use Rattle.std.proofs.Common.{◌≡◌, ℕ, ◌+◌, ◌<◌, ◌≤◌, ◌↔◌, zero, suc, Bool, false, List, Option, Some, None, IsTrue}
use Rattle.std.proofs.Common.{IsNone, IfSome, option_map, ⊎_elim, sym, subst, ap, refl, arith}
use Rattle.std.specs.Prelude.{MatchBool}
use Rattle.std.proofs.lemmas.Bool.{cases_lt}
use Rattle.work_calendars.specs.Day.{IsDay, last_day}
use Rattle.work_calendars.specs.WorkDay.{IsNthWorkDay, work_days_before}
use Rattle.work_calendars.specs.WorkIndex.{is_work_in}
use Rattle.work_calendars.proofs.WorkIndexFacts.{is_work_in-past}
use Rattle.work_calendars.proofs.WorkDayFacts.{IsNthWorkDay-unique, work_days_before-le, work_days_before-free}
use Rattle.work_calendars.proofs.WorkDayFacts.{work_days_before-mono, work_days_before-strict, work_days_before-work}
use Rattle.run_cycles.specs.declared.rules.Rule.{Rule}
use Rattle.run_cycles.specs.declared.rules.Rule.TheVariants.{WorkDaysOnly, Before, After, Same, Skip}
use Rattle.run_cycles.specs.Shift.{IsShifted, IsMoved}
use Rattle.plan_periods.specs.Interval.{HoldsDay}
use Rattle.run_cycles.specs.CountedDay.{IsWorkDayAt}
use Rattle.run_cycles.specs.Offset.{Offset, FromFirst, FromLast}
use Rattle.run_cycles.specs.RawDay.{IsDayAt}
use Rattle.run_cycles.specs.Searches.{GivesIn, GivesPlace, IsGivenAt}
use Rattle.run_cycles.proofs.CountLemmas.{from_to_before}
use Rattle.run_cycles.proofs.PlaceLemmas.{place_is_day}

-- where offsets count all days, a number gives what its day becomes
pub gives_place : (rule : Rule) (work : ℕ → Bool) (x d : ℕ) →
    ¬ (rule ≡ WorkDaysOnly) → GivesPlace rule work x d ≡ (IsDay x × IsShifted rule work x d)
gives_place WorkDaysOnly work x d other = absurd (other refl)
gives_place Before work x d other = refl
gives_place After work x d other = refl
gives_place Same work x d other = refl
gives_place Skip work x d other = refl

-- a free day becomes what it is moved to
pub free_moved : (rule : Rule) (work : ℕ → Bool) (x d : ℕ) →
    work x ≡ false → IsShifted rule work x d → IsMoved rule work x d
free_moved rule work x d free h = let P : Bool → Type 0 = λ b. MatchBool b (d ≡ x) (IsMoved rule work x d) in
    subst P free h

pub moved_only : (rule : Rule) (work : ℕ → Bool) (x y : ℕ) (o : Option ℕ) →
    ¬ (rule ≡ WorkDaysOnly) → y ≡ x → work y ≡ false → ((d : ℕ) → IsMoved rule work y d → o ≡ Some d) →
    (d : ℕ) → GivesPlace rule work x d → o ≡ Some d
moved_only rule work x y o other same free only d h =
    let P : Type 0 → Type 0 = λ T. T in
    let parts = subst P (gives_place rule work x d other) h in
    only d (free_moved rule work y d free (let Q : ℕ → Type 0 =
    λ z. IsShifted rule work z d in subst Q (sym same) parts.1))

-- the work day of a place is the only one
pub nth_only : (work : ℕ → Bool) (x : ℕ) (o : Option ℕ) → (IsNone o → (d : ℕ) → ¬ (IsNthWorkDay work x d)) →
    IfSome o (IsNthWorkDay work x) → (d : ℕ) → IsNthWorkDay work x d → o ≡ Some d
nth_only work x None none value d h = absurd (none refl d h)
nth_only work x (Some e) none value d h = ap Some (IsNthWorkDay-unique work x e d value h)

pub nth_rule : (rule : Rule) (work : ℕ → Bool) (x d : ℕ) → rule ≡ WorkDaysOnly →
    GivesPlace rule work x d → IsNthWorkDay work x d
nth_rule rule work x d e h = let P : Rule → Type 0 = λ r. GivesPlace r work x d in subst P e h

-- ---- the place of a work day in an interval

module _ (work : ℕ → Bool) where
  -- a work day that has as many work days before it as come before `first`, or more, is `first` or later
  pub from_first : (first d : ℕ) → IsTrue (work d) → work_days_before work first ≤ work_days_before work d → first ≤ d
  from_first first d on h = ⊎_elim (λ l. let s = work_days_before-strict work d first l on in
      absurd (omega arith)) (λ g. g) (cases_lt d first)

  -- a work day that has fewer work days before it than come before `end` is before it
  pub before_end : (d end : ℕ) → work_days_before work d < work_days_before work end → d < end
  before_end d end h = ⊎_elim (λ l. l) (λ g. let m = work_days_before-mono work end d g in
      absurd (omega arith)) (cases_lt d end)

  holds_from : (first d : ℕ) (last : Option ℕ) → first ≤ d →
      IfSome (option_map (λ l. work_days_before work (l + 1)) last) (λ e. work_days_before work d < e) →
      HoldsDay first last d
  holds_from first d None low h = (low, tt)
  holds_from first d (Some last) low h = let within : d < last + 1 = before_end d (last + 1) h in (low, omega arith)

  counted_before : (d : ℕ) (last : Option ℕ) → IsTrue (work d) →
      IfSome last (λ l. d ≤ l) → IfSome (option_map (λ l. work_days_before work (l + 1)) last)
      (λ e. work_days_before work d < e)
  counted_before d None on h = tt
  counted_before d (Some last) on h = let s = work_days_before-strict work d (last + 1) (omega (arith, h)) on in
      omega (arith, s)

  -- where work days count alone, the work day at an offset is that of the place there
  pub place_is_work_day : (k : Offset) (first : ℕ) (last : Option ℕ) (d : ℕ) →
      IsGivenAt WorkDaysOnly work (work_days_before work first)
      (option_map (λ l. work_days_before work (l + 1)) last) k d ↔ IsWorkDayAt work k first last d
  place_is_work_day (FromFirst k) first last d = (
    (λ h.
        let (x, at, nth) = h in
        let on : IsTrue (work d) = nth.is_work in
        let place : work_days_before work d ≡ x = nth.place in
        let is : x + 1 ≡ work_days_before work first + k = at.1 in
        let low : first ≤ d = from_first first d on (omega (arith, at.0)) in
        let here = work_days_before-work work d on in
        let counted = from_to_before work first d (omega arith) in
        let End : ℕ → Type 0 = λ y. IfSome (option_map (λ l. work_days_before work (l + 1)) last) (λ e. y < e) in
        (on, holds_from first d last low (subst End (sym place) at.2), omega arith)),
    λ h.
        let on : IsTrue (work d) = h.0 in
        let low : first ≤ d = h.1.0 in
        let here = work_days_before-work work d on in
        let counted = from_to_before work first d (omega arith) in
        let rises = work_days_before-mono work first d low in (
          work_days_before work d,
          ((omega (arith, h.2), omega (arith, h.2), counted_before d last on h.1.1)),
          record { is_work = on; place = refl },
        ),
  )
  place_is_work_day (FromLast k) first None d = ((λ h. absurd h.1), λ h. absurd h)
  place_is_work_day (FromLast k) first (Some last) d = (
    (λ h.
        let (x, at, nth) = h in
        let on : IsTrue (work d) = nth.is_work in
        let place : work_days_before work d ≡ x = nth.place in
        let start : work_days_before work first ≤ x = at.1 in
        let is : x + k ≡ work_days_before work (last + 1) = at.2 in
        let some : 1 ≤ k = at.0 in
        let low : first ≤ d = from_first first d on (omega arith) in
        let within : d < last + 1 = before_end d (last + 1) (omega arith) in
        let counted = from_to_before work d last (omega arith) in
        (on, (low, omega arith), omega arith)),
    λ h.
        let on : IsTrue (work d) = h.0 in
        let low : first ≤ d = h.1.0 in
        let high : d ≤ last = h.1.1 in
        let counted = from_to_before work d last (omega arith) in
        let strict = work_days_before-strict work d (last + 1) (omega arith) on in
        let rises = work_days_before-mono work first d low in (
          work_days_before work d,
          ((omega (arith, h.2), rises, omega (arith, h.2))),
          record { is_work = on; place = refl },
        ),
  )

-- where all days count, the day that the number at an offset gives is given by the raw day there
pub given_in : (rule : Rule) (work : ℕ → Bool) (first : ℕ) (last : Option ℕ) (k : Offset) (d : ℕ) →
    ¬ (rule ≡ WorkDaysOnly) → GivesIn rule work first last k d ≡ ((x : ℕ) ×
    IsDay x × IsDayAt k first last x × IsShifted rule work x d)
given_in WorkDaysOnly work first last k d other = absurd (other refl)
given_in Before work first last k d other = refl
given_in After work first last k d other = refl
given_in Same work first last k d other = refl
given_in Skip work first last k d other = refl

pub place_is_raw_day : (rule : Rule) (work : ℕ → Bool) (k : Offset) (first : ℕ) (last : Option ℕ) (d : ℕ) →
    ¬ (rule ≡ WorkDaysOnly) → IsGivenAt rule work first (option_map (λ l. l + 1) last) k d ↔
    GivesIn rule work first last k d
place_is_raw_day rule work k first last d other =
    let P : Type 0 → Type 0 = λ T. T in (
      (λ h.
          let (x, at, gives) = h in
          let parts = subst P (gives_place rule work x d other) gives in
          subst P (sym (given_in rule work first last k d other)) (
            x,
            parts.0,
            (place_is_day k first last x).0 at,
            parts.1,
          )),
      λ h.
          let (x, day, at, shifted) = subst P (given_in rule work first last k d other) h in
          (x, (place_is_day k first last x).1 at, subst P (sym (gives_place rule work x d other)) (day, shifted)),
    )

pub rule_is : (rule : Rule) (work : ℕ → Bool) (first : ℕ) (last : Option ℕ) (k : Offset) (d : ℕ) →
    rule ≡ WorkDaysOnly → IsGivenAt rule work (work_days_before work first)
    (option_map (λ l. work_days_before work (l + 1)) last) k d ↔ GivesIn rule work first last k d
rule_is rule work first last k d e =
    let P : Rule → Type 0 = λ r. IsGivenAt r work (work_days_before work first)
    (option_map (λ l. work_days_before work (l + 1)) last) k d ↔ GivesIn r work first last k d in
    subst P (sym e) (place_is_work_day work k first last d)

-- work days come before any day no more than all of them
pub few_work_days : (statuses : List Bool) (d : ℕ) → work_days_before (is_work_in statuses) d ≤ last_day + 1
few_work_days statuses zero = let e = work_days_before-le (is_work_in statuses) 0 in omega arith
few_work_days statuses (suc d) =
    let next : suc d ≡ d + 1 = omega arith in
    ⊎_elim
    (λ (l : d < last_day + 1). let e = work_days_before-le (is_work_in statuses) (suc d) in omega arith)
    (λ (g : last_day + 1 ≤ d). let same = work_days_before-free (is_work_in statuses) d
    (is_work_in-past statuses d (omega arith)) in let so = few_work_days statuses d in rw next (omega arith))
    (cases_lt d (last_day + 1))
