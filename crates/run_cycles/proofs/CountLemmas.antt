-- Counts of work days, by how many come before a day.
use Rattle.std.proofs.Common.{◌≡◌, ◌+◌, ◌-◌, ◌≤◌, ◌↔◌, ℕ, ℤ, zero, suc, Bool, true, false, List, Option, Some, None}
use Rattle.std.proofs.Common.{IsTrue, cond, option_map, ap, sym, subst, ◌∙◌, refl, arith}
use Rattle.std.specs.Prelude.{Any}
use Rattle.plan_periods.specs.Interval.{HoldsDay}
use Rattle.work_calendars.specs.WorkDay.{work_days_before}
use Rattle.work_calendars.proofs.WorkDayFacts.{work_days_before-suc, work_days_before-work}
use Rattle.run_cycles.specs.CountedDay.{work_days_among, work_days_from_to, IsWorkDayAt}
use Rattle.run_cycles.specs.Offset.{Offset, FromFirst, FromLast, offset_of}
use Rattle.run_cycles.specs.Searches.{HasCount}
use Rattle.run_cycles.proofs.Iff.{Any-weaker}

among-zero : (work : ℕ → Bool) (first : ℕ) → work_days_among work first 0 ≡ 0
unfolding work_days_among
among-zero work first = refl

among-suc : (work : ℕ → Bool) (first n : ℕ) → work_days_among work first
    (suc n) ≡ work_days_among work first n + cond (work (first + n)) 1 0
unfolding work_days_among
among-suc work first n = refl

-- the work days among n days are those before the end without those before the first
pub among_before : (work : ℕ → Bool) (first n : ℕ) → work_days_before
    work first + work_days_among work first n ≡ work_days_before work (first + n)
among_before work first zero =
    let none = among-zero work first in
    let e : first + 0 ≡ first = omega arith in
    rw e (omega arith)
among_before work first (suc n) =
    let here = among-suc work first n in
    let so = among_before work first n in
    let e : first + suc n ≡ suc (first + n) = omega arith in
    let next = work_days_before-suc work (first + n) in
    rw e (omega arith)

-- no more than n of n days are work days
pub among_few : (work : ℕ → Bool) (first n : ℕ) → work_days_among work first n ≤ n
among_few work first zero = let none = among-zero work first in omega arith
among_few work first (suc n) =
    let here = among-suc work first n in
    let so = among_few work first n in
    let one : cond (work (first + n)) 1 0 ≤ 1 = elim (work (first + n)) as (λ b. cond b 1 0 ≤ 1) [
      | true ↦ omega arith
      | false ↦ omega arith
    ] in
    omega arith

-- the same from one day to another
pub from_to_before : (work : ℕ → Bool) (first last : ℕ) → first ≤ last + 1 →
    work_days_before work first + work_days_from_to work first last ≡ work_days_before work (last + 1)
from_to_before work first last within =
    let e : first + (last + 1 - first) ≡ last + 1 = omega arith in
    among_before work first (last + 1 - first) ∙ ap (work_days_before work) e

-- the work days from the origin to the day before d
pub among_origin : (work : ℕ → Bool) (origin d : ℕ) → origin ≤ d →
    work_days_among work origin (d - origin) ≡ work_days_before work d - work_days_before work origin
among_origin work origin d from =
    let e : origin + (d - origin) ≡ d = omega arith in
    let so : work_days_before work origin + work_days_among work origin (d - origin) ≡ work_days_before work d =
    among_before work origin (d - origin) ∙ ap (work_days_before work) e in
    omega arith

module _ (work : ℕ → Bool) (first d : ℕ) (on : IsTrue (work d)) where
  -- numbers of work days say at which offsets a work day of an interval is
  pub count_is : (k : Offset) (end : Option ℕ) → HoldsDay first end d →
      HasCount k (work_days_before work d) (work_days_before work first)
      (option_map (λ last. work_days_before work (last + 1)) end) ↔ IsWorkDayAt work k first end d
  count_is (FromFirst k) end holds =
      let low : first ≤ d = holds.0 in
      let here = work_days_before-work work d on in
      let counted = from_to_before work first d (omega arith) in
      ((λ h. (on, holds, omega (arith, h))), λ h. omega (arith, h.2))
  count_is (FromLast k) None holds = ((λ h. absurd h), λ h. absurd h)
  count_is (FromLast k) (Some last) holds =
      let high : d ≤ last = holds.1 in
      let counted = from_to_before work d last (omega arith) in
      ((λ h. (on, holds, omega (arith, h))), λ h. omega (arith, h.2))

  -- the same for any of the offsets, at the numbers that the program reads
  pub any_count_is : (offsets : List ℤ) (before before_first : ℕ) (end up : Option ℕ) →
      HoldsDay first end d → before ≡ work_days_before work d →
      before_first ≡ work_days_before work first → up ≡ option_map (λ last. work_days_before work (last + 1)) end →
      Any (λ k. HasCount (offset_of k) before before_first up) offsets ↔
      Any (λ k. IsWorkDayAt work (offset_of k) first end d) offsets
  any_count_is offsets before before_first end up holds is-before is-first is-up =
      let same : (k : ℤ) → HasCount (offset_of k) before before_first up ≡ HasCount
      (offset_of k) (work_days_before work d) (work_days_before work first)
      (option_map (λ last. work_days_before work (last + 1)) end)
      = λ k i. HasCount (offset_of k) (is-before i) (is-first i) (is-up i) in
      let P : Type 0 → Type 0 = λ T. T in (
        Any-weaker (λ k. HasCount (offset_of k) before before_first up)
            (λ k. IsWorkDayAt work (offset_of k) first end d) offsets
            (λ k h. (count_is (offset_of k) end holds).0 (subst P (same k) h)),
        Any-weaker (λ k. IsWorkDayAt work (offset_of k) first end d)
            (λ k. HasCount (offset_of k) before before_first up) offsets
            (λ k h. subst P (sym (same k)) ((count_is (offset_of k) end holds).1 h)),
      )
