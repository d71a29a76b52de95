-- Intervals of days: which places meet a range, and that the list of steps between two places has just those intervals.
use Rattle.std.proofs.Common.{◌≡◌, ℕ, zero, suc, ◌+◌, ◌-◌, ◌*◌, ◌/◌, ◌<◌, ◌≤◌, min, max, Some, Option, ◌∷◌}
use Rattle.std.proofs.Common.{length, get_or, IfSome, refl, sym, ◌∙◌, ap, subst, arith}
use Rattle.std.proofs.Math.Nat.{div-mul-le_self, lt-div-mul-add, mul-le-mul_right, lt_of_mul-lt-mul_right}
use Rattle.std.proofs.lemmas.Nat.{div_below, le-div}
use Rattle.std.specs.List.{Contains, AllPairs}
use Rattle.work_calendars.specs.Day.{last_day}
use Rattle.plan_periods.specs.Interval.{IsInterval, MeetsRange}
use Rattle.plan_periods.specs.Walk.{ListsMeeting, days_of_range}
use Rattle.plan_periods.specs.Places.{step, stepped, MeetsAt, StepsMeet}
use Rattle.plan_periods.specs.declared.intervals.Interval.{Interval}
use Rattle.plan_periods.specs.declared.periods.Period.TheVariants.{All as AllDays}

below_by_parts : (p q n : ℕ) → p * n < q * n → p < q
below_by_parts p q n h = lt_of_mul-lt-mul_right n h

steps_ordered : (q1 q2 n a b : ℕ) → q1 * n ≤ a → b < q2 * n + n → a < b + n → q1 ≤ q2 + 1
steps_ordered q1 q2 n a b low1 high2 near =
    let h : q1 * n < (q2 + 2) * n = omega arith in
    let k : q1 < q2 + 2 = below_by_parts q1 (q2 + 2) n h in omega arith

steps_inside : (origin n from to latest q1 q2 j : ℕ) → 1 ≤ n →
    from ≤ to → origin ≤ latest → latest ≤ to → latest + n ≤ last_day + 1
    → from - origin < q1 * n + n → q2 * n ≤ latest - origin → q1 ≤ j → j < q2 + 1 → MeetsAt origin n from to j
steps_inside origin n from to latest q1 q2 j some range begun to_end days_end high1 low2 above below =
    let m1 : q1 * n ≤ j * n = mul-le-mul_right n above in
    let upto : j ≤ q2 = omega arith in
    let m2 : j * n ≤ q2 * n = mul-le-mul_right n upto in
    record { exists = omega arith; begins = omega arith; ends = omega arith; range = range }

steps_outside : (origin n from to latest j : ℕ) → 1 ≤ n → n ≤ last_day + 1 →
    latest ≡ min to (last_day + 1 - n) → MeetsAt origin n from to j
    → ((from - origin) / n ≤ j) × (j < (latest - origin) / n + 1)
steps_outside origin n from to latest j some few latest-is m =
    let positive : 0 < n = omega arith in
    let exists : origin + j * n + n - 1 ≤ last_day = m.exists in
    let begins : origin + j * n ≤ to = m.begins in
    let ends : from ≤ origin + j * n + n - 1 = m.ends in
    let h1 : from - origin < (j + 1) * n = omega arith in
    let h2 : j * n ≤ latest - origin = omega arith in
    let k1 : (from - origin) / n < j + 1 = div_below (from - origin) n (j + 1) positive h1 in
    let k2 : j ≤ (latest - origin) / n = le-div j (latest - origin) n positive h2 in
    (omega (arith, k1), omega (arith, k2))

steps_few : (q1 q3 n a b d : ℕ) → 1 ≤ n → a < q1 * n + n → d < q3 * n + n → b ≤ d + a → b / n + 1 - q1 ≤ q3 + 2
steps_few q1 q3 n a b d some high1 high3 near =
    let h : b < (q3 + q1 + 2) * n = omega arith in
    let positive : 0 < n = omega arith in
    let k : b / n < q3 + q1 + 2 = div_below b n (q3 + q1 + 2) positive h in omega (arith, k)

-- the places by division
pub steps_meet : (origin n from to latest : ℕ) → 1 ≤ n → n ≤ last_day + 1 →
    from ≤ to → to ≤ last_day → latest ≡ min to (last_day + 1 - n) → origin ≤ latest
    → StepsMeet origin n from to ((from - origin) / n) ((latest - origin) / n + 1)
steps_meet origin n from to latest some few range in_days latest-is begun =
    let positive : 0 < n = omega arith in
    let low1 : (from - origin) / n * n ≤ from - origin = div-mul-le_self (from - origin) n in
    let high1 : from - origin < (from - origin) / n * n + n = lt-div-mul-add positive in
    let low2 : (latest - origin) / n * n ≤ latest - origin = div-mul-le_self (latest - origin) n in
    let high2 : latest - origin < (latest - origin) / n * n + n = lt-div-mul-add positive in
    let high3 : days_of_range from to < days_of_range from to / n * n + n = lt-div-mul-add positive in
    let to_end : latest ≤ to = omega (arith, latest-is) in
    let days_end : latest + n ≤ last_day + 1 = omega (arith, latest-is) in
    let near : from - origin < (latest - origin) + n = omega (arith, latest-is) in
    let wide : latest - origin ≤ days_of_range from to + (from - origin) = omega (arith, to_end) in
    record {
      ordered = steps_ordered _ _ n (from - origin) (latest - origin) low1 high2 near;
      inside = λ j above below. steps_inside origin n from to
          latest _ _ j some range begun to_end days_end high1 low2 above below;
      outside = λ j m. steps_outside origin n from to latest j some few latest-is m;
      few = steps_few _ _ n (from - origin) (latest - origin) (days_of_range from to) some high1 high3 wide;
    }

pub length-stepped : (first n count : ℕ) → length (stepped first n count) ≡ count
length-stepped first n zero = refl
length-stepped first n (suc count) = ap suc (length-stepped (first + n) n count)

pub get_or-stepped : (first n count i : ℕ) (d : Interval) → i < count →
    get_or (stepped first n count) i d ≡ step (first + i * n) n
get_or-stepped first n zero i d h = absurd (omega (arith, h))
get_or-stepped first n (suc count) zero d h = ap (λ day. step day n) (omega arith)
get_or-stepped first n (suc count) (suc i) d h =
    get_or-stepped (first + n) n count i d (omega (arith, h)) ∙ ap (λ day. step day n) (omega arith)

-- what is left from a place on is the interval there, and what is left from the next place on
pub stepped_next : (origin n next end : ℕ) → next < end
    → stepped (origin + next * n) n (end - next) ≡ step (origin + next * n) n ∷ stepped
    (origin + (next + 1) * n) n (end - (next + 1))
stepped_next origin n next end h =
    let count : end - next ≡ suc (end - (next + 1)) = omega arith in
    let first : origin + next * n + n ≡ origin + (next + 1) * n = omega arith in
    ap (λ k. stepped (origin + next * n) n k) count ∙ ap (λ day.
    step (origin + next * n) n ∷ stepped day n (end - (next + 1))) first

step_is_listed : (origin n from to start i : ℕ) → 1 ≤ n → MeetsAt origin n from to (start + i)
    → let x = step (origin + start * n + i * n) n in IsInterval (AllDays origin n) x.first x.last ×
    MeetsRange x.first x.last from to
step_is_listed origin n from to start i some m =
    let exists : origin + (start + i) * n + n - 1 ≤ last_day = m.exists in
    let begins : origin + (start + i) * n ≤ to = m.begins in
    let ends : from ≤ origin + (start + i) * n + n - 1 = m.ends in
    let range : from ≤ to = m.range in
    let first : ℕ = origin + start * n + i * n in (
      (start + i, omega arith, refl, omega arith),
      (
        max from first,
        (omega arith, omega arith),
        omega arith,
        omega arith,
      ),
    )

meets_at : (origin n from to j : ℕ) (x : Interval) → 1 ≤ n →
    x.first ≡ origin + j * n → x.last ≡ Some (x.first + n - 1) → x.first + n - 1 ≤ last_day
    → MeetsRange x.first x.last from to → MeetsAt origin n from to j
meets_at origin n from to j x some first-is last-is exists (day, (low, high), after, before) =
    let P : Option ℕ → Type 0 = λ o. IfSome o (λ end. day ≤ end) in
    let within : day ≤ x.first + n - 1 = subst P last-is high in
    let in_days : x.first + n - 1 ≤ last_day = exists in
    record { exists = omega arith; begins = omega arith; ends = omega arith; range = omega arith }

contains_step : (origin n start i count : ℕ) (x : Interval) →
    i < count → x.first ≡ origin + (start + i) * n → x.last ≡ Some (x.first + n - 1)
    → Contains (stepped (origin + start * n) n count) x
contains_step origin n start i count x below first-is last-is =
    let place : origin + start * n + i * n ≡ x.first = omega arith in
    let same : step x.first n ≡ x = ap (λ o. record { first = x.first; last = o }) (sym last-is) in
    let size : i < length (stepped (origin + start * n) n count) =
    omega (arith, length-stepped (origin + start * n) n count, below) in
    (i, size, get_or-stepped (origin + start * n) n count i x below ∙ ap (λ day. step day n) place ∙ same)

-- the steps between two places are the intervals that meet the range, if the places are
pub lists_steps : (origin n from to start end : ℕ) → 1 ≤ n → StepsMeet origin n from to start end
    → ListsMeeting (AllDays origin n) from to (stepped (origin + start * n) n (end - start))
lists_steps origin n from to start end some meet = record { each = λ x. (there x, back x); rising = rising } where
  there : (x : Interval) → Contains (stepped (origin + start * n) n (end - start)) x →
      IsInterval (AllDays origin n) x.first x.last × MeetsRange x.first x.last from to
  there x (i, within, is) =
      let below : i < end - start = omega (arith, within, length-stepped (origin + start * n) n (end - start)) in
      let P : Interval → Type 0 = λ y. IsInterval (AllDays origin n) y.first y.last ×
      MeetsRange y.first y.last from to in
      subst P (sym (get_or-stepped (origin + start * n) n (end - start) i x below) ∙ is)
      (step_is_listed origin n from to start i some (meet.inside (start + i) (omega arith) (omega (arith, below))))

  back : (x : Interval) → IsInterval (AllDays origin n) x.first x.last ×
      MeetsRange x.first x.last from to → Contains (stepped (origin + start * n) n (end - start)) x
  back x ((j, first-is, last-is, exists), meets) =
      let bounds : (start ≤ j) × (j < end) = meet.outside j (meets_at
      origin n from to j x some first-is last-is exists meets) in
      let place : start + (j - start) ≡ j = omega (arith, bounds) in
      let below : j - start < end - start = omega (arith, bounds) in
      contains_step origin n start (j - start) (end - start) x below (first-is ∙
      ap (λ k. origin + k * n) (sym place)) last-is

  rising : AllPairs (λ x y. x.first < y.first) (stepped (origin + start * n) n (end - start))
  rising i k d above within =
      let count : length (stepped (origin + start * n) n (end - start)) ≡ end - start =
      length-stepped (origin + start * n) n (end - start) in
      let below_k : k < end - start = omega (arith, count, within) in
      let below_i : i < end - start = omega (arith, below_k, above) in
      let next : i + 1 ≤ k = omega (arith, above) in
      let m : (i + 1) * n ≤ k * n = mul-le-mul_right n next in
      rw (
        get_or-stepped (origin + start * n) n (end - start) i d below_i,
        get_or-stepped (origin + start * n) n (end - start) k d below_k,
      ) (omega (arith, m, some))

pub step_is : (first n : ℕ) (x : Interval) → x.first ≡ first → x.last ≡ Some (first + n - 1) → step first n ≡ x
step_is first n x first-is last-is =
    ap (λ day. record { first = day; last = Some (first + n - 1) }) (sym first-is) ∙
    ap (λ o. record { first = x.first; last = o }) (sym last-is)
