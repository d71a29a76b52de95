-- Counting work days, and finding them by their count.
use Rattle.std.proofs.Common.{◌≡◌, ◌⊎◌, inl, inr, sym, ap, ◌∙◌, refl, ℕ, zero, suc, ◌+◌, ◌-◌, ◌<◌, ◌≤◌, Bool, true}
use Rattle.std.proofs.Common.{false, cond, IsTrue, IsFalse, arith, add-one}
use Rattle.std.proofs.lemmas.Bool.{cases_lt}
use Rattle.work_calendars.specs.WorkDay.{work_days_before, IsNthWorkDay, IsNextWorkDay, IsPreviousWorkDay}
use Rattle.work_calendars.specs.WorkDay.{HasNoWorkDayAfter, HasNoWorkDayBefore}

pub work_days_before-zero : (work : ℕ → Bool) → work_days_before work 0 ≡ 0
unfolding work_days_before
work_days_before-zero work = refl

pub work_days_before-suc : (work : ℕ → Bool) (d : ℕ) → work_days_before work
    (suc d) ≡ work_days_before work d + cond (work d) 1 0
unfolding work_days_before
work_days_before-suc work d = refl

-- the same, of the day after d
pub work_days_before-next : (work : ℕ → Bool) (d : ℕ) → work_days_before work
    (d + 1) ≡ work_days_before work d + cond (work d) 1 0
work_days_before-next work d = rw add-one (work_days_before-suc work d)

pub work_days_before-work : (work : ℕ → Bool) (d : ℕ) → work d ≡ true →
    work_days_before work (d + 1) ≡ work_days_before work d + 1
work_days_before-work work d h =
    work_days_before-next work d ∙ ap (λ b. work_days_before work d + cond b 1 0) h

pub work_days_before-free : (work : ℕ → Bool) (d : ℕ) → work d ≡ false →
    work_days_before work (d + 1) ≡ work_days_before work d
work_days_before-free work d h =
    let e : work_days_before work (d + 1) ≡ work_days_before work d + 0
    = work_days_before-next work d ∙ ap (λ b. work_days_before work d + cond b 1 0) h in
    omega arith

one_or_none : (b : Bool) → cond b 1 0 ≤ 1
one_or_none true = omega arith
one_or_none false = omega arith

rises : (work : ℕ → Bool) (m k : ℕ) → work_days_before work m ≤ work_days_before work (k + m)
rises work m zero = let e : 0 + m ≡ m = omega arith in rw e (omega arith)
rises work m (suc k) =
    let e : suc k + m ≡ suc (k + m) = omega arith in
    rw (e, work_days_before-suc work (k + m)) (let h = rises work m k in omega arith)

pub work_days_before-mono : (work : ℕ → Bool) (m n : ℕ) → m ≤ n → work_days_before work m ≤ work_days_before work n
work_days_before-mono work m n h =
    let e : (n - m) + m ≡ n = omega arith in
    rw e at (rises work m (n - m))

-- a work day counts from the day after it on
pub work_days_before-strict : (work : ℕ → Bool) (m n : ℕ) → m < n →
    work m ≡ true → work_days_before work m + 1 ≤ work_days_before work n
work_days_before-strict work m n h w =
    let a : work_days_before work (m + 1) ≤ work_days_before work n
    = work_days_before-mono work (m + 1) n (omega arith) in
    let b = work_days_before-work work m w in
    omega arith

pub work_days_before-le : (work : ℕ → Bool) (n : ℕ) → work_days_before work n ≤ n
work_days_before-le work zero = let e = work_days_before-zero work in omega arith
work_days_before-le work (suc n) =
    let e = work_days_before-suc work n in
    let a = work_days_before-le work n in
    let b = one_or_none (work n) in
    omega arith

-- no work day before n, so none is counted
pub work_days_before-none : (work : ℕ → Bool) (n : ℕ) → HasNoWorkDayBefore work n → work_days_before work n ≡ 0
work_days_before-none work zero none = work_days_before-zero work
work_days_before-none work (suc n) none =
    let a : work_days_before work n ≡ 0 = work_days_before-none work n (λ x h. none x (omega arith)) in
    let b : work_days_before work (n + 1) ≡ work_days_before work n =
    work_days_before-free work n (none n (omega arith)) in
    let e : suc n ≡ n + 1 = omega arith in
    rw e (b ∙ a)

-- tests that agree count alike
pub work_days_before-same : (work other : ℕ → Bool) → ((d : ℕ) → work d ≡ other d) →
    (n : ℕ) → work_days_before work n ≡ work_days_before other n
work_days_before-same work other same zero =
    work_days_before-zero work ∙ sym (work_days_before-zero other)
work_days_before-same work other same (suc n) =
    work_days_before-suc work n
    ∙ ap (λ b. work_days_before work n + cond b 1 0) (same n)
    ∙ ap (λ k. k + cond (other n) 1 0) (work_days_before-same work other same n)
    ∙ sym (work_days_before-suc other n)

pub IsNthWorkDay-same : (work other : ℕ → Bool) → ((d : ℕ) → work d ≡ other d) →
    (k d : ℕ) → IsNthWorkDay work k d → IsNthWorkDay other k d
IsNthWorkDay-same work other same k d h = record {
  is_work = sym (same d) ∙ h.is_work;
  place = sym (work_days_before-same work other same d) ∙ h.place;
}

pub not_true : (b : Bool) → (IsTrue b → ⊥) → IsFalse b
not_true true h = absurd (h refl)
not_true false h = refl

-- the work day with as many before it as come before d + 1 is the next after d
pub IsNextWorkDay-from_nth : (work : ℕ → Bool) (d e : ℕ) → IsNthWorkDay work (work_days_before work (d + 1)) e →
    IsNextWorkDay work d e
IsNextWorkDay-from_nth work d e h =
    let place : work_days_before work e ≡ work_days_before work (d + 1) = h.place in
    record {
      later = next_later (cases_lt d e);
      is_work = h.is_work;
      nearest = λ x after before. not_true (work x) (λ w.
          let a : work_days_before work (d + 1) ≤ work_days_before work x
          = work_days_before-mono work (d + 1) x (omega arith) in
          let b = work_days_before-strict work x e before w in
          omega arith);
    }
  where
    next_later : (d < e) ⊎ (e ≤ d) → d < e
    next_later (inl l) = l
    next_later (inr g) =
        let b = work_days_before-strict work e (d + 1) (omega arith) h.is_work in
        let place = h.place in
        absurd (omega arith)

-- where that many work days are all of those before `end`, none comes after d before it
pub HasNoWorkDayAfter-from_count : (work : ℕ → Bool) (d end : ℕ) →
    ((x : ℕ) → end ≤ x → IsFalse (work x)) → work_days_before work end ≤ work_days_before work (d + 1) →
    HasNoWorkDayAfter work d
HasNoWorkDayAfter-from_count work d end past all x after = by (cases_lt x end)
  where
    by : (x < end) ⊎ (end ≤ x) → IsFalse (work x)
    by (inl l) = not_true (work x) (λ w.
        let a : work_days_before work (d + 1) ≤ work_days_before work x
        = work_days_before-mono work (d + 1) x (omega arith) in
        let b = work_days_before-strict work x end l w in
        omega arith)
    by (inr g) = past x g

-- the last of the work days before d is the previous one
pub IsPreviousWorkDay-from_nth : (work : ℕ → Bool) (d e k : ℕ) →
    work_days_before work d ≡ k + 1 → IsNthWorkDay work k e → IsPreviousWorkDay work d e
IsPreviousWorkDay-from_nth work d e k count h =
    let place : work_days_before work e ≡ k = h.place in
    record {
      earlier = previous_earlier (cases_lt e d);
      is_work = h.is_work;
      nearest = λ x after before. not_true (work x) (λ w.
          let a = work_days_before-strict work e x after h.is_work in
          let b = work_days_before-strict work x d before w in
          omega arith);
    }
  where
    previous_earlier : (e < d) ⊎ (d ≤ e) → e < d
    previous_earlier (inl l) = l
    previous_earlier (inr g) =
        let b = work_days_before-mono work d e g in
        let place = h.place in
        absurd (omega arith)

pub HasNoWorkDayBefore-from_count : (work : ℕ → Bool) (d : ℕ) → work_days_before work d ≡ 0 → HasNoWorkDayBefore work d
HasNoWorkDayBefore-from_count work d none x before =
    not_true (work x) (λ w. let b = work_days_before-strict work x d before w in omega arith)

-- one day at most has a place
pub IsNthWorkDay-unique : (work : ℕ → Bool) (k d e : ℕ) → IsNthWorkDay work k d → IsNthWorkDay work k e → d ≡ e
IsNthWorkDay-unique work k d e h g = by (cases_lt d e) (cases_lt e d)
  where
    apart : (m n : ℕ) → m < n → IsNthWorkDay work k m → IsNthWorkDay work k n → ⊥
    apart m n l p q =
        let b = work_days_before-strict work m n l p.is_work in
        let pm = p.place in
        let qn = q.place in
        omega arith

    by : (d < e) ⊎ (e ≤ d) → (e < d) ⊎ (d ≤ e) → d ≡ e
    by (inl l) _ = absurd (apart d e l h g)
    by (inr m) (inl l) = absurd (apart e d l g h)
    by (inr m) (inr n) = omega arith

-- no day has a place that is past the count of all
pub IsNthWorkDay-none : (work : ℕ → Bool) (k end : ℕ) → ((x : ℕ) → end ≤ x → IsFalse (work x)) →
    work_days_before work end ≤ k → (d : ℕ) → ¬ (IsNthWorkDay work k d)
IsNthWorkDay-none work k end past all d h = by (cases_lt d end)
  where
    by : (d < end) ⊎ (end ≤ d) → ⊥
    by (inl l) =
        let b = work_days_before-strict work d end l h.is_work in
        let place = h.place in
        omega arith
    by (inr g) = let a : true ≡ false = sym h.is_work ∙ past d g in cc
