-- Work days as a test on day numbers, and counting and finding them.
use Rattle.std.specs.Prelude.{◌≡◌, ℕ, zero, suc, ◌+◌, ◌-◌, ◌<◌, Bool, cond, IsTrue, IsFalse}

-- how many work days come before the day
unfoldable pub work_days_before : (ℕ → Bool) → ℕ → ℕ
work_days_before work zero = 0
work_days_before work (suc d) = work_days_before work d + cond (work d) 1 0

-- how many work days there are from one day to the day before another
abbrev pub work_days_from : (ℕ → Bool) → ℕ → ℕ → ℕ
work_days_from work from end = work_days_before work end - work_days_before work from

-- d is the work day before which there are k work days
pub record IsNthWorkDay (work : ℕ → Bool) (k d : ℕ) : Type 0 where
  pub is_work : IsTrue (work d)
  pub place : work_days_before work d ≡ k

-- e is the first work day after d
pub record IsNextWorkDay (work : ℕ → Bool) (d e : ℕ) : Type 0 where
  pub later : d < e
  pub is_work : IsTrue (work e)
  pub nearest : (x : ℕ) → d < x → x < e → IsFalse (work x)

-- e is the last work day before d
pub record IsPreviousWorkDay (work : ℕ → Bool) (d e : ℕ) : Type 0 where
  pub earlier : e < d
  pub is_work : IsTrue (work e)
  pub nearest : (x : ℕ) → e < x → x < d → IsFalse (work x)

-- no work day comes after d
abbrev pub HasNoWorkDayAfter : (ℕ → Bool) → ℕ → Type 0
HasNoWorkDayAfter work d = (x : ℕ) → d < x → IsFalse (work x)

-- no work day comes before d
abbrev pub HasNoWorkDayBefore : (ℕ → Bool) → ℕ → Type 0
HasNoWorkDayBefore work d = (x : ℕ) → x < d → IsFalse (work x)
