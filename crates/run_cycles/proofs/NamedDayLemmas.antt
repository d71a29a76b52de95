-- Which definition an offset's day goes by.
use Rattle.std.proofs.Common.{◌≡◌, ℕ, Bool, refl}
use Rattle.plan_periods.specs.declared.periods.Period.{Period}
use Rattle.plan_periods.specs.declared.periods.Period.TheVariants.{All as AllDays, Work, Listed}
use Rattle.run_cycles.specs.declared.rules.Rule.{Rule}
use Rattle.run_cycles.specs.declared.rules.Rule.TheVariants.{WorkDaysOnly, Before, After, Same, Skip}
use Rattle.run_cycles.specs.CountedDay.{IsCountedInInterval}
use Rattle.run_cycles.specs.Offset.{Offset}
use Rattle.run_cycles.specs.NamedDay.{GivesDay, IsShiftedDay}

-- where the work days of intervals count alone, a day is given by an interval that counts it
pub gives_counted : (period : Period) (work : ℕ → Bool) (d : ℕ) (k : Offset) →
    ((o n : ℕ) → ¬ (period ≡ Work o n)) → GivesDay period WorkDaysOnly work d k ≡ IsCountedInInterval period k work d
gives_counted (Work o n) work d k no_work = absurd (no_work o n refl)
gives_counted (AllDays o n) work d k no_work = refl
gives_counted (Listed entries) work d k no_work = refl

-- where offsets count all days, a day is given by a raw day that becomes it
pub gives_shifted : (period : Period) (rule : Rule) (work : ℕ → Bool) (d : ℕ) (k : Offset) →
    ((o n : ℕ) → ¬ (period ≡ Work o n)) → ¬ (rule ≡ WorkDaysOnly) →
    GivesDay period rule work d k ≡ IsShiftedDay period rule work d k
gives_shifted (Work o n) rule work d k no_work no_rule = absurd (no_work o n refl)
gives_shifted (AllDays o n) WorkDaysOnly work d k no_work no_rule = absurd (no_rule refl)
gives_shifted (AllDays o n) Before work d k no_work no_rule = refl
gives_shifted (AllDays o n) After work d k no_work no_rule = refl
gives_shifted (AllDays o n) Same work d k no_work no_rule = refl
gives_shifted (AllDays o n) Skip work d k no_work no_rule = refl
gives_shifted (Listed entries) WorkDaysOnly work d k no_work no_rule = absurd (no_rule refl)
gives_shifted (Listed entries) Before work d k no_work no_rule = refl
gives_shifted (Listed entries) After work d k no_work no_rule = refl
gives_shifted (Listed entries) Same work d k no_work no_rule = refl
gives_shifted (Listed entries) Skip work d k no_work no_rule = refl
