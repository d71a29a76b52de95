-- The faults of a period: when each one holds, and which one a check returns.
use Rattle.std.specs.Prelude.{◌≡◌, ℕ, ◌≤◌, List, length}
use Rattle.std.specs.List.{Any}
use Rattle.plan_periods.specs.Period.{Entry, IsIntervalLength, EndsBeforeOrigin, HasRisingOrigins}
use Rattle.plan_periods.specs.declared.periods.Period.{Period}
use Rattle.plan_periods.specs.declared.periods.Period.TheVariants.{All as AllDays, Work, Listed}
use Rattle.plan_periods.specs.declared.faults.PeriodFault.{PeriodFault}
use Rattle.plan_periods.specs.declared.faults.PeriodFault.TheVariants.{IntervalOutOfRange, EndBeforeOrigin}
use Rattle.plan_periods.specs.declared.faults.PeriodFault.TheVariants.{OriginsNotRising, NoOrigin}

-- the number of a fault
abbrev pub number_of_fault : PeriodFault → ℕ
number_of_fault IntervalOutOfRange = 1
number_of_fault EndBeforeOrigin = 2
number_of_fault OriginsNotRising = 3
number_of_fault NoOrigin = 4

-- the fault holds of a list of origins
abbrev pub HasListFault : List Entry → PeriodFault → Type 0
HasListFault _ IntervalOutOfRange = ⊥
HasListFault entries EndBeforeOrigin = Any EndsBeforeOrigin entries
HasListFault entries OriginsNotRising = ¬ (HasRisingOrigins entries)
HasListFault entries NoOrigin = length entries ≡ 0

-- the fault holds of the period
abbrev pub HasFault : Period → PeriodFault → Type 0
HasFault (AllDays _ n) IntervalOutOfRange = ¬ (IsIntervalLength n)
HasFault (AllDays _ _) _ = ⊥
HasFault (Work _ n) IntervalOutOfRange = ¬ (IsIntervalLength n)
HasFault (Work _ _) _ = ⊥
HasFault (Listed entries) f = HasListFault entries f

-- the fault holds, and none of a lesser number does
abbrev pub IsLeastFault : Period → PeriodFault → Type 0
IsLeastFault p f =
    HasFault p f × ((g : PeriodFault) → HasFault p g → number_of_fault f ≤ number_of_fault g)

abbrev pub IsLeastListFault : List Entry → PeriodFault → Type 0
IsLeastListFault entries f =
    HasListFault entries f
    × ((g : PeriodFault) → HasListFault entries g → number_of_fault f ≤ number_of_fault g)

-- no fault holds
abbrev pub HasNoFault : Period → Type 0
HasNoFault p = (f : PeriodFault) → ¬ (HasFault p f)
