-- Numbers of refusals.
use Rattle.std.specs.Prelude.{ℕ}
use Rattle.occurrences.specs.declared.refusal.Refusal.{Refusal}
use Rattle.occurrences.specs.declared.refusal.Refusal.TheVariants.{NotAStatement, FaultyData, JobWithAnotherText}
use Rattle.occurrences.specs.declared.refusal.Refusal.TheVariants.{NotDefined, NoPlan, PlanExists, CalendarUndefined}
use Rattle.occurrences.specs.declared.refusal.Refusal.TheVariants.{PeriodUndefined, DatesOutOfRange, Loop}
use Rattle.occurrences.specs.declared.refusal.Refusal.TheVariants.{NoActiveApplication, KeyIsLive, NoSuchOccurrence}
use Rattle.occurrences.specs.declared.refusal.Refusal.TheVariants.{StatusForbids, PredecessorUncompleted, TooManyRows}
use Rattle.occurrences.specs.declared.refusal.Refusal.TheVariants.{PlanEndOutOfRange}

-- the number of a refusal
abbrev pub refusal_number : Refusal → ℕ
refusal_number NotAStatement = 10
refusal_number (FaultyData _) = 11
refusal_number JobWithAnotherText = 12
refusal_number NotDefined = 13
refusal_number NoPlan = 20
refusal_number PlanExists = 21
refusal_number (CalendarUndefined _) = 22
refusal_number (PeriodUndefined _) = 23
refusal_number DatesOutOfRange = 24
refusal_number (Loop _) = 25
refusal_number NoActiveApplication = 26
refusal_number KeyIsLive = 27
refusal_number NoSuchOccurrence = 28
refusal_number StatusForbids = 29
refusal_number (PredecessorUncompleted _) = 30
refusal_number TooManyRows = 31
refusal_number PlanEndOutOfRange = 32
