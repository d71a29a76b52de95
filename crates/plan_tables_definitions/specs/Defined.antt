-- Definitions as the program has them.
use Rattle.app_definitions.specs.declared.definitions.Definitions.{Definitions}
use Rattle.plan_tables_definitions.specs.Drafted.{AreSoundPredecessors, IsSoundApplication, IsSoundCalendar}
use Rattle.plan_tables_definitions.specs.DraftedPeriods.{IsSoundPeriodOfDays}
use Rattle.plan_tables_definitions.specs.Gathering.{AreSound}
use Rattle.plan_tables_definitions.specs.WholeCycles.{AreSoundCycles}

-- names are names, days are days, and each definition is sound for itself; whether rows can encode it doesn't matter
-- here
pub record AreSoundDefinitions (all : Definitions) : Type 0 where
  pub applications : AreSound IsSoundApplication all.applications
  pub calendars : AreSound IsSoundCalendar all.calendars
  pub periods : AreSound IsSoundPeriodOfDays all.periods
  pub run_cycles : AreSound AreSoundCycles all.run_cycles
  pub predecessors : AreSound AreSoundPredecessors all.predecessors
