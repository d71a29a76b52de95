-- What a data block reads as, and at which record it is faulty.
use Rattle.std.specs.Prelude.{◌≡◌, ℕ, List}
use Rattle.std.specs.Ordering.{nat_cmp}
use Rattle.std.specs.Cmp.Lexicographic.{slice_cmp}
use Rattle.std.specs.FinMap as map
use Rattle.app_definition_records.specs.Applications.{FitsApplication, IsApplicationOf}
use Rattle.app_definition_records.specs.ByName.{FitsKind, AreGivenBy}
use Rattle.app_definition_records.specs.Calendars.{FitsCalendar, IsCalendarOf}
use Rattle.app_definition_records.specs.CycleRecords.{FitsRunCycle, AreRunCyclesOf}
use Rattle.app_definitions.specs.Options.{AreOptionsOf, IsFaultyOptions}
use Rattle.app_definition_records.specs.Periods.{FitsPeriod, IsPeriodOf}
use Rattle.app_definition_records.specs.Predecessors.{FitsPredecessors, ArePredecessorsOf}
use Rattle.app_definition_records.specs.Records.{Record, Records, block_records, AllGood, FirstFaulty}
use Rattle.app_definitions.specs.declared.kinds.Block.{Block}
use Rattle.app_definitions.specs.declared.kinds.Block.TheVariants as block
use Rattle.app_definitions.specs.declared.kinds.Kind.{Kind}
use Rattle.app_definitions.specs.declared.kinds.Kind.TheVariants as kind
use Rattle.app_definitions.specs.declared.options.Options.{Options}
use Rattle.app_definition_records.specs.declared.records.BlockFault.{BlockFault}
use Rattle.app_definition_records.specs.declared.records.BlockFault.TheVariants.{Faulty, Memory}
use Rattle.app_definition_records.specs.FieldCounts.{HasApplicationFields, HasCalendarFields, HasCycleFields}
use Rattle.app_definition_records.specs.FieldCounts.{HasPeriodFields, HasPredecessorFields}

-- every record is good after those before it, and the block has the definitions that they give
pub record Gives {D : Type 0} (of : map.FinMap (slice_cmp nat_cmp) D → Block) (HasFields : ℕ → Type 0)
    (FitsName : Records → Record → Type 0) (IsMadeOf : D → Records → Type 0) (rows : Records) (b : Block) : Type 0 where
  pub good : AllGood (FitsKind HasFields FitsName) rows
  pub definitions : map.FinMap (slice_cmp nat_cmp) D
  pub is : b ≡ of definitions
  pub given : AreGivenBy IsMadeOf definitions rows

-- a text of that kind reads as the block
abbrev pub ReadsAs : Kind → List ℕ → Block → Type 0
ReadsAs kind.Applications text b = Gives block.Applications HasApplicationFields FitsApplication IsApplicationOf
    (block_records text) b
ReadsAs kind.Calendars text b = Gives block.Calendars HasCalendarFields FitsCalendar IsCalendarOf (block_records text) b
ReadsAs kind.Periods text b = Gives block.Periods HasPeriodFields FitsPeriod IsPeriodOf (block_records text) b
ReadsAs kind.Predecessors text b = Gives block.Predecessors HasPredecessorFields FitsPredecessors ArePredecessorsOf
    (block_records text) b
ReadsAs kind.RunCycles text b = Gives block.RunCycles HasCycleFields FitsRunCycle AreRunCyclesOf (block_records text) b
ReadsAs kind.Options text b = (o : Options) × (b ≡ block.Options o) × AreOptionsOf o text

-- the record of that number is the first faulty one of a text of that kind
abbrev pub IsFaultyAt : Kind → List ℕ → ℕ → Type 0
IsFaultyAt kind.Applications text number =
    FirstFaulty (FitsKind HasApplicationFields FitsApplication) (block_records text) number
IsFaultyAt kind.Calendars text number = FirstFaulty (FitsKind HasCalendarFields FitsCalendar) (block_records text) number
IsFaultyAt kind.Periods text number = FirstFaulty (FitsKind HasPeriodFields FitsPeriod) (block_records text) number
IsFaultyAt kind.Predecessors text number =
    FirstFaulty (FitsKind HasPredecessorFields FitsPredecessors) (block_records text) number
IsFaultyAt kind.RunCycles text number = FirstFaulty (FitsKind HasCycleFields FitsRunCycle) (block_records text) number
IsFaultyAt kind.Options text number = IsFaultyOptions text number

-- a fault of a text of that kind: its first faulty record, or want of memory
abbrev pub IsFaultOf : Kind → List ℕ → BlockFault → Type 0
IsFaultOf k text (Faulty number) = IsFaultyAt k text number
IsFaultOf k text Memory = Unit {0}
