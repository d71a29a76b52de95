-- Definitions that tables can distinguish from all others.
use Rattle.std.specs.Prelude.{List, ⊤}
use Rattle.run_cycles.specs.declared.cycles.RunCycle.{RunCycle}
use Rattle.app_definition_records.specs.declared.predecessors.Predecessor.{Predecessor}
use Rattle.app_definitions.specs.declared.definitions.Definitions.{Definitions}
use Rattle.app_definitions.specs.declared.kinds.Block.{Block}
use Rattle.app_definitions.specs.declared.kinds.Block.TheVariants as block
use Rattle.plan_tables_content.specs.Content.{AreEach, HasEntry, IsNamed, IsTold}

abbrev pub AreCycles : List RunCycle → Type 0
AreCycles = IsNamed (λ (cycle : RunCycle). cycle.name)

abbrev pub ArePredecessors : List Predecessor → Type 0
ArePredecessors = IsNamed (λ (p : Predecessor). p.name)

-- each definition has a row at least; weeks have seven days, and lists are in byte order of their names
pub record AreRepresentable (all : Definitions) : Type 0 where
  pub calendars : AreEach IsTold all.calendars
  pub periods : AreEach HasEntry all.periods
  pub run_cycles : AreEach AreCycles all.run_cycles
  pub predecessors : AreEach ArePredecessors all.predecessors

-- the same of a block
abbrev pub IsRepresentableBlock : Block → Type 0
IsRepresentableBlock (block.Applications more) = ⊤
IsRepresentableBlock (block.Calendars more) = AreEach IsTold more
IsRepresentableBlock (block.Periods more) = AreEach HasEntry more
IsRepresentableBlock (block.Predecessors more) = AreEach ArePredecessors more
IsRepresentableBlock (block.RunCycles more) = AreEach AreCycles more
IsRepresentableBlock (block.Options given) = ⊤
