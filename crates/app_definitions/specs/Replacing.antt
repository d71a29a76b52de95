-- What the names of a block have, and the definitions with that restored.
use Rattle.std.specs.Prelude.{⊤}
use Rattle.app_definition_records.specs.ByName.{AllStand, replaced, restored}
use Rattle.app_definitions.specs.declared.definitions.Definitions.{Definitions}
use Rattle.app_definitions.specs.declared.kinds.Block.{Block}
use Rattle.app_definitions.specs.declared.kinds.Block.TheVariants as block
use Rattle.app_definitions.specs.declared.replacing.Replaced.{Replaced}
use Rattle.app_definitions.specs.declared.replacing.Replaced.TheVariants as was

-- what each name of the block has of its kind, a definition or none; the options under options
abbrev pub replaced_by : Definitions → Block → Replaced
replaced_by all (block.Applications more) = was.Applications (replaced all.applications more)
replaced_by all (block.Calendars more) = was.Calendars (replaced all.calendars more)
replaced_by all (block.Periods more) = was.Periods (replaced all.periods more)
replaced_by all (block.Predecessors more) = was.Predecessors (replaced all.predecessors more)
replaced_by all (block.RunCycles more) = was.RunCycles (replaced all.run_cycles more)
replaced_by all (block.Options given) = was.Options all.options

-- the definitions with what was noted under its names, and all others as they are
abbrev pub put_back : Replaced → Definitions → Definitions
put_back (was.Applications noted) all = record all { applications = restored noted all.applications }
put_back (was.Calendars noted) all = record all { calendars = restored noted all.calendars }
put_back (was.Periods noted) all = record all { periods = restored noted all.periods }
put_back (was.Predecessors noted) all = record all { predecessors = restored noted all.predecessors }
put_back (was.RunCycles noted) all = record all { run_cycles = restored noted all.run_cycles }
put_back (was.Options options) all = record all { options = options }

-- each name of which something was noted has a definition, so that no room is needed for one
abbrev pub CanPutBack : Replaced → Definitions → Type 0
CanPutBack (was.Applications noted) all = AllStand noted all.applications
CanPutBack (was.Calendars noted) all = AllStand noted all.calendars
CanPutBack (was.Periods noted) all = AllStand noted all.periods
CanPutBack (was.Predecessors noted) all = AllStand noted all.predecessors
CanPutBack (was.RunCycles noted) all = AllStand noted all.run_cycles
CanPutBack (was.Options options) all = ⊤
