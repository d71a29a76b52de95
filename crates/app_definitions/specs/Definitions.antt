-- All definitions: what a block makes of them, and what they are without a name.
use Rattle.std.specs.Prelude.{ℕ, List, IsSome}
use Rattle.std.specs.FinMap as map
use Rattle.app_definition_records.specs.ByName.{overlaid}
use Rattle.app_definitions.specs.Options.{default_options}
use Rattle.app_definitions.specs.declared.kinds.Block.{Block}
use Rattle.app_definitions.specs.declared.kinds.Block.TheVariants as block
use Rattle.app_definitions.specs.declared.kinds.Kind.{Kind}
use Rattle.app_definitions.specs.declared.kinds.Kind.TheVariants as kind
use Rattle.app_definitions.specs.declared.definitions.Definitions.{Definitions}

-- nothing is defined, and no options are given
abbrev pub no_definitions : Definitions
no_definitions = record {
  applications = map.empty;
  calendars = map.empty;
  periods = map.empty;
  predecessors = map.empty;
  run_cycles = map.empty;
  options = default_options;
}

-- the definitions of the block in place of those of the same kind and names, options in place of options, and all
-- others as they were
abbrev pub merged : Definitions → Block → Definitions
merged old (block.Applications more) = record old { applications = overlaid old.applications more }
merged old (block.Calendars more) = record old { calendars = overlaid old.calendars more }
merged old (block.Periods more) = record old { periods = overlaid old.periods more }
merged old (block.Predecessors more) = record old { predecessors = overlaid old.predecessors more }
merged old (block.RunCycles more) = record old { run_cycles = overlaid old.run_cycles more }
merged old (block.Options given) = record old { options = given }

-- how many names a block gives, and 1 for options
abbrev pub names_given : Block → ℕ
names_given (block.Applications more) = map.len more
names_given (block.Calendars more) = map.len more
names_given (block.Periods more) = map.len more
names_given (block.Predecessors more) = map.len more
names_given (block.RunCycles more) = map.len more
names_given (block.Options given) = 1

-- there is a definition of this kind and name: options have no name
abbrev pub IsDefined : Definitions → Kind → List ℕ → Type 0
IsDefined all kind.Applications name = IsSome (map.get all.applications name)
IsDefined all kind.Calendars name = IsSome (map.get all.calendars name)
IsDefined all kind.Periods name = IsSome (map.get all.periods name)
IsDefined all kind.Predecessors name = IsSome (map.get all.predecessors name)
IsDefined all kind.RunCycles name = IsSome (map.get all.run_cycles name)
IsDefined all kind.Options name = ⊥

-- the definitions without that of this kind and name
abbrev pub without : Definitions → Kind → List ℕ → Definitions
without all kind.Applications name = record all { applications = map.remove all.applications name }
without all kind.Calendars name = record all { calendars = map.remove all.calendars name }
without all kind.Periods name = record all { periods = map.remove all.periods name }
without all kind.Predecessors name = record all { predecessors = map.remove all.predecessors name }
without all kind.RunCycles name = record all { run_cycles = map.remove all.run_cycles name }
without all kind.Options name = all
