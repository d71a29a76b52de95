-- A block that was merged is taken back.
use Rattle.std.proofs.Common.{refl}
use Rattle.app_definition_records.proofs.ReplacedLemmas.{all_stand, taken_back}
use Rattle.app_definitions.specs.Laws.{MergeIsRolledBack}
use Rattle.app_definitions.specs.declared.kinds.Block.TheVariants as block

pub merge_taken_back : MergeIsRolledBack
merge_taken_back all (block.Applications more) = (
  all_stand all.applications more,
  λ i. record all { applications = taken_back all.applications more i },
)
merge_taken_back all (block.Calendars more) = (
  all_stand all.calendars more,
  λ i. record all { calendars = taken_back all.calendars more i },
)
merge_taken_back all (block.Periods more) = (
  all_stand all.periods more,
  λ i. record all { periods = taken_back all.periods more i },
)
merge_taken_back all (block.Predecessors more) = (
  all_stand all.predecessors more,
  λ i. record all { predecessors = taken_back all.predecessors more i },
)
merge_taken_back all (block.RunCycles more) = (
  all_stand all.run_cycles more,
  λ i. record all { run_cycles = taken_back all.run_cycles more i },
)
merge_taken_back all (block.Options given) = (tt, refl)
