use Rattle.plan_tables_definitions.specs.CycleParts.{offset_tail}
use Rattle.plan_tables_definitions.proofs.CycleLemmas.{no_part}
use Rattle.plan_tables_definitions.proofs.PlaceLemmas.{none_placed}
use Rattle.plan_tables_definitions.proofs.cycle_parts.PartDraftDraft.begin.Goals as goal

pub returns : goal.returns
returns c name v is = no_part name c.new.result c.new-2.result v c.new.ensures
    (none_placed (offset_tail name) c.new-2.result v c.new-2.ensures) is
