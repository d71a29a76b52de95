use Rattle.plan_tables_definitions.specs.DraftedPeriods.{lettered_values}
use Rattle.plan_tables_definitions.proofs.PlaceLemmas.{none_placed}
use Rattle.plan_tables_definitions.proofs.periods.PeriodDraftDraft.begin.Goals as goal

pub returns : goal.returns
returns c name v is = none_placed (lettered_values name) c.new.result v c.new.ensures is
