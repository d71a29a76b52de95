use Rattle.std.proofs.Common.{◌∙◌, subst, sym}
use Rattle.plan_tables_schema.specs.Free.{IsFree}
use Rattle.plan_tables_schema.specs.Schema.{HasTables}
use Rattle.plan_tables_loading.specs.Reading.{HasPlan}
use Rattle.plan_tables_opening.proofs.StandingLemmas.{plan_uses, room_leaves}
use Rattle.plan_tables_opening.proofs.schemas.has_meta.Goals as goal

pub returns-clause-plan : goal.returns-clause-plan
unfolding HasPlan
returns-clause-plan g c plan =
    c.is_meta_used.ensures ∙ plan_uses _ (subst HasTables (sym c.schema.ensures.value) plan)

pub returns-clause-room : goal.returns-clause-room
returns-clause-room g c room =
    c.is_meta_used.ensures ∙ room_leaves _ (subst IsFree (sym c.schema.ensures.value) room)
