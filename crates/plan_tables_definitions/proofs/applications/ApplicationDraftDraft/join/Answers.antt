use Rattle.std.proofs.Common.{◌≡◌, subst}
use Rattle.plan_tables_content.specs.Facts.{application_values}
use Rattle.plan_tables_definitions.specs.Drafted.{IsReadApplication}
use Rattle.plan_tables_definitions.specs.Gathering.{Within}
use Rattle.plan_tables_definitions.proofs.DraftLemmas.{other_application}
use Rattle.plan_tables_definitions.proofs.applications.ApplicationDraftDraft.join.Goals as goal

pub returns-in-Some-application-clause-refused : goal.returns-in-Some-application-clause-refused
returns-in-Some-application-clause-refused c d such at within = c.is_same.ensures.1
    (other_application c.args.name.now c.args.row.now c.in-Some-application.application c.in-Some.read d
    c.in-Some.ensures.value at (subst (λ o. Within (IsReadApplication c.args.name.now o)
    (λ v. v ≡ application_values c.args.name.now d)) c.in-Some-application.is within))
