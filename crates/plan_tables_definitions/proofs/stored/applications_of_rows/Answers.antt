use Rattle.std.proofs.Common.{subst, ◌∙◌}
use Rattle.std.specs.Prelude.{IfOk, IfSome, IsSome}
use Rattle.app_definition_records.specs.declared.applications.Application.{Application as ApplicationValue}
use Rattle.plan_tables_content.specs.Content.{IsApplicationRow}
use Rattle.plan_tables_content.specs.Content.{ByName}
use Rattle.plan_tables_definitions.specs.Drafted.{IsSoundApplication}
use Rattle.plan_tables_definitions.specs.Gathering.{AreSound}
use Rattle.plan_tables_definitions.specs.Storing.{AreRowsOf}
use Rattle.plan_tables_definitions.proofs.stored.applications_of_rows.Goals as goal

pub returns-clause-made : goal.returns-clause-made
returns-clause-made c = subst (λ l. IfOk c.read_applications.result (λ found. IfSome found (AreRowsOf IsApplicationRow
    l)))
    (c.deref.ensures.value ∙ c.in_ok-rows.ensures) c.read_applications.ensures.made

pub returns-clause-found : goal.returns-clause-found
returns-clause-found c = subst (λ l. IfOk c.read_applications.result (λ found. (all : ByName ApplicationValue)
    → AreSound IsSoundApplication all → AreRowsOf IsApplicationRow l all → IsSome found))
    (c.deref.ensures.value ∙ c.in_ok-rows.ensures) c.read_applications.ensures.found
