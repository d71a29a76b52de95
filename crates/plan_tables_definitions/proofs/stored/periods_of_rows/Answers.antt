use Rattle.std.proofs.Common.{subst, ◌∙◌}
use Rattle.std.specs.Prelude.{IfOk, IfSome, IsSome}
use Rattle.plan_periods.specs.declared.periods.Period.{Period}
use Rattle.plan_tables_content.specs.Facts.{IsPeriodRow}
use Rattle.plan_tables_content.specs.Content.{ByName}
use Rattle.plan_tables_definitions.specs.DraftedPeriods.{IsSoundPeriodOfDays}
use Rattle.plan_tables_definitions.specs.Gathering.{AreSound}
use Rattle.plan_tables_definitions.specs.Storing.{AreRowsOf}
use Rattle.plan_tables_definitions.proofs.stored.periods_of_rows.Goals as goal

pub returns-clause-made : goal.returns-clause-made
returns-clause-made c = subst (λ l. IfOk c.read_periods.result (λ found. IfSome found (AreRowsOf IsPeriodRow l)))
    (c.deref.ensures.value ∙ c.in_ok-rows.ensures) c.read_periods.ensures.made

pub returns-clause-found : goal.returns-clause-found
returns-clause-found c = subst (λ l. IfOk c.read_periods.result (λ found. (all : ByName Period)
    → AreSound IsSoundPeriodOfDays all → AreRowsOf IsPeriodRow l all → IsSome found))
    (c.deref.ensures.value ∙ c.in_ok-rows.ensures) c.read_periods.ensures.found
