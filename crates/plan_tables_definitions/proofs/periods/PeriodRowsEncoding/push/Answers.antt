use Rattle.std.proofs.Common.{subst}
use Rattle.std.specs.Prelude.{OnOk}
use Rattle.plan_tables_content.specs.Facts.{IsPeriodRow}
use Rattle.plan_tables_definitions.specs.Adding.{Adds}
use Rattle.plan_tables_definitions.proofs.periods.PeriodRowsEncoding.push.Goals as goal

pub returns : goal.returns
returns c = subst (λ p. OnOk c.push_period.result
    (Adds 2 (IsPeriodRow c.args.name.now p) c.args.rows.now.items c.push_period.new.rows.items)) c.period.ensures.value
    c.push_period.ensures
