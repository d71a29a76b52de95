use Rattle.std.proofs.lemmas.Bool.{false≢true}
use Rattle.work_calendars.proofs.NameFacts.{IsUtf8-name}
use Rattle.plan_tables_definitions.proofs.columns.name_of.Goals as goal

pub returns-in-Err-clause-valid : goal.returns-in-Err-clause-valid
returns-in-Err-clause-valid g c = (
  λ some. absurd (false≢true some),
  λ named. absurd (c.in-Err.ensures.cases.0 (IsUtf8-name g.row.LONGEST c.args.bytes.now named)),
)
