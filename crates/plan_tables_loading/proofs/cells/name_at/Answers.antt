use Rattle.std.proofs.Common.{refl}
use Rattle.work_calendars.proofs.NameFacts.{IsUtf8-name}
use Rattle.plan_tables_loading.proofs.cells.name_at.Goals as goal

pub returns-in-None-clause-none : goal.returns-in-None-clause-none
returns-in-None-clause-none g c _ name named is = c.in-None.ensures.none refl name (IsUtf8-name _ _ named) is
