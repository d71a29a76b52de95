use Rattle.std.proofs.Common.{take}
use Rattle.plan_tables_definitions.specs.Gathering.{AreRead}
use Rattle.plan_tables_definitions.proofs.gathering.read_rows.Given as goal

abbrev pub invariant-loop-row : goal.invariant-loop-row
invariant-loop-row g l = AreRead g.D.Draft.IsRead (take l.row-index l.rows) l.drafts
