use Rattle.std.proofs.Common.{List, subst, sym}
use Rattle.std.specs.Prelude.{IsSome}
use Rattle.std.proofs.lemmas.Result.{IfOk-weaker}
use Rattle.run_cycles.specs.declared.cycles.RunCycle.{RunCycle}
use Rattle.plan_tables_content.specs.Content.{ByName}
use Rattle.plan_tables_content.specs.Facts.{IsCycleRow, IsOffsetRow}
use Rattle.plan_tables_definitions.specs.Gathering.{AreSound}
use Rattle.plan_tables_definitions.specs.Storing.{AreRowsOf}
use Rattle.plan_tables_definitions.specs.WholeCycles.{AreSoundCycles}
use Rattle.plan_tables_definitions.proofs.stored.run_cycles_of_rows.Goals as goal

pub returns-clause-found : goal.returns-clause-found
returns-clause-found c = IfOk-weaker c.read_cycles.result (λ found. (all : ByName (List RunCycle))
    → AreSound AreSoundCycles all → AreRowsOf IsCycleRow c.in_ok-rows.rows.items all
    → AreRowsOf IsOffsetRow c.in_ok-offset_rows.offset_rows.items all → IsSome found) _
    (λ found some all sound are those. some all sound
    (subst (λ l. AreRowsOf IsCycleRow l all) (sym c.in_ok-rows.ensures) are)
    (subst (λ l. AreRowsOf IsOffsetRow l all) (sym c.in_ok-offset_rows.ensures) those)) c.read_cycles.ensures.found
