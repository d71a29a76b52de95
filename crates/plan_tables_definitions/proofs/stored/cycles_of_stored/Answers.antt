use Rattle.std.proofs.Common.{List, subst, sym}
use Rattle.std.specs.Prelude.{IfOk, IfSome, IsSome}
use Rattle.std.proofs.lemmas.Result.{IfOk-weaker}
use Rattle.run_cycles.specs.declared.cycles.RunCycle.{RunCycle}
use Rattle.plan_tables_content.specs.Content.{ByName}
use Rattle.plan_tables_content.specs.Facts.{IsCycleRow, IsOffsetRow}
use Rattle.plan_tables_definitions.specs.Gathering.{AreSound}
use Rattle.plan_tables_definitions.specs.Storing.{AreRowsOf}
use Rattle.plan_tables_definitions.specs.WholeCycles.{AreSoundCycles}
use Rattle.plan_tables_definitions.proofs.stored.cycles_of_stored.Goals as goal

pub returns-clause-cycles : goal.returns-clause-cycles
returns-clause-cycles c = subst (λ l. IfOk c.run_cycles_of_rows.result (λ found. IfSome found (AreRowsOf IsCycleRow l)))
    c.deref.ensures.value c.run_cycles_of_rows.ensures.cycles

pub returns-clause-offsets : goal.returns-clause-offsets
returns-clause-offsets c = subst (λ l. IfOk c.run_cycles_of_rows.result
    (λ found. IfSome found (AreRowsOf IsOffsetRow l))) c.deref-2.ensures.value c.run_cycles_of_rows.ensures.offsets

pub returns-clause-found : goal.returns-clause-found
returns-clause-found c = IfOk-weaker c.run_cycles_of_rows.result (λ found. (all : ByName (List RunCycle))
    → AreSound AreSoundCycles all → AreRowsOf IsCycleRow c.deref.result.now all
    → AreRowsOf IsOffsetRow c.deref-2.result.now all → IsSome found) _
    (λ found some all sound are those. some all sound
    (subst (λ l. AreRowsOf IsCycleRow l all) (sym c.deref.ensures.value) are)
    (subst (λ l. AreRowsOf IsOffsetRow l all) (sym c.deref-2.ensures.value) those)) c.run_cycles_of_rows.ensures.found
