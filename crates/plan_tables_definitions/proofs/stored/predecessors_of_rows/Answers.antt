use Rattle.std.proofs.Common.{List, subst, ◌∙◌}
use Rattle.std.specs.Prelude.{IfOk, IfSome, IsSome}
use Rattle.app_definition_records.specs.declared.predecessors.Predecessor.{Predecessor}
use Rattle.plan_tables_content.specs.Facts.{IsPredecessorRow}
use Rattle.plan_tables_content.specs.Content.{ByName}
use Rattle.plan_tables_definitions.specs.Drafted.{AreSoundPredecessors}
use Rattle.plan_tables_definitions.specs.Gathering.{AreSound}
use Rattle.plan_tables_definitions.specs.Storing.{AreRowsOf}
use Rattle.plan_tables_definitions.proofs.stored.predecessors_of_rows.Goals as goal

pub returns-clause-made : goal.returns-clause-made
returns-clause-made c = subst (λ l. IfOk c.read_predecessors.result (λ found. IfSome found (AreRowsOf IsPredecessorRow
    l)))
    (c.deref.ensures.value ∙ c.in_ok-rows.ensures) c.read_predecessors.ensures.made

pub returns-clause-found : goal.returns-clause-found
returns-clause-found c = subst (λ l. IfOk c.read_predecessors.result (λ found. (all : ByName (List Predecessor))
    → AreSound AreSoundPredecessors all → AreRowsOf IsPredecessorRow l all → IsSome found))
    (c.deref.ensures.value ∙ c.in_ok-rows.ensures) c.read_predecessors.ensures.found
