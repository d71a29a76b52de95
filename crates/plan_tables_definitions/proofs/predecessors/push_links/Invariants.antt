use Rattle.plan_tables_definitions.specs.Adding.{Adds, IsOfPlace}
use Rattle.plan_tables_definitions.specs.Parts.{IsLinkRow}
use Rattle.plan_tables_definitions.proofs.predecessors.push_links.Given as goal

abbrev pub invariant-loop-predecessor : goal.invariant-loop-predecessor
invariant-loop-predecessor l = Adds 2 (IsOfPlace (λ _. IsLinkRow l.app) l.listed l.predecessor-index)
    l.fn.rows.items l.rows.items
