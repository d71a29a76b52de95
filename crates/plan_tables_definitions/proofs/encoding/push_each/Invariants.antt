use Rattle.std.proofs.Common.{suc}
use Rattle.plan_tables_definitions.specs.Adding.{Adds, IsOfName, IsOfPlace}
use Rattle.plan_tables_definitions.proofs.encoding.push_each.Given as goal

abbrev pub invariant-loop-name : goal.invariant-loop-name
invariant-loop-name g l = Adds (suc g.E.Encoding.cells)
    (IsOfPlace (λ _. IsOfName g.E.Encoding.IsRow l.definitions) l.names l.name-index) l.fn.rows.items l.rows.items
