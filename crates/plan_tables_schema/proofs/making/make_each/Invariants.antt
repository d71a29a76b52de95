use Rattle.std.proofs.Common.{take}
use Rattle.plan_tables_schema.specs.Made.{IsMadeSoFar}
use Rattle.plan_tables_schema.specs.Rows.{MayFail}
use Rattle.plan_tables_schema.specs.Schema.{all_tables}
use Rattle.plan_tables_schema.proofs.InTurn.{TurnsSoFar}
use Rattle.plan_tables_schema.proofs.making.make_each.Given as goal

abbrev pub invariant-loop-table : goal.invariant-loop-table
invariant-loop-table g l =
    TurnsSoFar g.S.Store l.fn.tx l.tx l.table-index (λ n. IsMadeSoFar (take n all_tables)) (λ _. MayFail)
