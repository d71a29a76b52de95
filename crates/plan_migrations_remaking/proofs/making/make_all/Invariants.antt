use Rattle.std.proofs.Common.{take}
use Rattle.plan_tables_schema.specs.Schema.{all_tables, no_schema}
use Rattle.plan_tables_schema.proofs.InTurn.{TurnsSoFar}
use Rattle.plan_migrations_remaking.specs.FirstSchema.{with_firsts}
use Rattle.plan_migrations_remaking.specs.Refusals.{FailsFor, RefusesToBegin}
use Rattle.plan_migrations_remaking.specs.Turns.{IsInside}
use Rattle.plan_migrations_remaking.proofs.making.make_all.Given as goal

abbrev pub invariant-loop-table : goal.invariant-loop-table
invariant-loop-table g l =
    TurnsSoFar g.S.Store l.fn.tx l.tx l.table-index (λ n. IsInside (with_firsts no_schema (take n all_tables)))
    (λ base old. FailsFor (RefusesToBegin old.step_limit base) old)
