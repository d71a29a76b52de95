use Rattle.std.proofs.Common.{arith, inr, take}
use Rattle.plan_tables_schema.specs.Schema.{all_tables, no_schema}
use Rattle.plan_tables_schema.specs.declared.tables.Table.TheVariants.{Meta}
use Rattle.plan_tables_schema.proofs.InTurn.{so_far_done, so_far_then, turns_fail}
use Rattle.plan_tables_schema.proofs.PlaceLemmas.{at_place, place_at}
use Rattle.plan_migrations_remaking.specs.FirstSchema.{with_firsts}
use Rattle.plan_migrations_remaking.specs.Refusals.{RefusesToBegin}
use Rattle.plan_migrations_remaking.specs.Turns.{IsInside}
use Rattle.plan_migrations_remaking.proofs.CauseLemmas.{refusing}
use Rattle.plan_migrations_remaking.proofs.making.make_all.Goals as goal

pub returns-in_err-make : goal.returns-in_err-make
returns-in_err-make g c =
    turns_fail (so_far_then (λ n. IsInside (with_firsts no_schema (take n all_tables))) (refusing RefusesToBegin)
    c.loop-table.invariant (at_place (λ us. IsInside (with_firsts no_schema us)) _ _
    (place_at c.loop-table.table-index Meta (omega arith)) c.in_err-make.ensures)) c.from_residual.ensures.1

pub loop-table-preserved : goal.loop-table-preserved
loop-table-preserved g c =
    inr (so_far_then (λ n. IsInside (with_firsts no_schema (take n all_tables))) (refusing RefusesToBegin)
    c.loop-table.invariant (at_place (λ us. IsInside (with_firsts no_schema us)) _ _
    (place_at c.loop-table.table-index Meta (omega arith)) c.in_ok-make.ensures))

pub returns : goal.returns
returns g c = so_far_done (λ n. IsInside (with_firsts no_schema (take n all_tables))) 13 (omega arith)
    c.loop-table.invariant
