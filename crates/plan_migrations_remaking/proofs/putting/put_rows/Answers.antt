use Rattle.std.proofs.Common.{arith, rules, subst, sym}
use Rattle.std.proofs.lemmas.List.Elements.{All-contains}
use Rattle.sqlite.specs.Held.{state}
use Rattle.sqlite.specs.State.{HasCleanDisk}
use Rattle.sqlite.proofs.InsideLemmas.{keeps_then}
use Rattle.plan_tables_schema.specs.Rows.{Tables, tables_of, with_cells}
use Rattle.plan_migrations_remaking.specs.Refusals.{FailsFor}
use Rattle.plan_migrations_remaking.specs.Remaking.{RefusesRow, RefusesToFill, remade_row, with_rows_put}
use Rattle.plan_migrations_remaking.specs.Types.{HasTypes, first_types}
use Rattle.plan_tables_schema.proofs.ResultLemmas.{if_from}
use Rattle.plan_migrations_remaking.proofs.CauseLemmas.{fails_after}
use Rattle.plan_tables_schema.proofs.InTurn.{fold_on, item_contains, stands_on, survives_both}
use Rattle.plan_migrations_remaking.proofs.TurnLemmas.{row_refused}
use Rattle.plan_migrations_remaking.proofs.putting.put_rows.Goals as goal

pub loop-row-preserved : goal.loop-row-preserved
loop-row-preserved g c =
    let old = state g.S.Store c.args.tx.now.conn.now in
    let mid = state g.S.Store c.loop-row.tx.conn.now in
    let new = state g.S.Store c.put_row.new.tx.conn.now in
    record {
      same = search rules;
      kept = λ clean. keeps_then old mid new (c.loop-row.invariant.kept (omega
          (arith, c.put_row.ensures.writes.survives.clean))) (c.put_row.ensures.writes.kept clean);
      survives = survives_both old mid new c.loop-row.invariant.survives c.put_row.ensures.writes.survives;
      opened = λ clean plan mode up typed.
          let calm : HasCleanDisk mid = omega (arith, c.put_row.ensures.writes.survives.clean) in
          let before = c.loop-row.invariant.leaves calm plan mode typed in
          c.in_ok-put_row.ensures.puts.stays_open clean before.0.plan before.0.mode
          (c.loop-row.invariant.opened calm plan mode up typed)
          (All-contains (HasTypes (first_types c.args.table)) c.args.rows.now c.row-item.result typed
          (item_contains _ c.loop-row.row-index c.row-item.result (omega arith) c.row-item.is));
      leaves = λ clean plan mode typed.
          let before = c.loop-row.invariant.leaves (omega
          (arith, c.put_row.ensures.writes.survives.clean)) plan mode typed in
          let step = c.in_ok-put_row.ensures.writes.ok clean before.0.plan before.0.mode
          (All-contains (HasTypes (first_types c.args.table)) c.args.rows.now c.row-item.result typed
          (item_contains _ c.loop-row.row-index c.row-item.result (omega arith) c.row-item.is)) in (
            stands_on old mid new _ before.0 step,
            fold_on (λ (now : Tables) x. with_cells c.args.table (remade_row c.args.table x) now) c.args.rows.now
                c.loop-row.row-index c.row-item.result
                (tables_of mid.now.trees) (tables_of new.now.trees) _
                (omega arith) c.row-item.is step.rows_are before.1,
          );
    }

pub returns-in_err-put_row-clause-puts : goal.returns-in_err-put_row-clause-puts
returns-in_err-put_row-clause-puts g c = record {
  fails = λ clean plan mode up typed.
      let old = state g.S.Store c.args.tx.now.conn.now in
      let mid = state g.S.Store c.loop-row.tx.conn.now in
      let new = state g.S.Store c.put_row.new.tx.conn.now in
      let t = c.args.table in
      let row = c.row-item.result in
      let e = c.in_err-put_row.field-0.0 in
      let calm : HasCleanDisk mid = omega (arith, c.put_row.ensures.writes.survives.clean) in
      let before = c.loop-row.invariant.leaves calm plan mode typed in
      let survives = c.loop-row.invariant.survives in
      let caused = c.in_err-put_row.ensures.puts.fails clean before.0.plan before.0.mode
      (c.loop-row.invariant.opened calm plan mode up typed)
      (All-contains (HasTypes (first_types t)) c.args.rows.now row typed
      (item_contains _ c.loop-row.row-index row (omega arith) c.row-item.is)) in
      let Refused = RefusesToFill old.step_limit old.now.schema
      (with_rows_put t c.args.rows.now (tables_of old.now.trees)) in
      if_from c.from_residual.result _ _ (λ f same. subst (FailsFor Refused old new) (sym same)
      (fails_after (RefusesRow mid.step_limit mid.now t (remade_row t row)) Refused old mid new e
      (row_refused old mid t c.args.rows.now c.loop-row.row-index row e (omega arith) c.row-item.is survives.limit before)
      survives.counts (c.loop-row.invariant.opened calm plan mode up typed) survives.limit caused))
      c.from_residual.ensures.1;
  stays_open = search rules;
}
