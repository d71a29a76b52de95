use Rattle.std.proofs.Common.{List, arith, rules, subst, sym}
use Rattle.std.proofs.lemmas.List.Elements.{All-contains}
use Rattle.sqlite.specs.Held.{state}
use Rattle.sqlite.specs.Order.{Row}
use Rattle.sqlite.specs.State.{HasCleanDisk}
use Rattle.sqlite.specs.declared.error.Error.{Error}
use Rattle.sqlite.proofs.InsideLemmas.{keeps_then}
use Rattle.plan_tables_schema.specs.Rows.{Stands, Tables, tables_of}
use Rattle.plan_migrations_remaking.specs.Refusals.{FailsFor}
use Rattle.plan_migrations_remaking.specs.Remaking.{RefusesToFill, with_all_put, with_rows_put}
use Rattle.plan_migrations_remaking.specs.Types.{AreFirst}
use Rattle.plan_migrations_remaking.specs.declared.rows.FirstRows.{FirstRows}
use Rattle.plan_tables_schema.proofs.ResultLemmas.{if_from}
use Rattle.plan_migrations_remaking.proofs.CauseLemmas.{fails_after}
use Rattle.plan_tables_schema.proofs.InTurn.{fold_on, item_contains, stands_on, survives_both}
use Rattle.plan_migrations_remaking.proofs.TurnLemmas.{table_refused}
use Rattle.plan_migrations_remaking.proofs.putting.put_all.Goals as goal

pub loop-read-preserved : goal.loop-read-preserved
loop-read-preserved g c =
    let old = state g.S.Store c.args.tx.now.conn.now in
    let mid = state g.S.Store c.loop-read.tx.conn.now in
    let new = state g.S.Store c.put_rows.new.tx.conn.now in
    let read = c.read-item.result in
    record {
      same = search rules;
      kept = λ clean. keeps_then old mid new (c.loop-read.invariant.kept (omega
          (arith, c.put_rows.ensures.writes.survives.clean))) (c.put_rows.ensures.writes.kept clean);
      survives = survives_both old mid new c.loop-read.invariant.survives c.put_rows.ensures.writes.survives;
      opened = λ clean plan mode up typed.
          let calm : HasCleanDisk mid = omega (arith, c.put_rows.ensures.writes.survives.clean) in
          let before = c.loop-read.invariant.leaves calm plan mode typed in
          c.in_ok-put_rows.ensures.puts.stays_open clean before.0.plan before.0.mode
          (c.loop-read.invariant.opened calm plan mode up typed)
          (subst (AreFirst read.table) (sym c.deref.ensures.value)
          (All-contains (λ (one : FirstRows). AreFirst one.table one.rows.items) c.args.reads.now read typed
          (item_contains _ c.loop-read.read-index read (omega arith) c.read-item.is)));
      leaves = λ clean plan mode typed.
          let before = c.loop-read.invariant.leaves (omega
          (arith, c.put_rows.ensures.writes.survives.clean)) plan mode typed in
          let are = All-contains (λ (one : FirstRows). AreFirst one.table one.rows.items) c.args.reads.now read typed
          (item_contains _ c.loop-read.read-index read (omega arith) c.read-item.is) in
          let step : Stands mid new (with_rows_put read.table read.rows.items (tables_of mid.now.trees)) =
          rw c.deref.ensures.value at (c.in_ok-put_rows.ensures.writes.ok clean before.0.plan before.0.mode
          (subst (AreFirst read.table) (sym c.deref.ensures.value) are)) in (
            stands_on old mid new _ before.0 step,
            fold_on (λ (now : Tables) (one : FirstRows). with_rows_put one.table one.rows.items now) c.args.reads.now
                c.loop-read.read-index read
                (tables_of mid.now.trees) (tables_of new.now.trees) _
                (omega arith) c.read-item.is step.rows_are before.1,
          );
    }

pub returns-in_err-put_rows-clause-puts : goal.returns-in_err-put_rows-clause-puts
returns-in_err-put_rows-clause-puts g c = record {
  fails = λ clean plan mode up typed.
      let old = state g.S.Store c.args.tx.now.conn.now in
      let mid = state g.S.Store c.loop-read.tx.conn.now in
      let new = state g.S.Store c.put_rows.new.tx.conn.now in
      let read = c.read-item.result in
      let e = c.in_err-put_rows.field-0.0 in
      let calm : HasCleanDisk mid = omega (arith, c.put_rows.ensures.writes.survives.clean) in
      let before = c.loop-read.invariant.leaves calm plan mode typed in
      let survives = c.loop-read.invariant.survives in
      let caused = c.in_err-put_rows.ensures.puts.fails clean before.0.plan before.0.mode
      (c.loop-read.invariant.opened calm plan mode up typed)
      (subst (AreFirst read.table) (sym c.deref.ensures.value)
      (All-contains (λ (one : FirstRows). AreFirst one.table one.rows.items) c.args.reads.now read typed
      (item_contains _ c.loop-read.read-index read (omega arith) c.read-item.is))) in
      let Refused = RefusesToFill old.step_limit old.now.schema (with_all_put c.args.reads.now (tables_of old.now.trees)) in
      let here : List Row → Error → Type 0 = λ rows. RefusesToFill mid.step_limit mid.now.schema
      (with_rows_put read.table rows (tables_of mid.now.trees)) in
      if_from c.from_residual.result _ _ (λ f same. subst (FailsFor Refused old new) (sym same)
      (fails_after (here read.rows.items) Refused old mid new e
      (table_refused old mid c.args.reads.now c.loop-read.read-index read e (omega arith) c.read-item.is survives.limit
      before) survives.counts (c.loop-read.invariant.opened calm plan mode up typed) survives.limit
      (subst (λ rows. FailsFor (here rows) mid new e) c.deref.ensures.value caused)))
      c.from_residual.ensures.1;
  stays_open = search rules;
}
