use Rattle.std.proofs.Common.{arith, subst, sym}
use Rattle.std.proofs.lemmas.List.{get_or_default}
use Rattle.std.proofs.lemmas.List.Elements.{AllWithin-upto, All-from_all_within}
use Rattle.sqlite.specs.Effect.{Database}
use Rattle.std.proofs.lemmas.Result.{err_from_is_err_and}
use Rattle.sqlite.specs.Held.{state}
use Rattle.sqlite.proofs.Callers.{unchanged_then}
use Rattle.sqlite.proofs.StateLemmas.{survives_then}
use Rattle.plan_tables_schema.specs.declared.tables.Table.TheVariants.{Meta}
use Rattle.plan_migrations_remaking.specs.FirstSchema.{CanRemake}
use Rattle.plan_migrations.proofs.RowidLemmas.{HasRowids, rowids_on, rowids_stop}
use Rattle.plan_migrations.proofs.rowids.check_rowids.Goals as goal

pub check_table-requires-clause-open : goal.check_table-requires-clause-open
check_table-requires-clause-open g c clean = (c.loop-table.invariant.same clean).0.is_open

pub returns-in_err-check_table-clause-checked : goal.returns-in_err-check_table-clause-checked
returns-in_err-check_table-clause-checked g c clean can =
    let old = state g.S.Store c.args.conn.now in
    let mid = state g.S.Store c.loop-table.conn in
    let new = state g.S.Store c.check_table.new.conn in
    let same = c.loop-table.invariant.same (omega (arith, c.check_table.ensures.crash.clean, clean)) in
    let p = err_from_is_err_and c.from_residual.result c.from_residual.ensures.1 in
    rw (p.1, p.2) (rowids_stop old mid new same c.loop-table.invariant.survives.counts
    c.loop-table.invariant.survives.limit c.args.tables.now _ c.in_err-check_table.field-0.0
    (c.in_err-check_table.ensures.checked clean (subst (λ (d : Database). CanRemake d.schema) (sym same.0.now_is) can)))

pub loop-table-preserved : goal.loop-table-preserved
loop-table-preserved g c =
    let old = state g.S.Store c.args.conn.now in
    let mid = state g.S.Store c.loop-table.conn in
    let new = state g.S.Store c.check_table.new.conn in
    record {
      mode = c.check_table.ensures.mode;
      survives = survives_then old mid new _ _ (λ _. ⊥) (λ _ _ none. none) (λ _ _ none. none)
          c.loop-table.invariant.survives c.check_table.ensures.crash;
      same = λ clean. unchanged_then old mid new
          (c.loop-table.invariant.same (omega (arith, c.check_table.ensures.crash.clean, clean)))
          (c.in_ok-check_table.ensures.same clean);
      checked = λ clean can.
          let same = c.loop-table.invariant.same (omega (arith, c.check_table.ensures.crash.clean, clean)) in
          let had = c.loop-table.invariant.checked (omega (arith, c.check_table.ensures.crash.clean, clean)) can in
          rowids_on old mid new c.args.tables.now c.loop-table.table-index same had
          (λ d. subst (HasRowids mid) (get_or_default c.args.tables.now c.loop-table.table-index Meta d
          c.loop-table-test.true)
          (c.in_ok-check_table.ensures.checked clean (subst (λ (d : Database). CanRemake d.schema) (sym same.0.now_is) can)));
    }

-- all tables
pub returns-clause-checked : goal.returns-clause-checked
returns-clause-checked g c clean can =
    let old = state g.S.Store c.args.conn.now in
    All-from_all_within (HasRowids old) c.args.tables.now (AllWithin-upto (HasRowids old) c.args.tables.now 0
    c.loop-table.table-index _ (omega arith) (c.loop-table.invariant.checked clean can))
