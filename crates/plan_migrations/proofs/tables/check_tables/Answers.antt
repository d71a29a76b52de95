use Rattle.std.proofs.Common.{arith, subst}
use Rattle.std.proofs.lemmas.List.{get_or_default}
use Rattle.std.proofs.lemmas.List.Elements.{AllWithin-upto, All-from_all_within}
use Rattle.std.proofs.lemmas.Result.{err_from_is_err_and}
use Rattle.sqlite.specs.Held.{state}
use Rattle.sqlite.proofs.StateLemmas.{survives_then}
use Rattle.plan_tables_schema.specs.declared.tables.Table.TheVariants.{Meta}
use Rattle.plan_migrations.specs.Schemas.{IsOfSchema}
use Rattle.plan_migrations.proofs.TurnLemmas.{same_if_of_schema, stops, turned}
use Rattle.plan_migrations.proofs.tables.check_tables.Goals as goal

pub returns-in_err-check_table-clause-checked : goal.returns-in_err-check_table-clause-checked
returns-in_err-check_table-clause-checked g c clean =
    let old = state g.S.Store c.args.conn.now in
    let mid = state g.S.Store c.loop-table.conn in
    let new = state g.S.Store c.check_table.new.conn in
    let had = c.loop-table.invariant.checked (omega (arith, c.check_table.ensures.crash.clean, clean)) in
    let p = err_from_is_err_and c.from_residual.result c.from_residual.ensures.1 in
    rw (p.1, p.2) (stops old mid new had.0 c.loop-table.invariant.survives.counts
    c.loop-table.invariant.survives.limit c.args.tables.now _ c.in_err-check_table.field-0.0
    (c.in_err-check_table.ensures.checked clean))

pub loop-table-preserved : goal.loop-table-preserved
loop-table-preserved g c =
    let old = state g.S.Store c.args.conn.now in
    let mid = state g.S.Store c.loop-table.conn in
    let new = state g.S.Store c.check_table.new.conn in
    record {
      mode = c.check_table.ensures.mode;
      survives = survives_then old mid new _ _ (λ _. ⊥) (λ _ _ none. none) (λ _ _ none. none)
          c.loop-table.invariant.survives c.check_table.ensures.crash;
      checked = λ clean.
          let had = c.loop-table.invariant.checked (omega (arith, c.check_table.ensures.crash.clean, clean)) in
          let one = c.in_ok-check_table.ensures.checked clean in
          turned old mid new c.args.tables.now c.loop-table.table-index had
          (λ d. subst (IsOfSchema mid new) (get_or_default c.args.tables.now c.loop-table.table-index Meta d
          c.loop-table-test.true) one) (same_if_of_schema mid new _ one);
    }

-- all tables
pub returns-clause-checked : goal.returns-clause-checked
returns-clause-checked g c clean =
    let old = state g.S.Store c.args.conn.now in
    let mid = state g.S.Store c.loop-table.conn in
    let had = c.loop-table.invariant.checked clean in (
      had.0,
      All-from_all_within (IsOfSchema old mid) c.args.tables.now
          (AllWithin-upto (IsOfSchema old mid) c.args.tables.now 0 c.loop-table.table-index _ (omega arith) had.1),
    )
