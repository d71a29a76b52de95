use Rattle.std.proofs.Common.{rules, subst, sym}
use Rattle.sqlite.specs.Held.{state}
use Rattle.plan_tables_schema.proofs.ResultLemmas.{if_from}
use Rattle.plan_tables_schema.proofs.StatementLemmas.{deleted}
use Rattle.plan_tables_schema.specs.Rows.{MayFail}
use Rattle.plan_tables_schema.specs.declared.tables.Table.TheVariants.{Meta}
use Rattle.plan_migrations_remaking.specs.Remaking.{meta_key}
use Rattle.plan_migrations_remaking.proofs.MetaLemmas.{take_fails}
use Rattle.plan_migrations_remaking.proofs.refilling.delete_meta.Goals as goal

pub returns-clause-writes : goal.returns-clause-writes
returns-clause-writes g c = record {
  same_reference = search rules;
  ok = λ clean plan mode free.
      deleted Meta meta_key (state g.S.Store c.args.tx.now.conn.now) (state g.S.Store
      c.execute.new.self.conn.now) c.in_ok-execute.field-0 plan free
      (rw c.delete_meta_text.ensures at (c.in_ok-execute.ensures.runs clean mode));
  kept = search rules;
  survives = search rules;
}

pub returns-in_err-execute-clause-accepts : goal.returns-in_err-execute-clause-accepts
returns-in_err-execute-clause-accepts g c = record {
  fails = λ clean plan mode database.
      let old = state g.S.Store c.args.tx.now.conn.now in
      let new = state g.S.Store c.execute.new.self.conn.now in
      let fails = take_fails old new c.in_err-execute.field-0.0 plan database
      (rw c.delete_meta_text.ensures at (c.in_err-execute.ensures.runs clean mode)) in
      if_from c.from_residual.result _ _ (λ e same. subst (MayFail old new) (sym same) fails) c.from_residual.ensures.1;
  stays_open = search rules;
}
