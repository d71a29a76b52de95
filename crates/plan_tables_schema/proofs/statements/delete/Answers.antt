use Rattle.std.proofs.Common.{rules, subst, sym}
use Rattle.sqlite.specs.Held.{state}
use Rattle.sqlite.specs.Values.{bound}
use Rattle.plan_tables_schema.specs.Rows.{MayFail}
use Rattle.plan_tables_schema.proofs.GoneLemmas.{lose_fails, lose_sound}
use Rattle.plan_tables_schema.proofs.ResultLemmas.{if_from}
use Rattle.plan_tables_schema.proofs.StatementLemmas.{deleted}
use Rattle.plan_tables_schema.proofs.statements.delete.Goals as goal

pub returns-clause-writes : goal.returns-clause-writes
returns-clause-writes g c = record {
  same_reference = search rules;
  ok = λ clean plan mode free.
      deleted c.args.table (bound c.args.key.now) (state g.S.Store c.args.tx.now.conn.now) (state g.S.Store
      c.execute.new.self.conn.now) c.in_ok-execute.field-0 plan free
      (rw c.delete_text.ensures at (c.in_ok-execute.ensures.runs clean mode));
  kept = search rules;
  survives = search rules;
}

pub returns-clause-accepts : goal.returns-clause-accepts
returns-clause-accepts g c = record {
  fails = λ clean sound loses. tt;
  sound = λ clean sound loses.
      lose_sound c.args.table (bound c.args.key.now) (state g.S.Store c.args.tx.now.conn.now) (state g.S.Store
      c.execute.new.self.conn.now) c.in_ok-execute.field-0 sound loses
      (rw c.delete_text.ensures at (c.in_ok-execute.ensures.runs clean sound.mode));
}

pub returns-in_err-execute-clause-accepts : goal.returns-in_err-execute-clause-accepts
returns-in_err-execute-clause-accepts g c = record {
  fails = λ clean sound loses.
      let fails = lose_fails c.args.table (bound c.args.key.now) (state g.S.Store c.args.tx.now.conn.now) (state
      g.S.Store c.execute.new.self.conn.now) c.in_err-execute.field-0.0 sound loses
      (rw c.delete_text.ensures at (c.in_err-execute.ensures.runs clean sound.mode)) in
      if_from c.from_residual.result _ _ (λ e same. subst (MayFail (state g.S.Store c.args.tx.now.conn.now) (state
      g.S.Store c.execute.new.self.conn.now)) (sym same) fails) c.from_residual.ensures.1;
  sound = search rules;
}
