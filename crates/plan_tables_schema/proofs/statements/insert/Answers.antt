use Rattle.std.proofs.Common.{[], ◌∷◌, length, rules, subst, sym}
use Rattle.sqlite.specs.Held.{state}
use Rattle.sqlite.specs.Values.{bound}
use Rattle.plan_tables_schema.specs.Cells.{column_names, insert_terms}
use Rattle.plan_tables_schema.specs.Rows.{MayFail}
use Rattle.plan_tables_schema.specs.Texts.{insert_sql}
use Rattle.plan_tables_schema.proofs.ResultLemmas.{if_from}
use Rattle.plan_tables_schema.proofs.SeveralLemmas.{puts_one}
use Rattle.plan_tables_schema.proofs.StatementLemmas.{inserted}
use Rattle.plan_tables_schema.proofs.TakeLemmas.{take_fails, take_sound}
use Rattle.plan_tables_schema.proofs.statements.insert.Goals as goal

pub returns-clause-writes : goal.returns-clause-writes
returns-clause-writes g c = record {
  same_reference = search rules;
  ok = λ clean plan mode kinds.
      inserted c.args.table (insert_sql c.args.table) (insert_terms c.args.table) (length (column_names c.args.table)) (bound c.args.values.now)
      ((bound c.args.values.now) ∷ []) (puts_one c.args.table (bound c.args.values.now))
      (state g.S.Store c.args.tx.now.conn.now) (state g.S.Store c.execute.new.self.conn.now) c.in_ok-execute.field-0 plan
      (kinds, tt) (rw c.insert_text.ensures at (c.in_ok-execute.ensures.runs clean mode));
  kept = search rules;
  survives = search rules;
}

pub returns-clause-accepts : goal.returns-clause-accepts
returns-clause-accepts g c = record {
  fails = λ clean sound accepts. tt;
  sound = λ clean sound accepts.
      take_sound c.args.table (insert_sql c.args.table) (insert_terms c.args.table) (length (column_names c.args.table)) (bound c.args.values.now)
      ((bound c.args.values.now) ∷ []) (puts_one c.args.table (bound c.args.values.now))
      (state g.S.Store c.args.tx.now.conn.now) (state g.S.Store c.execute.new.self.conn.now) c.in_ok-execute.field-0 sound
      (accepts, tt) (rw c.insert_text.ensures at (c.in_ok-execute.ensures.runs clean sound.mode));
}

pub returns-in_err-execute-clause-accepts : goal.returns-in_err-execute-clause-accepts
returns-in_err-execute-clause-accepts g c = record {
  fails = λ clean sound accepts.
      let fails = take_fails c.args.table (insert_sql c.args.table) (insert_terms c.args.table) (length (column_names c.args.table)) (bound c.args.values.now)
      ((bound c.args.values.now) ∷ []) (puts_one c.args.table (bound c.args.values.now))
      (state g.S.Store c.args.tx.now.conn.now) (state g.S.Store c.execute.new.self.conn.now) c.in_err-execute.field-0.0
      sound accepts.whole (accepts, tt) (rw c.insert_text.ensures at (c.in_err-execute.ensures.runs clean sound.mode)) in
      if_from c.from_residual.result _ _ (λ e same. subst (MayFail (state g.S.Store c.args.tx.now.conn.now) (state
      g.S.Store c.execute.new.self.conn.now)) (sym same) fails) c.from_residual.ensures.1;
  sound = search rules;
}
