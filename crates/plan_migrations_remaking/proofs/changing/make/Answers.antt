use Rattle.std.proofs.Common.{rules, subst, sym}
use Rattle.sqlite.specs.Held.{state}
use Rattle.plan_migrations_remaking.proofs.ChangingLemmas.{makes_one, one_fails}
use Rattle.plan_tables_schema.proofs.ResultLemmas.{if_from}
use Rattle.plan_tables_schema.specs.Rows.{MayFail}
use Rattle.plan_migrations_remaking.proofs.changing.make.Goals as goal

pub returns : goal.returns
returns g c = record {
  same_reference = search rules;
  ok = λ clean base has.
      makes_one c.args.table base (state g.S.Store c.args.tx.now.conn.now)
      (state g.S.Store c.execute.new.self.conn.now) has c.in_ok-execute.field-0
      (rw c.create_text.ensures at (c.in_ok-execute.ensures.runs clean has.mode));
  fails = search rules;
  stays_open = search rules;
  kept = search rules;
  survives = search rules;
}

pub returns-in_err-execute : goal.returns-in_err-execute
returns-in_err-execute g c = record {
  same_reference = search rules;
  ok = search rules;
  fails = λ clean base has.
      let fails = one_fails c.args.table base (state g.S.Store c.args.tx.now.conn.now) (state g.S.Store
      c.execute.new.self.conn.now) has c.in_err-execute.field-0.0
      (rw c.create_text.ensures at (c.in_err-execute.ensures.runs clean has.mode)) in
      if_from c.from_residual.result _ _ (λ e same. subst (MayFail (state g.S.Store c.args.tx.now.conn.now) (state
      g.S.Store c.execute.new.self.conn.now)) (sym same) fails) c.from_residual.ensures.1;
  stays_open = search rules;
  kept = search rules;
  survives = search rules;
}
