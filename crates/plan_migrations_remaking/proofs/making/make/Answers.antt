use Rattle.std.proofs.Common.{rules, subst, sym}
use Rattle.sqlite.specs.Held.{state}
use Rattle.plan_tables_schema.proofs.ResultLemmas.{if_from}
use Rattle.plan_migrations_remaking.specs.Refusals.{FailsFor, RefusesToBegin}
use Rattle.plan_migrations_remaking.proofs.StepLemmas.{make_fails, makes}
use Rattle.plan_migrations_remaking.proofs.making.make.Goals as goal

pub returns : goal.returns
returns g c = record {
  same_reference = search rules;
  ok = λ clean base has.
      makes c.args.table base (state g.S.Store c.args.tx.now.conn.now) (state g.S.Store c.execute.new.self.conn.now)
      c.in_ok-execute.field-0 has
      (rw c.first_create_text.ensures at (c.in_ok-execute.ensures.runs clean has.1));
  fails = search rules;
  stays_open = search rules;
  kept = search rules;
  survives = search rules;
}

pub returns-in_err-execute : goal.returns-in_err-execute
returns-in_err-execute g c = record {
  same_reference = search rules;
  ok = search rules;
  fails = λ clean base has.
      let old = state g.S.Store c.args.tx.now.conn.now in
      let new = state g.S.Store c.execute.new.self.conn.now in
      let caused = make_fails c.args.table base old new c.in_err-execute.field-0.0 has
      (rw c.first_create_text.ensures at (c.in_err-execute.ensures.runs clean has.1)) in
      if_from c.from_residual.result _ _ (λ e same. subst (FailsFor (RefusesToBegin old.step_limit base) old new) (sym same) caused)
      c.from_residual.ensures.1;
  stays_open = search rules;
  kept = search rules;
  survives = search rules;
}
