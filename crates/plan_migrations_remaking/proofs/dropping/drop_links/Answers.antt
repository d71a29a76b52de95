use Rattle.std.proofs.Common.{[], refl, rules, subst, sym}
use Rattle.sqlite.specs.Held.{state}
use Rattle.sqlite_schema.specs.Names.{same_name}
use Rattle.plan_tables_schema.proofs.ResultLemmas.{if_from}
use Rattle.plan_tables_schema.specs.declared.tables.Table.TheVariants.{LinkInForce}
use Rattle.plan_migrations_remaking.specs.Refusals.{FailsFor, RefusesToLose}
use Rattle.plan_migrations_remaking.proofs.StepLemmas.{drop_fails, loses}
use Rattle.plan_migrations_remaking.proofs.WithoutLemmas.{unviewed_links}
use Rattle.plan_migrations_remaking.proofs.dropping.drop_links.Goals as goal

pub returns : goal.returns
unfolding same_name
returns g c = record {
  same_reference = search rules;
  ok = λ clean base has.
      loses LinkInForce [] refl refl base (state g.S.Store c.args.tx.now.conn.now) (state g.S.Store c.execute.new.self.conn.now)
      has (unviewed_links base.schema has.can []) c.in_ok-execute.field-0
      (rw c.drop_links_text.ensures at (c.in_ok-execute.ensures.runs clean has.mode));
  fails = search rules;
  stays_open = search rules;
  kept = search rules;
  survives = search rules;
}

pub returns-in_err-execute : goal.returns-in_err-execute
unfolding same_name
returns-in_err-execute g c = record {
  same_reference = search rules;
  ok = search rules;
  fails = λ clean base has.
      let old = state g.S.Store c.args.tx.now.conn.now in
      let new = state g.S.Store c.execute.new.self.conn.now in
      let caused = drop_fails LinkInForce [] refl refl base old new has (unviewed_links base.schema has.can [])
      c.in_err-execute.field-0.0
      (rw c.drop_links_text.ensures at (c.in_err-execute.ensures.runs clean has.mode)) in
      if_from c.from_residual.result _ _ (λ e same. subst (FailsFor (RefusesToLose old.step_limit base) old new) (sym same) caused)
      c.from_residual.ensures.1;
  stays_open = search rules;
  kept = search rules;
  survives = search rules;
}
