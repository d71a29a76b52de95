use Rattle.std.proofs.Common.{arith, inl, rules, subst, sym}
use Rattle.sqlite.specs.Held.{state}
use Rattle.sqlite.specs.State.{HasCleanDisk}
use Rattle.plan_tables_schema.specs.Free.{with_plan}
use Rattle.plan_tables_schema.specs.Rows.{no_rows, tables_of}
use Rattle.plan_tables_schema.proofs.ResultLemmas.{if_err, if_from}
use Rattle.plan_migrations_remaking.specs.Refusals.{FailsFor}
use Rattle.plan_migrations_remaking.specs.Remaking.{RefusesToFill, with_all_put}
use Rattle.plan_migrations_remaking.proofs.CauseLemmas.{fails_after}
use Rattle.plan_migrations_remaking.proofs.FillLemmas.{filled, row_refused_then}
use Rattle.plan_migrations_remaking.proofs.filling.fill.Goals as goal

pub returns : goal.returns
returns g c = record {
  same_reference = search rules;
  ok = λ clean base from.
      let mid = state g.S.Store c.make_all.new.tx.conn.now in
      let calm : HasCleanDisk mid = omega (arith, c.put_all.ensures.writes.survives.clean) in
      let made = c.in_ok-make_all.ensures.ok calm base from.0 in
      filled c.put_all.result base mid (state g.S.Store c.put_all.new.tx.conn.now) c.args.reads.now made
      (c.put_all.ensures.writes.ok clean made.plan made.mode from.1);
  fails = λ clean base from.
      let old = state g.S.Store c.args.tx.now.conn.now in
      let mid = state g.S.Store c.make_all.new.tx.conn.now in
      let new = state g.S.Store c.put_all.new.tx.conn.now in
      let reads = c.args.reads.now in
      let calm : HasCleanDisk mid = omega (arith, c.put_all.ensures.writes.survives.clean) in
      let made = c.in_ok-make_all.ensures.ok calm base from.0 in
      let up = c.in_ok-make_all.ensures.stays_open calm base from.0 in
      let limit = c.make_all.ensures.survives.limit in
      let Refused = RefusesToFill old.step_limit (with_plan base.schema) (with_all_put reads no_rows) in
      if_err c.put_all.result _ (FailsFor Refused old new)
      (λ e h. fails_after (RefusesToFill mid.step_limit mid.now.schema (with_all_put reads (tables_of mid.now.trees)))
      Refused old mid new e (row_refused_then old mid reads base e limit made) c.make_all.ensures.survives.counts up limit h)
      (c.put_all.ensures.puts.fails clean made.plan made.mode up from.1);
  stays_open = λ clean base from.
      let mid = state g.S.Store c.make_all.new.tx.conn.now in
      let calm : HasCleanDisk mid = omega (arith, c.put_all.ensures.writes.survives.clean) in
      let made = c.in_ok-make_all.ensures.ok calm base from.0 in
      c.put_all.ensures.puts.stays_open clean made.plan made.mode (c.in_ok-make_all.ensures.stays_open calm base from.0) from.1;
  kept = search rules;
  survives = search rules;
}

pub returns-in_err-make_all : goal.returns-in_err-make_all
returns-in_err-make_all g c = record {
  same_reference = search rules;
  ok = search rules;
  fails = λ clean base from.
      let old = state g.S.Store c.args.tx.now.conn.now in
      let new = state g.S.Store c.make_all.new.tx.conn.now in
      let Refused = RefusesToFill old.step_limit (with_plan base.schema) (with_all_put c.args.reads.now no_rows) in
      if_from c.from_residual.result _ _ (λ f same. subst (FailsFor Refused old new) (sym same)
      (inl (c.in_err-make_all.ensures.fails clean base from.0))) c.from_residual.ensures.1;
  stays_open = search rules;
  kept = search rules;
  survives = search rules;
}
