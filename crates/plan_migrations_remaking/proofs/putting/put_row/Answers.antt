use Rattle.std.proofs.Common.{◌≡◌, ◌∙◌, Err, ap, rules, subst, sym, OnOk}
use Rattle.sqlite.specs.Held.{state}
use Rattle.sqlite.specs.State.{ExecutesInside}
use Rattle.sqlite.specs.Values.{bound}
use Rattle.plan_tables_schema.specs.Rows.{AreOfKinds, Stands, tables_of, with_cells}
use Rattle.plan_tables_schema.proofs.ResultLemmas.{if_err}
use Rattle.plan_tables_schema.specs.Texts.{insert_sql}
use Rattle.plan_migrations_remaking.specs.Refusals.{FailsFor}
use Rattle.plan_migrations_remaking.specs.Remaking.{RefusesRow, remade_row}
use Rattle.plan_migrations_remaking.proofs.FitLemmas.{remade_bound, remade_of_kinds, remade_whole}
use Rattle.plan_migrations_remaking.proofs.StepLemmas.{insert_fails}
use Rattle.plan_migrations_remaking.proofs.putting.put_row.Goals as goal

pub returns-clause-writes : goal.returns-clause-writes
returns-clause-writes g c = record {
  same_reference = search rules;
  ok = λ clean plan mode typed.
      let old = state g.S.Store c.args.tx.now.conn.now in
      let new = state g.S.Store c.insert.new.tx.conn.now in
      let t = c.args.table in
      let row = c.args.row.now in
      let is : bound c.deref.result.now ≡ remade_row t row =
      ap bound c.deref.ensures.value ∙ c.in_ok-values.ensures ∙ remade_bound t row typed in
      subst (λ cells. OnOk c.insert.result (Stands old new (with_cells t cells (tables_of old.now.trees)))) is
      (c.insert.ensures.writes.ok clean plan mode (subst (AreOfKinds t) (sym is) (remade_of_kinds t row typed)));
  kept = search rules;
  survives = search rules;
}

pub returns-clause-puts : goal.returns-clause-puts
returns-clause-puts g c = record {
  fails = λ clean plan mode opened typed.
      let old = state g.S.Store c.args.tx.now.conn.now in
      let new = state g.S.Store c.insert.new.tx.conn.now in
      let t = c.args.table in
      let row = c.args.row.now in
      let is : bound c.deref.result.now ≡ remade_row t row =
      ap bound c.deref.ensures.value ∙ c.in_ok-values.ensures ∙ remade_bound t row typed in
      if_err c.insert.result _ (FailsFor (RefusesRow old.step_limit old.now t (remade_row t row)) old new)
      (λ e h. insert_fails t (remade_row t row) old new e plan (remade_whole t row typed)
      (subst (λ cells. ExecutesInside 0 (insert_sql t) cells old new (Err e)) is h)) (c.insert.ensures.fails clean mode);
  stays_open = λ clean plan mode opened typed. c.insert.ensures.stays_open clean mode;
}
