use Rattle.std.proofs.Common.{◌≡◌, ◌∙◌, IsTrue, ap, arith, rules, subst, sym}
use Rattle.sqlite.specs.Effect.{Database}
use Rattle.sqlite.specs.Held.{state}
use Rattle.sqlite.specs.Schema.{Schema}
use Rattle.sqlite.specs.State.{HasCleanDisk}
use Rattle.plan_tables_schema.specs.Free.{CanMake, with_tables}
use Rattle.plan_migrations_remaking.specs.FirstSchema.{changed, changed_schema}
use Rattle.plan_migrations_remaking.proofs.ChangingLemmas.{nothing_in_the_way}
use Rattle.plan_migrations_remaking.proofs.changing.make_changed_tables.Goals as goal

pub returns : goal.returns
returns g c clean has =
    let old = state g.S.Store c.args.conn.now in
    let begun = c.transaction-tx.ensures.begun in
    let mid = state g.S.Store c.make_changed.new.tx.conn.now in
    let end = c.commit.new.self.0 in
    let same : end ≡ c.conn-2-1.given.0 = search rules in
    let calm_end : HasCleanDisk (state g.S.Store end) = subst (λ h. HasCleanDisk (state g.S.Store h)) (sym same) clean in
    let calm : HasCleanDisk mid = omega (arith, calm_end, c.commit.ensures.survives.clean) in
    let goes : IsTrue c.transaction-tx.result.conn.now.in_transaction = rw begun in
    let made = c.in_ok-make_changed.ensures.ok calm old.now (record {
      can = subst (λ (s : Schema). CanMake s changed_schema) (sym has) nothing_in_the_way;
      is = ap (λ h. (state g.S.Store h).now) begun;
      mode = goes;
    }) in
    let now = (c.in_ok-commit.ensures.ok calm_end).1.now_is in
    subst (λ h. (state g.S.Store h).now.schema ≡ changed_schema) same
    (ap (λ (db : Database). db.schema) now ∙ made.schema ∙ ap (λ (s : Schema). with_tables s changed) has)
