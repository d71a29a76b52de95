use Rattle.std.proofs.Common.{◌≡◌, ◌∙◌, IsTrue, ap, arith, rules, subst, sym}
use Rattle.sqlite.specs.Effect.{Database}
use Rattle.sqlite.specs.Held.{state}
use Rattle.sqlite.specs.State.{HasCleanDisk}
use Rattle.plan_tables_schema.specs.Schema.{no_schema}
use Rattle.plan_migrations_remaking.specs.FirstSchema.{first_schema}
use Rattle.plan_migrations_remaking.proofs.making.make_first_tables.Goals as goal

pub returns : goal.returns
returns g c clean has =
    let begun = c.transaction-tx.ensures.begun in
    let mid = state g.S.Store c.make_all.new.tx.conn.now in
    let end = c.commit.new.self.0 in
    let same : end ≡ c.conn-2-1.given.0 = search rules in
    let calm_end : HasCleanDisk (state g.S.Store end) = subst (λ h. HasCleanDisk (state g.S.Store h)) (sym same) clean in
    let calm : HasCleanDisk mid = omega (arith, calm_end, c.commit.ensures.survives.clean) in
    let goes : IsTrue c.transaction-tx.result.conn.now.in_transaction = rw begun in
    let made = c.in_ok-make_all.ensures.ok calm (state g.S.Store c.args.conn.now).now
    (subst (λ h. (state g.S.Store h).now.schema ≡ no_schema) (sym begun) has, goes) in
    let now = (c.in_ok-commit.ensures.ok calm_end).1.now_is in
    subst (λ h. (state g.S.Store h).now.schema ≡ first_schema) same
    (ap (λ (db : Database). db.schema) now ∙ made.0)
