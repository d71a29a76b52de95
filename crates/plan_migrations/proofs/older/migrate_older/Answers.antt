use Rattle.std.proofs.Common.{◌∙◌, ℕ, Option, Some, ap, arith, inl, inr, subst}
use Rattle.std.proofs.lemmas.Result.{err_from_is_err_and}
use Rattle.std.specs.Prelude.{Ok}
use Rattle.sqlite.specs.State.{HasCleanDisk}
use Rattle.sqlite.specs.Held.{state}
use Rattle.plan_migrations.specs.Schemas.{TellsVersion}
use Rattle.plan_migrations.proofs.OlderLemmas.{current_if_known, current_if_none, current_since, same_if_told}
use Rattle.plan_migrations.proofs.OlderLemmas.{found_if_told, found_since, found_told}
use Rattle.plan_migrations.proofs.OlderLemmas.{none_is_some, some_is, survives_both, unmigrated_since}
use Rattle.plan_migrations.proofs.ReadLemmas.{untold}
use Rattle.plan_migrations.proofs.TurnLemmas.{in_error, kept_since}
use Rattle.plan_migrations.proofs.older.migrate_older.Goals as goal

pub returns-in_ok-earlier-in-Some-clause-current : goal.returns-in_ok-earlier-in-Some-clause-current
returns-in_ok-earlier-in-Some-clause-current g c clean =
    let old = state g.S.Store c.args.conn.now in
    let mid = state g.S.Store c.version.new.conn in
    let early : HasCleanDisk mid = omega (arith, c.migrate.ensures.crash.clean, clean) in
    current_since old mid (state g.S.Store c.migrate.new.conn)
    (same_if_told old mid _ (c.in_ok-found.ensures.tells early)) c.version.ensures.crash.counts
    c.version.ensures.crash.limit _ _ (c.in_ok-earlier-in-Some.ensures.migrated clean)

pub returns-in_ok-earlier-in-Some-clause-crash : goal.returns-in_ok-earlier-in-Some-clause-crash
returns-in_ok-earlier-in-Some-clause-crash g c =
    let old = state g.S.Store c.args.conn.now in
    let mid = state g.S.Store c.version.new.conn in
    survives_both old mid (state g.S.Store c.migrate.new.conn)
    (λ clean. same_if_told old mid _ (c.in_ok-found.ensures.tells clean)) c.version.ensures.crash
    c.migrate.ensures.crash

pub returns-in_err-earlier-in-Some-clause-unmigrated : goal.returns-in_err-earlier-in-Some-clause-unmigrated
returns-in_err-earlier-in-Some-clause-unmigrated g c clean =
    let old = state g.S.Store c.args.conn.now in
    let mid = state g.S.Store c.version.new.conn in
    let early : HasCleanDisk mid = omega (arith, c.migrate.ensures.crash.clean, clean) in
    let p = err_from_is_err_and c.from_residual-in_err-earlier-in-Some.result c.from_residual-in_err-earlier-in-Some.ensures.1 in
    rw (p.1, p.2) (unmigrated_since old mid (state g.S.Store c.migrate.new.conn)
    (same_if_told old mid _ (c.in_ok-found.ensures.tells early)) c.version.ensures.crash.counts
    c.version.ensures.crash.limit c.in_err-earlier-in-Some.field-0.0 (c.in_err-earlier-in-Some.ensures.unmigrated clean))

pub returns-in_err-earlier-in-Some-clause-kept : goal.returns-in_err-earlier-in-Some-clause-kept
returns-in_err-earlier-in-Some-clause-kept g c clean =
    let old = state g.S.Store c.args.conn.now in
    let mid = state g.S.Store c.version.new.conn in
    let early : HasCleanDisk mid = omega (arith, c.migrate.ensures.crash.clean, clean) in
    in_error _ (kept_since old mid (state g.S.Store c.migrate.new.conn)
    (same_if_told old mid _ (c.in_ok-found.ensures.tells early)) (c.in_err-earlier-in-Some.ensures.kept clean))

pub returns-in_err-earlier-in-Some-clause-crash : goal.returns-in_err-earlier-in-Some-clause-crash
returns-in_err-earlier-in-Some-clause-crash g c =
    let old = state g.S.Store c.args.conn.now in
    let mid = state g.S.Store c.version.new.conn in
    survives_both old mid (state g.S.Store c.migrate.new.conn)
    (λ clean. same_if_told old mid _ (c.in_ok-found.ensures.tells clean)) c.version.ensures.crash
    c.migrate.ensures.crash

pub returns-else-found-eq-FIRST_VERSION-clause-current : goal.returns-else-found-eq-FIRST_VERSION-clause-current
returns-else-found-eq-FIRST_VERSION-clause-current g c clean =
    let old = state g.S.Store c.args.conn.now in
    let mid = state g.S.Store c.version.new.conn in
    current_if_known old mid _ c.in-Some.found c.in-Some.is
    c.if-found-eq-FIRST_VERSION.false (c.in_ok-found.ensures.tells clean)

pub returns-in-None-clause-current : goal.returns-in-None-clause-current
returns-in-None-clause-current g c clean =
    let old = state g.S.Store c.args.conn.now in
    let mid = state g.S.Store c.version.new.conn in
    current_if_none old mid _ c.in-None.is (c.in_ok-found.ensures.tells clean)

pub returns-in_err-found-clause-unmigrated : goal.returns-in_err-found-clause-unmigrated
returns-in_err-found-clause-unmigrated g c clean =
    let p = err_from_is_err_and c.from_residual.result c.from_residual.ensures.1 in
    rw (p.1, p.2) (untold (state g.S.Store c.args.conn.now) (state g.S.Store c.version.new.conn) c.in_err-found.field-0.0
    (c.in_err-found.ensures.tells clean))

pub returns-in_ok-earlier-in-Some-clause-told : goal.returns-in_ok-earlier-in-Some-clause-told
returns-in_ok-earlier-in-Some-clause-told g c clean =
    let old = state g.S.Store c.args.conn.now in
    let mid = state g.S.Store c.version.new.conn in
    let early : HasCleanDisk mid = omega (arith, c.migrate.ensures.crash.clean, clean) in
    let tells = c.in_ok-found.ensures.tells early in
    elim (found_told old mid (state g.S.Store c.migrate.new.conn)
    (same_if_told old mid _ tells) c.version.ensures.crash.counts
    c.version.ensures.crash.limit _ _ c.version_of.result (c.in_ok-earlier-in-Some.ensures.migrated clean)
    c.version_of.ensures.none c.version_of.ensures.some
    (subst (λ (o : Option ℕ). TellsVersion old mid (Ok o))
    (c.in-Some.is ∙ ap Some c.if-found-eq-FIRST_VERSION.true) tells)) [
      | inl was ↦ (c.version.new.conn, was)
      | inr now ↦ (c.migrate.new.conn, now)
    ]

pub returns-in_ok-earlier-in-Some-clause-found : goal.returns-in_ok-earlier-in-Some-clause-found
returns-in_ok-earlier-in-Some-clause-found g c clean =
    let old = state g.S.Store c.args.conn.now in
    let mid = state g.S.Store c.version.new.conn in
    let early : HasCleanDisk mid = omega (arith, c.migrate.ensures.crash.clean, clean) in
    found_since old mid (state g.S.Store c.migrate.new.conn)
    (same_if_told old mid _ (c.in_ok-found.ensures.tells early)) c.version.ensures.crash.counts
    c.version.ensures.crash.limit _ _ c.version_of.result (c.in_ok-earlier-in-Some.ensures.migrated clean)
    c.version_of.ensures.none c.version_of.ensures.some

pub returns-else-found-eq-FIRST_VERSION-clause-found : goal.returns-else-found-eq-FIRST_VERSION-clause-found
returns-else-found-eq-FIRST_VERSION-clause-found g c clean =
    found_if_told (state g.S.Store c.args.conn.now) (state g.S.Store c.version.new.conn) _ _
    c.in-Some.is (λ one. c.if-found-eq-FIRST_VERSION.false (some_is one)) (c.in_ok-found.ensures.tells clean)

pub returns-in-None-clause-found : goal.returns-in-None-clause-found
returns-in-None-clause-found g c clean =
    found_if_told (state g.S.Store c.args.conn.now) (state g.S.Store c.version.new.conn) _ _
    c.in-None.is (none_is_some _) (c.in_ok-found.ensures.tells clean)

pub returns-else-found-eq-FIRST_VERSION-clause-told : goal.returns-else-found-eq-FIRST_VERSION-clause-told
returns-else-found-eq-FIRST_VERSION-clause-told g c clean =
    let old = state g.S.Store c.args.conn.now in
    let mid = state g.S.Store c.version.new.conn in
    (c.version.new.conn, subst (λ (o : Option ℕ). TellsVersion old mid (Ok o)) c.in-Some.is (c.in_ok-found.ensures.tells clean))

pub returns-in-None-clause-told : goal.returns-in-None-clause-told
returns-in-None-clause-told g c clean =
    let old = state g.S.Store c.args.conn.now in
    let mid = state g.S.Store c.version.new.conn in
    (c.version.new.conn, subst (λ (o : Option ℕ). TellsVersion old mid (Ok o)) c.in-None.is (c.in_ok-found.ensures.tells clean))
