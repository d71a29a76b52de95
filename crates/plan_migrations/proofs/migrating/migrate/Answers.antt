use Rattle.std.proofs.Common.{arith}
use Rattle.std.proofs.lemmas.Result.{err_from_is_err_and}
use Rattle.sqlite.specs.Held.{state}
use Rattle.sqlite.proofs.StateLemmas.{survives_then}
use Rattle.plan_migrations.specs.Migrating.{MayRenew}
use Rattle.plan_migrations.proofs.ReadLemmas.{current_migrated, current_unmigrated, first_migrated, first_told}
use Rattle.plan_migrations.proofs.ReadLemmas.{first_unmigrated, renews_since, untold}
use Rattle.plan_migrations.proofs.TurnLemmas.{in_error, kept_since, same_if_version, told_some}
use Rattle.plan_migrations.proofs.migrating.migrate.Goals as goal

pub check_tables-requires-clause-open : goal.check_tables-requires-clause-open
check_tables-requires-clause-open g c clean =
    let old = state g.S.Store c.args.conn.now in
    let mid = state g.S.Store c.version.new.conn in
    let told = told_some old mid _ c.in-Some.found c.in-Some.is
    (c.in_ok-found.ensures.tells clean) in
    (same_if_version old mid c.in-Some.found told.1).0.is_open

pub renew-requires-clause-open : goal.renew-requires-clause-open
renew-requires-clause-open g c clean =
    let old = state g.S.Store c.args.conn.now in
    let mid = state g.S.Store c.version.new.conn in
    let told = told_some old mid _ c.in-Some.found c.in-Some.is
    (c.in_ok-found.ensures.tells clean) in
    (same_if_version old mid c.in-Some.found told.1).0.is_open

pub renew-requires-clause-told : goal.renew-requires-clause-told
renew-requires-clause-told g c clean can =
    let old = state g.S.Store c.args.conn.now in
    let mid = state g.S.Store c.version.new.conn in
    let told = told_some old mid _ c.in-Some.found c.in-Some.is
    (c.in_ok-found.ensures.tells clean) in
    first_told old mid mid c.in-Some.found told c.if-found-eq-SCHEMA_VERSION.false c.schema.ensures.live can

pub returns-in_ok-check_tables-in-Some-clause-migrated : goal.returns-in_ok-check_tables-in-Some-clause-migrated
returns-in_ok-check_tables-in-Some-clause-migrated g c clean =
    let old = state g.S.Store c.args.conn.now in
    let mid = state g.S.Store c.version.new.conn in
    let new = state g.S.Store c.check_tables.new.conn in
    let told = told_some old mid _ c.in-Some.found c.in-Some.is
    (c.in_ok-found.ensures.tells (omega (arith, c.check_tables.ensures.crash.clean, clean))) in
    current_migrated old mid new c.in-Some.found told c.if-found-eq-SCHEMA_VERSION.true (c.in_ok-check_tables-in-Some.ensures.checked clean)

pub returns-in_err-check_tables-in-Some-clause-unmigrated : goal.returns-in_err-check_tables-in-Some-clause-unmigrated
returns-in_err-check_tables-in-Some-clause-unmigrated g c clean =
    let old = state g.S.Store c.args.conn.now in
    let mid = state g.S.Store c.version.new.conn in
    let new = state g.S.Store c.check_tables.new.conn in
    let told = told_some old mid _ c.in-Some.found c.in-Some.is
    (c.in_ok-found.ensures.tells (omega (arith, c.check_tables.ensures.crash.clean, clean))) in
    let p = err_from_is_err_and c.from_residual-in_err-check_tables-in-Some.result c.from_residual-in_err-check_tables-in-Some.ensures.1 in
    rw (p.1, p.2) (current_unmigrated old mid new c.in-Some.found told c.if-found-eq-SCHEMA_VERSION.true
    c.version.ensures.crash.counts c.version.ensures.crash.limit c.in_err-check_tables-in-Some.field-0.0
    (c.in_err-check_tables-in-Some.ensures.checked clean))

pub returns-in_err-check_tables-in-Some-clause-kept : goal.returns-in_err-check_tables-in-Some-clause-kept
returns-in_err-check_tables-in-Some-clause-kept g c clean =
    let old = state g.S.Store c.args.conn.now in
    let mid = state g.S.Store c.version.new.conn in
    let new = state g.S.Store c.check_tables.new.conn in
    let told = told_some old mid _ c.in-Some.found c.in-Some.is
    (c.in_ok-found.ensures.tells (omega (arith, c.check_tables.ensures.crash.clean, clean))) in
    in_error _ (kept_since old mid new (same_if_version old mid c.in-Some.found told.1) (c.check_tables.ensures.kept clean))

pub returns-in_ok-renew-in-Some-clause-migrated : goal.returns-in_ok-renew-in-Some-clause-migrated
returns-in_ok-renew-in-Some-clause-migrated g c clean =
    let old = state g.S.Store c.args.conn.now in
    let mid = state g.S.Store c.version.new.conn in
    let new = state g.S.Store c.renew.new.conn in
    let told = told_some old mid _ c.in-Some.found c.in-Some.is
    (c.in_ok-found.ensures.tells (omega (arith, c.renew.ensures.crash.clean, clean))) in
    first_migrated old mid new c.in-Some.found told c.if-found-eq-SCHEMA_VERSION.false
    (c.in_ok-renew-in-Some.ensures.renewed clean)

pub returns-in_err-renew-in-Some-clause-unmigrated : goal.returns-in_err-renew-in-Some-clause-unmigrated
returns-in_err-renew-in-Some-clause-unmigrated g c clean =
    let old = state g.S.Store c.args.conn.now in
    let mid = state g.S.Store c.version.new.conn in
    let new = state g.S.Store c.renew.new.conn in
    let told = told_some old mid _ c.in-Some.found c.in-Some.is
    (c.in_ok-found.ensures.tells (omega (arith, c.renew.ensures.crash.clean, clean))) in
    let p = err_from_is_err_and c.from_residual-in_err-renew-in-Some.result c.from_residual-in_err-renew-in-Some.ensures.1 in
    rw (p.1, p.2) (first_unmigrated old mid new c.in-Some.found told c.if-found-eq-SCHEMA_VERSION.false
    c.version.ensures.crash.counts c.version.ensures.crash.limit c.in_err-renew-in-Some.field-0.0
    (c.in_err-renew-in-Some.ensures.unrenewed clean))

pub returns-in_err-renew-in-Some-clause-kept : goal.returns-in_err-renew-in-Some-clause-kept
returns-in_err-renew-in-Some-clause-kept g c clean =
    let old = state g.S.Store c.args.conn.now in
    let mid = state g.S.Store c.version.new.conn in
    let new = state g.S.Store c.renew.new.conn in
    let told = told_some old mid _ c.in-Some.found c.in-Some.is
    (c.in_ok-found.ensures.tells (omega (arith, c.renew.ensures.crash.clean, clean))) in
    in_error _ (kept_since old mid new (same_if_version old mid c.in-Some.found told.1) (c.in_err-renew-in-Some.ensures.kept clean))

pub returns-in_ok-renew-in-Some-clause-crash : goal.returns-in_ok-renew-in-Some-clause-crash
returns-in_ok-renew-in-Some-clause-crash g c =
    let old = state g.S.Store c.args.conn.now in
    let mid = state g.S.Store c.version.new.conn in
    let new = state g.S.Store c.renew.new.conn in
    survives_then old mid new (λ _. ⊥) (MayRenew mid) (MayRenew old) (λ _ db none. absurd none)
    (λ clean db h. renews_since old mid c.in-Some.found (told_some old mid _ c.in-Some.found
    c.in-Some.is (c.in_ok-found.ensures.tells (omega (arith, c.renew.ensures.crash.clean, clean)))).1 db h)
    c.version.ensures.crash c.renew.ensures.crash

pub returns-in_err-renew-in-Some-clause-crash : goal.returns-in_err-renew-in-Some-clause-crash
returns-in_err-renew-in-Some-clause-crash g c =
    let old = state g.S.Store c.args.conn.now in
    let mid = state g.S.Store c.version.new.conn in
    let new = state g.S.Store c.renew.new.conn in
    survives_then old mid new (λ _. ⊥) (MayRenew mid) (MayRenew old) (λ _ db none. absurd none)
    (λ clean db h. renews_since old mid c.in-Some.found (told_some old mid _ c.in-Some.found
    c.in-Some.is (c.in_ok-found.ensures.tells (omega (arith, c.renew.ensures.crash.clean, clean)))).1 db h)
    c.version.ensures.crash c.renew.ensures.crash

pub returns-in_err-found-clause-unmigrated : goal.returns-in_err-found-clause-unmigrated
returns-in_err-found-clause-unmigrated g c clean =
    let p = err_from_is_err_and c.from_residual.result c.from_residual.ensures.1 in
    rw (p.1, p.2) (untold (state g.S.Store c.args.conn.now) (state g.S.Store c.version.new.conn) c.in_err-found.field-0.0
    (c.in_err-found.ensures.tells clean))
