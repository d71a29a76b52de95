use Rattle.std.proofs.Common.{◌∙◌, arith, subst, sym}
use Rattle.std.specs.List.{All}
use Rattle.sqlite.specs.Effect.{Database}
use Rattle.std.proofs.lemmas.Result.{err_from_is_err_and}
use Rattle.sqlite.specs.Held.{state}
use Rattle.sqlite.specs.State.{HasCleanDisk}
use Rattle.sqlite.proofs.StateLemmas.{survives_then}
use Rattle.plan_migrations_remaking.specs.Remaking.{AreAllFirst, AreWhole, CanRemakeOf, RemakesTo}
use Rattle.plan_migrations.specs.Migrating.{AreShown, HaveSound, MayRenew}
use Rattle.plan_migrations.proofs.ReadLemmas.{are_read, can_remake_of, failed_hold, kept_by, renewed_by, renews}
use Rattle.plan_migrations.proofs.ReadLemmas.{unrenewed_by}
use Rattle.plan_migrations.proofs.renewing.renew_first.Goals as goal

pub check_content-requires-clause-whole : goal.check_content-requires-clause-whole
check_content-requires-clause-whole g c = subst AreWhole (sym c.deref.ensures.value) c.in_ok-reads.ensures.whole

pub check_content-requires-clause-typed : goal.check_content-requires-clause-typed
check_content-requires-clause-typed g c = subst AreAllFirst (sym c.deref.ensures.value) c.in_ok-reads.ensures.typed

pub remake-requires-clause-whole : goal.remake-requires-clause-whole
remake-requires-clause-whole g c = subst AreWhole (sym c.deref-2.ensures.value) c.in_ok-reads.ensures.whole

pub remake-requires-clause-typed : goal.remake-requires-clause-typed
remake-requires-clause-typed g c = subst AreAllFirst (sym c.deref-2.ensures.value) c.in_ok-reads.ensures.typed

pub returns : goal.returns
returns g c =
    let old = state g.S.Store c.args.conn.now in
    let mid = state g.S.Store c.read_first.new.conn in
    let new = state g.S.Store c.remake.new.conn in
    let reads = c.deref-2.result.now in
    let own = sym c.deref-2.ensures.value in
    let whole : AreWhole reads = subst AreWhole own c.in_ok-reads.ensures.whole in
    let typed : AreAllFirst reads = subst AreAllFirst own c.in_ok-reads.ensures.typed in
    let sound : HaveSound reads = subst HaveSound (c.deref.ensures.value ∙ own) c.in_ok-check_content.ensures.sound in
    let live = c.schema.ensures.live in
    let calm : HasCleanDisk new → HasCleanDisk mid = λ clean. omega (arith, c.remake.ensures.crash.clean, clean) in
    let first = λ (clean : HasCleanDisk new). c.requires.told (omega (arith, c.read_first.ensures.crash.clean, calm clean)) in
    let told : HasCleanDisk new → All (AreShown old mid) reads = λ clean.
    subst (All (AreShown old mid)) own (c.in_ok-reads.ensures.shown (calm clean)) in
    let still : HasCleanDisk new → CanRemakeOf reads mid.now = λ clean.
    can_remake_of old mid reads (c.in_ok-reads.ensures.same (calm clean)) live c.requires.first (told clean)
    (c.in_ok-reads.ensures.rowids (calm clean)) in
    record {
      renewed = λ clean. renewed_by old mid new reads (c.in_ok-reads.ensures.same (calm clean)) live whole c.remake.result
          (told clean) (first clean) sound (c.remake.ensures.remade clean (still clean));
      unrenewed = λ clean. unrenewed_by old mid new reads (c.in_ok-reads.ensures.same (calm clean))
          c.read_first.ensures.crash.counts c.read_first.ensures.crash.limit
          (are_read old mid reads live whole (told clean) c.requires.first typed) sound c.remake.result
          (c.remake.ensures.failed clean (still clean));
      kept = λ clean. kept_by old mid new (c.in_ok-reads.ensures.same (calm clean)) c.remake.result
          (c.remake.ensures.kept clean (still clean));
      mode = c.remake.ensures.mode;
      crash = survives_then old mid new (λ _. ⊥) (λ db. CanRemakeOf reads mid.now → RemakesTo reads mid.now db)
          (MayRenew old) (λ _ db none. absurd none)
          (λ clean db h. renews old mid reads live whole (told clean) db
          (subst (λ (d : Database). RemakesTo reads d db) (c.in_ok-reads.ensures.same (calm clean)).0.now_is (h (still clean)))
          (first clean) sound) c.read_first.ensures.crash c.remake.ensures.crash;
    }

pub returns-in_err-check_content-clause-unrenewed : goal.returns-in_err-check_content-clause-unrenewed
returns-in_err-check_content-clause-unrenewed g c clean =
    let old = state g.S.Store c.args.conn.now in
    let mid = state g.S.Store c.read_first.new.conn in
    let reads = c.deref.result.now in
    let own = sym c.deref.ensures.value in
    let whole : AreWhole reads = subst AreWhole own c.in_ok-reads.ensures.whole in
    let typed : AreAllFirst reads = subst AreAllFirst own c.in_ok-reads.ensures.typed in
    let told : All (AreShown old mid) reads = subst (All (AreShown old mid)) own (c.in_ok-reads.ensures.shown clean) in
    let p = err_from_is_err_and c.from_residual-in_err-check_content.result c.from_residual-in_err-check_content.ensures.1 in
    rw (p.1, p.2) (failed_hold old mid reads (c.in_ok-reads.ensures.same clean) c.schema.ensures.live
    (are_read old mid reads c.schema.ensures.live whole told c.requires.first typed) told c.in_err-check_content.field-0.0
    c.in_err-check_content.ensures.refused)

pub returns-in_err-reads-clause-unrenewed : goal.returns-in_err-reads-clause-unrenewed
returns-in_err-reads-clause-unrenewed g c clean =
    let p = err_from_is_err_and c.from_residual.result c.from_residual.ensures.1 in
    rw (p.1, p.2) (c.in_err-reads.ensures.unread clean)
