use Rattle.std.proofs.Common.{arith, subst, sym}
use Rattle.std.proofs.lemmas.List.Elements.{All-weaker}
use Rattle.sqlite.specs.Effect.{Database}
use Rattle.std.proofs.lemmas.Result.{err_from_is_err_and}
use Rattle.sqlite.specs.Held.{state}
use Rattle.sqlite.specs.State.{HasCleanDisk, IsUnchanged}
use Rattle.sqlite.proofs.Callers.{unchanged_then}
use Rattle.sqlite.proofs.StateLemmas.{survives_then}
use Rattle.plan_tables_schema.specs.Schema.{all_tables}
use Rattle.plan_migrations_remaking.specs.FirstSchema.{CanRemake}
use Rattle.plan_migrations.specs.Migrating.{AreShown}
use Rattle.plan_migrations.proofs.ReadLemmas.{are_read, failed_read, shown_again}
use Rattle.plan_migrations.proofs.RowidLemmas.{staying, unread}
use Rattle.plan_migrations.proofs.TurnLemmas.{kept_since}
use Rattle.plan_migrations.proofs.renewing.read_first.Goals as goal

pub check_rowids-requires-clause-open : goal.check_rowids-requires-clause-open
check_rowids-requires-clause-open g c clean = (c.in_ok-reads.ensures.same clean).0.is_open

pub returns : goal.returns
returns g c =
    let old = state g.S.Store c.args.conn.now in
    let mid = state g.S.Store c.read_tables.new.conn in
    let new = state g.S.Store c.check_rowids.new.conn in
    let calm : HasCleanDisk new → HasCleanDisk mid = λ clean. omega (arith, c.check_rowids.ensures.crash.clean, clean) in
    let first : HasCleanDisk new → IsUnchanged old mid = λ clean. c.in_ok-reads.ensures.same (calm clean) in
    let can : HasCleanDisk new → CanRemake mid.now.schema = λ clean.
    subst (λ (d : Database). CanRemake d.schema) (sym (first clean).0.now_is) c.requires.first in
    record {
      whole = c.in_ok-reads.ensures.whole;
      typed = c.in_ok-reads.ensures.typed;
      shown = λ clean. All-weaker (AreShown old mid) (AreShown old new)
          (shown_again old mid new (c.in_ok-check_rowids.ensures.same clean)) c.in_ok-reads.reads.items
          (c.in_ok-reads.ensures.shown (calm clean));
      rowids = λ clean. staying old mid (first clean) (c.in_ok-check_rowids.ensures.checked clean (can clean));
      same = λ clean. unchanged_then old mid new (first clean) (c.in_ok-check_rowids.ensures.same clean);
      unread = λ clean. tt;
      kept = λ clean. kept_since old mid new (first clean) (c.check_rowids.ensures.kept clean);
      mode = c.check_rowids.ensures.mode;
      crash = survives_then old mid new _ _ (λ _. ⊥) (λ _ _ none. none) (λ _ _ none. none) c.read_tables.ensures.crash
          c.check_rowids.ensures.crash;
    }

pub returns-in_err-check_rowids : goal.returns-in_err-check_rowids
returns-in_err-check_rowids g c =
    let old = state g.S.Store c.args.conn.now in
    let mid = state g.S.Store c.read_tables.new.conn in
    let new = state g.S.Store c.check_rowids.new.conn in
    let calm : HasCleanDisk new → HasCleanDisk mid = λ clean. omega (arith, c.check_rowids.ensures.crash.clean, clean) in
    let first : HasCleanDisk new → IsUnchanged old mid = λ clean. c.in_ok-reads.ensures.same (calm clean) in
    let can : HasCleanDisk new → CanRemake mid.now.schema = λ clean.
    subst (λ (d : Database). CanRemake d.schema) (sym (first clean).0.now_is) c.requires.first in
    let p = err_from_is_err_and c.from_residual-in_err-check_rowids.result c.from_residual-in_err-check_rowids.ensures.1 in
    rw (p.1, p.2) (record {
      whole = tt;
      typed = tt;
      shown = λ clean. tt;
      rowids = λ clean. tt;
      same = λ clean. tt;
      unread = λ clean. unread old mid new (first clean) c.read_tables.ensures.crash.counts c.read_tables.ensures.crash.limit
          c.in_ok-reads.reads.items (are_read old mid c.in_ok-reads.reads.items c.schema.ensures.live c.in_ok-reads.ensures.whole
          (c.in_ok-reads.ensures.shown (calm clean)) c.requires.first c.in_ok-reads.ensures.typed) all_tables
          c.in_err-check_rowids.field-0.0 (c.in_err-check_rowids.ensures.checked clean (can clean));
      kept = λ clean. kept_since old mid new (first clean) (c.check_rowids.ensures.kept clean);
      mode = c.check_rowids.ensures.mode;
      crash = survives_then old mid new _ _ (λ _. ⊥) (λ _ _ none. none) (λ _ _ none. none) c.read_tables.ensures.crash
          c.check_rowids.ensures.crash;
    })

pub returns-in_err-reads-clause-unread : goal.returns-in_err-reads-clause-unread
returns-in_err-reads-clause-unread g c clean =
    let p = err_from_is_err_and c.from_residual.result c.from_residual.ensures.1 in
    rw (p.1, p.2) (failed_read (state g.S.Store c.args.conn.now) (state g.S.Store c.read_tables.new.conn)
    c.in_err-reads.field-0.0 (c.in_err-reads.ensures.unread clean))
