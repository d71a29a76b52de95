use Rattle.std.proofs.Common.{◌∙◌, ap, arith, inl, inr, sym}
use Rattle.sqlite.specs.Held.{state}
use Rattle.sqlite.specs.State.{HasCleanDisk}
use Rattle.sqlite.proofs.StateLemmas.{survives_then, survives_weaker}
use Rattle.plan_store.specs.Contents.{content_of}
use Rattle.plan_store_lists.specs.Blocks.{items_of}
use Rattle.plan_store.specs.Parts.{with_rest}
use Rattle.plan_store.specs.Staged.{jobless}
use Rattle.plan_tables_schema.specs.Rows.{tables_of}
use Rattle.plan_tables.proofs.CauseLemmas.{failed_so, taken_rest}
use Rattle.plan_tables.proofs.StoredLemmas.{tables_after, tells_after}
use Rattle.plan_tables.proofs.keeping.change_both.Goals as goal

pub finish-requires : goal.finish-requires
finish-requires g c = c.forget_job.ensures.ready c.stage.new.self c.in-Ok.ensures.ready

pub cancel-requires : goal.cancel-requires
cancel-requires g c = c.in-Ok.ensures.ready

-- the lists are finished without the job
pub returns-in-Ok-commit_change-clause-lists : goal.returns-in-Ok-commit_change-clause-lists
returns-in-Ok-commit_change-clause-lists g c =
    let before = content_of c.args.lists.now in
    c.finish.ensures (jobless c.args.change) before
    (c.forget_job.ensures.staged c.args.change before (content_of c.stage.new.self) c.in-Ok.ensures.staged)

pub returns-in-Err-commit_change-clause-same : goal.returns-in-Err-commit_change-clause-same
returns-in-Err-commit_change-clause-same g c =
    c.cancel.ensures c.args.change (content_of c.args.lists.now) c.in-Ok.ensures.staged

pub returns-in-Ok-commit_change-clause-done : goal.returns-in-Ok-commit_change-clause-done
returns-in-Ok-commit_change-clause-done g c clean rest met =
    let told = c.in-Ok-commit_change.ensures in
    let d = told.done clean met.stored.plan in
    record {
      is_open = told.stays_open clean;
      plan = d.0;
      settled = sym (told.committed clean);
      content = tables_after (with_rest rest (content_of c.args.lists.now)) c.args.change c.args.moves.now met.fits
          met.told c.requires.told c.in-Ok.staged.rest c.in-Ok.ensures.staged.rest
          (state g.S.Store c.args.conn.now) (state g.S.Store c.commit_change.new.conn).now.trees
          (with_rest rest (content_of c.stage.new.self)) (items_of c.in-Ok.staged.pairs)
          (ap (with_rest rest) c.in-Ok.ensures.staged.halves) c.in-Ok.ensures.staged.pairs met.stored d.1;
    }

pub returns-in-Ok-commit_change-clause-crash : goal.returns-in-Ok-commit_change-clause-crash
returns-in-Ok-commit_change-clause-crash g c =
    survives_weaker (state g.S.Store c.args.conn.now) (state g.S.Store c.commit_change.new.conn) _ _
    (λ clean db h rest met. tells_after (with_rest rest (content_of c.args.lists.now)) c.args.change c.args.moves.now
    met.fits met.told c.requires.told c.in-Ok.staged.rest c.in-Ok.ensures.staged.rest
    (state g.S.Store c.args.conn.now) db (with_rest rest (content_of c.stage.new.self)) (items_of c.in-Ok.staged.pairs)
    (ap (with_rest rest) c.in-Ok.ensures.staged.halves) c.in-Ok.ensures.staged.pairs met.stored
    (h met.stored.plan))
    c.commit_change.ensures.crash

pub returns-in-Err-commit_change-clause-crash : goal.returns-in-Err-commit_change-clause-crash
returns-in-Err-commit_change-clause-crash g c =
    survives_then (state g.S.Store c.args.conn.now) (state g.S.Store c.commit_change.new.conn)
    (state g.S.Store c.cause_of.new.conn) _ (λ _. ⊥) _
    (λ clean db h rest met. tells_after (with_rest rest (content_of c.args.lists.now)) c.args.change c.args.moves.now
    met.fits met.told c.requires.told c.in-Ok.staged.rest c.in-Ok.ensures.staged.rest
    (state g.S.Store c.args.conn.now) db (with_rest rest (content_of c.stage.new.self)) (items_of c.in-Ok.staged.pairs)
    (ap (with_rest rest) c.in-Ok.ensures.staged.halves) c.in-Ok.ensures.staged.pairs met.stored
    (h met.stored.plan))
    (λ _ _ none. absurd none)
    c.commit_change.ensures.crash c.cause_of.ensures.survives

pub returns-in-Err-commit_change-clause-blames : goal.returns-in-Err-commit_change-clause-blames
returns-in-Err-commit_change-clause-blames g c clean rest met can is =
    let old = state g.S.Store c.args.conn.now in
    let mid = state g.S.Store c.commit_change.new.conn in
    let new = state g.S.Store c.cause_of.new.conn in
    let calm : HasCleanDisk mid = omega (arith, c.cause_of.ensures.survives.clean, clean) in
    let taken = taken_rest (with_rest rest (content_of c.args.lists.now)) c.args.change c.args.moves.now
    c.in-Ok.staged.rest c.in-Ok.ensures.staged.rest (with_rest rest (content_of c.stage.new.self)) (items_of c.in-Ok.staged.pairs)
    (ap (with_rest rest) c.in-Ok.ensures.staged.halves) c.in-Ok.ensures.staged.pairs
    (tables_of old.now.trees) (can.1 c.args.moves.now met.told) in
    failed_so old mid new _ _ _ met.stored.is_open calm c.commit_change.ensures.crash c.cause_of.ensures.survives
    (c.in-Err-commit_change.ensures.fails calm met.stored.plan can.0 taken) (c.cause_of.ensures.shut clean is)

-- what a commit that failed kept is kept where the cause is asked for
pub returns-in-Err-commit_change-clause-undone : goal.returns-in-Err-commit_change-clause-undone
returns-in-Err-commit_change-clause-undone g c clean rest met opens =
    let mid = state g.S.Store c.commit_change.new.conn in
    let calm : HasCleanDisk mid = omega (arith, c.cause_of.ensures.survives.clean, clean) in
    let put = c.cause_of.ensures.stays clean opens in
    let kept = c.in-Err-commit_change.ensures.kept calm met.stored.plan put.0 in (
      elim put.1 [ inl now ↦ now ∙ kept.0 | inr back ↦ back ∙ kept.1 ∙ sym met.stored.settled ],
      put.2 ∙ kept.1,
    )

pub returns-in-Err-commit_change-clause-memory : goal.returns-in-Err-commit_change-clause-memory
returns-in-Err-commit_change-clause-memory g c clean rest met is = (c.cause_of.ensures.open clean is).0.is_open

pub returns-in-Ok-commit_change-clause-schema : goal.returns-in-Ok-commit_change-clause-schema
returns-in-Ok-commit_change-clause-schema g c clean rest met =
    (c.in-Ok-commit_change.ensures.done clean met.stored.plan).2
