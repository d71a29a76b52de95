use Rattle.std.proofs.Common.{◌≡◌, ◌∙◌, None, Some, ap}
use Rattle.std.proofs.Math.Logic.{∥∥₁_elim}
use Rattle.std.proofs.lemmas.Result.{err_from_is_err_and}
use Rattle.sqlite.specs.Held.{state}
use Rattle.sqlite.specs.State.{HasCleanDisk}
use Rattle.planner_machine.specs.Content.{Content, nothing_known}
use Rattle.plan_store.specs.Contents.{content_of}
use Rattle.plan_tables.specs.Gone.{of_arrivals}
use Rattle.plan_tables.specs.Kept.{CanRead, kept_in}
use Rattle.plan_tables.specs.Session.{doubt_after, failures_after}
use Rattle.plan_tables.proofs.GoneLemmas.{found_noted, noted_on}
use Rattle.plan_tables.proofs.LookLemmas.{looks_still}
use Rattle.plan_tables.proofs.SessionLemmas.{asked, asks_blamed, keeps_asked, keeps_unchecked, kept_checked, looks_checked, looks_then, looks_unchecked, reads_err, reads_ok, reads_unchecked, told_asked, told_checked}
use Rattle.plan_tables.proofs.SetLemmas.{deletions_set}
use Rattle.plan_tables.proofs.SoundLemmas.{sound_on}
use Rattle.plan_tables.proofs.StoredLemmas.{keeps_still}
use Rattle.plan_tables.proofs.table_store.TableStore.find_gone.Goals as goal

pub invariant_of-self : goal.invariant_of-self
invariant_of-self g c =
    let old = c.args.self.now in
    let lists = content_of old.lists in
    record {
      jobless = old.jobless;
      stored = keeps_unchecked old.session c.check.new.self lists old.stored c.in_err-check.field-0.0 c.in_err-check.ensures;
      told = told_checked old.session c.check.new.self lists old.stored c.check.ensures old.told;
      noted = noted_on (state g.S.Store old.session.conn) (state g.S.Store c.check.new.self.conn) lists lists old.gone
          (looks_unchecked old.session c.check.new.self lists old.stored c.in_err-check.field-0.0 c.in_err-check.ensures) old.noted;
      sound = sound_on (state g.S.Store old.session.conn) (state g.S.Store c.check.new.self.conn) lists lists
          (looks_unchecked old.session c.check.new.self lists old.stored c.in_err-check.field-0.0 c.in_err-check.ensures) old.sound;
    }

-- the connection is in no transaction where the session is blamed
pub invariant_of-self-2 : goal.invariant_of-self-2
invariant_of-self-2 g c = ((c.deletions_kept.ensures.asks nothing_known).mode c.check.new.self.settled, tt)

pub invariant_of-self-in-Ok-1 : goal.invariant_of-self-in-Ok-1
invariant_of-self-in-Ok-1 g c =
    let old = c.args.self.now in
    let mid = c.check.new.self in
    let lists = content_of old.lists in
    let checks = c.in_ok-check.ensures in
    let kept = kept_checked old.session mid lists old.stored checks in
    let asks = c.in-Ok.ensures.asks lists in
    record {
      jobless = old.jobless;
      stored = keeps_asked g.S.Store mid.conn c.deletions_kept.new.conn lists None asks kept mid.failures mid.in_doubt lists
          checks.whole.1 checks.whole.2 (λ clean. keeps_still (state g.S.Store mid.conn)
          (state g.S.Store c.deletions_kept.new.conn) lists);
      told = told_asked g.S.Store mid.conn c.deletions_kept.new.conn lists None asks kept
          (told_checked old.session mid lists old.stored checks old.told);
      noted = noted_on (state g.S.Store old.session.conn) (state g.S.Store c.deletions_kept.new.conn) lists lists old.gone
          (looks_then (state g.S.Store old.session.conn) (state g.S.Store mid.conn) (state g.S.Store c.deletions_kept.new.conn) lists lists
          lists (looks_checked old.session mid lists old.stored checks checks.whole.0)
          (looks_still (state g.S.Store mid.conn) (state g.S.Store c.deletions_kept.new.conn) asks.survives lists kept asks.stays))
          old.noted;
      sound = sound_on (state g.S.Store old.session.conn) (state g.S.Store c.deletions_kept.new.conn) lists lists
          (looks_then (state g.S.Store old.session.conn) (state g.S.Store mid.conn) (state g.S.Store c.deletions_kept.new.conn) lists lists
          lists (looks_checked old.session mid lists old.stored checks checks.whole.0)
          (looks_still (state g.S.Store mid.conn) (state g.S.Store c.deletions_kept.new.conn) asks.survives lists kept asks.stays))
          old.sound;
    }

pub invariant_of-self-in-Err : goal.invariant_of-self-in-Err
invariant_of-self-in-Err g c =
    let old = c.args.self.now in
    let mid = c.check.new.self in
    let now = c.blame.new.self in
    let lists = content_of old.lists in
    let checks = c.in_ok-check.ensures in
    let kept = kept_checked old.session mid lists old.stored checks in
    let asks = asks_blamed lists c.blame.ensures (c.in-Err.ensures.asks lists) in
    record {
      jobless = old.jobless;
      stored = keeps_asked g.S.Store mid.conn now.conn lists (Some c.in-Err.why) asks kept now.failures now.in_doubt lists
          (c.blame.ensures.failures ∙ ap (failures_after (Some c.in-Err.why)) checks.whole.1)
          (c.blame.ensures.in_doubt ∙ ap (doubt_after (Some c.in-Err.why)) checks.whole.2)
          (λ clean. keeps_still (state g.S.Store mid.conn) (state g.S.Store now.conn) lists);
      told = told_asked g.S.Store mid.conn now.conn lists (Some c.in-Err.why) asks kept
          (told_checked old.session mid lists old.stored checks old.told);
      noted = noted_on (state g.S.Store old.session.conn) (state g.S.Store now.conn) lists lists old.gone
          (looks_then (state g.S.Store old.session.conn) (state g.S.Store mid.conn) (state g.S.Store now.conn) lists lists
          lists (looks_checked old.session mid lists old.stored checks checks.whole.0)
          (looks_still (state g.S.Store mid.conn) (state g.S.Store now.conn) asks.survives lists kept asks.stays))
          old.noted;
      sound = sound_on (state g.S.Store old.session.conn) (state g.S.Store now.conn) lists lists
          (looks_then (state g.S.Store old.session.conn) (state g.S.Store mid.conn) (state g.S.Store now.conn) lists lists
          lists (looks_checked old.session mid lists old.stored checks checks.whole.0)
          (looks_still (state g.S.Store mid.conn) (state g.S.Store now.conn) asks.survives lists kept asks.stays))
          old.sound;
    }

pub returns-in_err-check-clause-reads : goal.returns-in_err-check-clause-reads
returns-in_err-check-clause-reads g c =
    let old = c.args.self.now in
    let fault = c.in_err-check.field-0.0 in
    let p = err_from_is_err_and c.from_residual.result c.from_residual.ensures.1 in
    rw (p.1, p.2) (reads_unchecked old _ fault c.in_err-check.ensures _
    (looks_unchecked old.session c.check.new.self (content_of old.lists) old.stored fault c.in_err-check.ensures))

pub returns-in-Ok-clause-reads : goal.returns-in-Ok-clause-reads
returns-in-Ok-clause-reads g c =
    let old = c.args.self.now in
    let mid = c.check.new.self in
    let lists = content_of old.lists in
    let checks = c.in_ok-check.ensures in
    let kept = kept_checked old.session mid lists old.stored checks in
    let asks = c.in-Ok.ensures.asks lists in
    let s0 = state g.S.Store old.session.conn in
    let s1 = state g.S.Store mid.conn in
    let s2 = state g.S.Store c.deletions_kept.new.conn in
    let looks = looks_still s1 s2 asks.survives lists kept asks.stays in
    let met = looks_checked old.session mid lists old.stored checks checks.whole.0 in
    let did = looks_then s0 s1 s2 lists lists lists met looks in
    reads_ok old _ _ c.in-Ok.found (asked old _ mid lists None checks asks kept checks.whole.1 checks.whole.2 looks)
    (λ can.
    let calm : HasCleanDisk s1 = looks.clean can.0 in
    let same : kept_in s1 lists ≡ kept_in s0 lists = met.same (calm, looks.opens can.0 can.1) in
    let before : CanRead s0 = (did.clean can.0, did.opens can.0 can.1) in
    found_noted old.gone (kept_in s0 lists).sets.deletions (CanRead s0) c.args.app.now c.noted_of-arrivals.result.now
    c.in-Ok.found.items c.noted_of-arrivals.ensures.keyed c.noted_of-arrivals.ensures.all old.noted before
    (∥∥₁_elim kept (deletions_set _ _) (λ h. c.in-Ok.ensures.found can.0 lists (h calm))
    ∙ ap (λ (k : Content). of_arrivals k.sets.deletions c.noted_of-arrivals.result.now) same))

pub returns-in-Err-clause-reads : goal.returns-in-Err-clause-reads
returns-in-Err-clause-reads g c =
    let old = c.args.self.now in
    let mid = c.check.new.self in
    let lists = content_of old.lists in
    let checks = c.in_ok-check.ensures in
    let kept = kept_checked old.session mid lists old.stored checks in
    let asks = asks_blamed lists c.blame.ensures (c.in-Err.ensures.asks lists) in
    reads_err old _ _ c.blame.result c.in-Err.why c.blame.ensures.fault
    (asked old _ mid lists (Some c.in-Err.why) checks asks kept
    (c.blame.ensures.failures ∙ ap (failures_after (Some c.in-Err.why)) checks.whole.1)
    (c.blame.ensures.in_doubt ∙ ap (doubt_after (Some c.in-Err.why)) checks.whole.2)
    (looks_still (state g.S.Store mid.conn) (state g.S.Store c.blame.new.self.conn) asks.survives lists kept asks.stays))
