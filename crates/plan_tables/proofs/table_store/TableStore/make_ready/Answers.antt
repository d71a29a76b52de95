use Rattle.std.proofs.Common.{◌≡◌, ◌∙◌, Err, None, Some, ap, subst, sym}
use Rattle.std.proofs.Math.Logic.{∥∥₁_map}
use Rattle.std.proofs.lemmas.Result.{err_from_is_err_and}
use Rattle.sqlite.specs.Effect.{Database}
use Rattle.sqlite.specs.Held.{Held, state}
use Rattle.sqlite.specs.State.{HasCleanDisk}
use Rattle.plan_store.specs.Contents.{content_of}
use Rattle.plan_store.specs.Parts.{Rest, rest_of}
use Rattle.plan_tables.specs.Session.{doubt_after, failures_after}
use Rattle.plan_tables.specs.Sought.{IsFoundFor, Seeks}
use Rattle.plan_tables.proofs.CauseLemmas.{counts_on, counts_then}
use Rattle.plan_tables.proofs.CutLemmas.{held_cut, looks_cut}
use Rattle.plan_tables.proofs.GoneLemmas.{noted_on}
use Rattle.plan_tables.proofs.LookLemmas.{looks_more}
use Rattle.plan_tables.proofs.SessionLemmas.{asked, keeps_asked, keeps_unchecked, kept_checked, looks_checked, looks_then, looks_unchecked, opens_asked}
use Rattle.plan_tables.proofs.SessionLemmas.{reads_err, reads_ok, reads_unchecked, seen_asked, seen_unchecked, told_asked, told_checked}
use Rattle.plan_tables.proofs.SoundLemmas.{sound_on}
use Rattle.plan_tables.proofs.StoredLemmas.{keeps_more}
use Rattle.plan_tables.proofs.table_store.TableStore.make_ready.Goals as goal

pub invariant_of-self : goal.invariant_of-self
invariant_of-self g c =
    let old = c.args.self.now in
    let lists = content_of old.lists in
    record {
      jobless = old.jobless;
      stored = keeps_unchecked old.session c.check.new.self lists old.stored c.in_err-check.field-0.0 c.in_err-check.ensures;
      told = told_checked old.session c.check.new.self lists old.stored c.check.ensures old.told;
      noted = noted_on (state g.S.Store old.session.conn) (state g.S.Store c.check.new.self.conn) lists lists old.gone
          (looks_unchecked old.session c.check.new.self lists old.stored c.in_err-check.field-0.0 c.in_err-check.ensures) old.noted;
      sound = sound_on (state g.S.Store old.session.conn) (state g.S.Store c.check.new.self.conn) lists lists
          (looks_unchecked old.session c.check.new.self lists old.stored c.in_err-check.field-0.0 c.in_err-check.ensures) old.sound;
    }

pub invariant_of-self-in-Ok : goal.invariant_of-self-in-Ok
invariant_of-self-in-Ok g c =
    let old = c.args.self.now in
    let mid = c.check.new.self in
    let first = content_of old.lists in
    let was = content_of c.cut_lists.new.lists in
    let now = content_of c.seek.new.lists in
    let checks = c.in_ok-check.ensures in
    let s1 = state g.S.Store mid.conn in
    let did = c.in-Ok.ensures in
    let kept = held_cut s1 first was c.cut_lists.ensures.same c.cut_lists.ensures.part
    (kept_checked old.session mid first old.stored checks) in
    record {
      jobless = did.grows.jobs ∙ c.cut_lists.ensures.jobs old.jobless;
      stored = keeps_asked g.S.Store mid.conn c.seek.new.conn was None did.asks kept mid.failures mid.in_doubt now
          checks.whole.1 checks.whole.2 (λ clean h opens db committed.
          let s2 = state g.S.Store c.seek.new.conn in
          keeps_more s1 s2 was now h opens db committed did.grows (did.part clean h));
      told = told_asked g.S.Store mid.conn c.seek.new.conn was None did.asks kept
          (told_checked old.session mid first old.stored checks old.told);
      noted = noted_on (state g.S.Store old.session.conn) (state g.S.Store c.seek.new.conn) first now old.gone
          (looks_then (state g.S.Store old.session.conn) s1 (state g.S.Store c.seek.new.conn) first first now
          (looks_checked old.session mid first old.stored checks checks.whole.0)
          (looks_cut s1 first was c.cut_lists.ensures.same (state g.S.Store c.seek.new.conn) now
          (looks_more s1 (state g.S.Store c.seek.new.conn) did.asks.survives was kept now did.asks.stays did.grows))) old.noted;
      sound = sound_on (state g.S.Store old.session.conn) (state g.S.Store c.seek.new.conn) first now
          (looks_then (state g.S.Store old.session.conn) s1 (state g.S.Store c.seek.new.conn) first first now
          (looks_checked old.session mid first old.stored checks checks.whole.0)
          (looks_cut s1 first was c.cut_lists.ensures.same (state g.S.Store c.seek.new.conn) now
          (looks_more s1 (state g.S.Store c.seek.new.conn) did.asks.survives was kept now did.asks.stays did.grows))) old.sound;
    }

pub invariant_of-self-in-Err : goal.invariant_of-self-in-Err
invariant_of-self-in-Err g c =
    let old = c.args.self.now in
    let mid = c.check.new.self in
    let last = c.blame.new.self in
    let why = c.in-Err.why in
    let first = content_of old.lists in
    let was = content_of c.cut_lists.new.lists in
    let now = content_of c.seek.new.lists in
    let checks = c.in_ok-check.ensures in
    let s1 = state g.S.Store mid.conn in
    let did = subst (λ (h : Held _). Seeks g.S.Store mid.conn h was now (Err why) (IsFoundFor c.args.sought))
    (sym c.blame.ensures.conn) c.in-Err.ensures in
    let kept = held_cut s1 first was c.cut_lists.ensures.same c.cut_lists.ensures.part
    (kept_checked old.session mid first old.stored checks) in
    record {
      jobless = did.grows.jobs ∙ c.cut_lists.ensures.jobs old.jobless;
      stored = keeps_asked g.S.Store mid.conn last.conn was (Some why) did.asks kept last.failures last.in_doubt
          now (c.blame.ensures.failures ∙ ap (failures_after (Some why)) checks.whole.1)
          (c.blame.ensures.in_doubt ∙ ap (doubt_after (Some why)) checks.whole.2)
          (λ clean h opens db committed.
          let s2 = state g.S.Store last.conn in
          keeps_more s1 s2 was now h opens db committed did.grows (did.part clean h));
      told = told_asked g.S.Store mid.conn last.conn was (Some why) did.asks kept
          (told_checked old.session mid first old.stored checks old.told);
      noted = noted_on (state g.S.Store old.session.conn) (state g.S.Store last.conn) first now old.gone
          (looks_then (state g.S.Store old.session.conn) s1 (state g.S.Store last.conn) first first now
          (looks_checked old.session mid first old.stored checks checks.whole.0)
          (looks_cut s1 first was c.cut_lists.ensures.same (state g.S.Store last.conn) now
          (looks_more s1 (state g.S.Store last.conn) did.asks.survives was kept now did.asks.stays did.grows))) old.noted;
      sound = sound_on (state g.S.Store old.session.conn) (state g.S.Store last.conn) first now
          (looks_then (state g.S.Store old.session.conn) s1 (state g.S.Store last.conn) first first now
          (looks_checked old.session mid first old.stored checks checks.whole.0)
          (looks_cut s1 first was c.cut_lists.ensures.same (state g.S.Store last.conn) now
          (looks_more s1 (state g.S.Store last.conn) did.asks.survives was kept now did.asks.stays did.grows))) old.sound;
    }

pub returns-in_err-check : goal.returns-in_err-check
returns-in_err-check g c =
    let old = c.args.self.now in
    let lists = content_of old.lists in
    let fault = c.in_err-check.field-0.0 in
    let checks = c.in_err-check.ensures in
    let p = err_from_is_err_and c.from_residual.result c.from_residual.ensures.1 in
    rw (p.1, p.2) (record {
      reads = reads_unchecked old _ fault checks _
          (looks_unchecked old.session c.check.new.self lists old.stored fault checks);
      whole = tt;
      same = λ clean. tt;
      schema = λ memory clean opens. ∥∥₁_map (seen_unchecked old.session c.check.new.self lists old.stored fault checks
          memory clean opens) (ap (λ (db : Database). db.schema));
      counted = counts_on (state g.S.Store old.session.conn) (state g.S.Store c.check.new.self.conn) checks.survives;
    })

pub returns-in-Ok : goal.returns-in-Ok
returns-in-Ok g c =
    let old = c.args.self.now in
    let mid = c.check.new.self in
    let first = content_of old.lists in
    let was = content_of c.cut_lists.new.lists in
    let now = content_of c.seek.new.lists in
    let checks = c.in_ok-check.ensures in
    let s0 = state g.S.Store old.session.conn in
    let s1 = state g.S.Store mid.conn in
    let s2 = state g.S.Store c.seek.new.conn in
    let did = c.in-Ok.ensures in
    let kept = held_cut s1 first was c.cut_lists.ensures.same c.cut_lists.ensures.part
    (kept_checked old.session mid first old.stored checks) in
    let looks = looks_cut s1 first was c.cut_lists.ensures.same s2 now
    (looks_more s1 s2 did.asks.survives was kept now did.asks.stays did.grows) in
    let seen : HasCleanDisk s2 → ∥ s2.now ≡ s0.now ∥₁ = λ clean. ∥∥₁_map
    (seen_asked g.S.Store mid.conn c.seek.new.conn was None did.asks kept clean
    (opens_asked g.S.Store mid.conn c.seek.new.conn was None did.asks kept clean tt))
    (λ same. same ∙ (checks.fine (looks.clean clean)).now) in
    record {
      reads = reads_ok old _ _ tt (asked old _ mid was None checks did.asks kept checks.whole.1 checks.whole.2 looks)
          (λ can. subst (λ (rest : Rest). IsFoundFor c.args.sought rest now) (sym (ap rest_of (looks.same can)))
          (did.found can.0 (∥∥₁_map kept (λ h. h (looks.clean can.0)))));
      whole = (checks.whole.1, checks.whole.2);
      same = seen;
      schema = λ clean. ∥∥₁_map (seen clean) (ap (λ (db : Database). db.schema));
      counted = counts_then s0 s1 s2 (counts_on s0 s1 checks.survives) (counts_on s1 s2 did.asks.survives);
    }

pub returns-in-Err : goal.returns-in-Err
returns-in-Err g c =
    let old = c.args.self.now in
    let mid = c.check.new.self in
    let last = c.blame.new.self in
    let why = c.in-Err.why in
    let first = content_of old.lists in
    let was = content_of c.cut_lists.new.lists in
    let now = content_of c.seek.new.lists in
    let checks = c.in_ok-check.ensures in
    let s0 = state g.S.Store old.session.conn in
    let s1 = state g.S.Store mid.conn in
    let s2 = state g.S.Store last.conn in
    let did = subst (λ (h : Held _). Seeks g.S.Store mid.conn h was now (Err why) (IsFoundFor c.args.sought))
    (sym c.blame.ensures.conn) c.in-Err.ensures in
    let kept = held_cut s1 first was c.cut_lists.ensures.same c.cut_lists.ensures.part
    (kept_checked old.session mid first old.stored checks) in
    let looks = looks_cut s1 first was c.cut_lists.ensures.same s2 now
    (looks_more s1 s2 did.asks.survives was kept now did.asks.stays did.grows) in
    record {
      reads = reads_err old _ _ c.blame.result why c.blame.ensures.fault (asked old _ mid was (Some why) checks
          did.asks kept (c.blame.ensures.failures ∙ ap (failures_after (Some why)) checks.whole.1)
          (c.blame.ensures.in_doubt ∙ ap (doubt_after (Some why)) checks.whole.2) looks);
      whole = tt;
      same = λ clean. tt;
      schema = λ memory clean opens. ∥∥₁_map
          (seen_asked g.S.Store mid.conn last.conn was (Some why) did.asks kept clean opens)
          (λ same. ap (λ (db : Database). db.schema) (same ∙ (checks.fine (looks.clean clean)).now));
      counted = counts_then s0 s1 s2 (counts_on s0 s1 checks.survives) (counts_on s1 s2 did.asks.survives);
    }
