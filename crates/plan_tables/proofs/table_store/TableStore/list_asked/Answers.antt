use Rattle.std.proofs.Common.{◌≡◌, ◌∙◌, None, Some, ap, arith, inl, inr, refl, subst, sym}
use Rattle.std.proofs.Math.Logic.{∥∥₁_map}
use Rattle.std.specs.Prelude.{option_copied}
use Rattle.sqlite.specs.Held.{Held, state}
use Rattle.sqlite.specs.State.{HasCleanDisk}
use Rattle.planner_machine.specs.Content.{Content}
use Rattle.planner_machine.specs.Sound.{AreNumbered}
use Rattle.plan_store.specs.Contents.{content_of}
use Rattle.plan_store.specs.Listings.{EmitsAll, EmitsPart, IsListing}
use Rattle.plan_tables_schema.specs.Rows.{tables_of}
use Rattle.plan_tables_lookups.specs.declared.faults.Stopped.TheVariants.{Sink}
use Rattle.plan_tables_windows.specs.Fetching.{told_rest}
use Rattle.plan_tables.specs.Kept.{kept_in}
use Rattle.plan_tables.specs.Listing.{fault_so, listing_fault, what_of}
use Rattle.plan_tables.specs.Session.{doubt_after, failures_after, fault_of}
use Rattle.plan_tables.proofs.GoneLemmas.{noted_on}
use Rattle.plan_tables.proofs.ListLemmas.{emits_none, mild_listed, no_device, no_memory, store_device, store_memory}
use Rattle.plan_tables.proofs.LookLemmas.{looks_still}
use Rattle.plan_tables.proofs.SessionLemmas.{asks_blamed, counts_device, counts_none, device_is, failed_asked, keeps_asked, keeps_unchecked, kept_checked}
use Rattle.plan_tables.proofs.SessionLemmas.{looks_checked, looks_then, looks_unchecked, mild_never, mild_opens, none_less, opens_asked, shut_unchecked}
use Rattle.plan_tables.proofs.SessionLemmas.{told_asked, told_checked}
use Rattle.plan_tables.proofs.SoundLemmas.{sound_on}
use Rattle.plan_tables.proofs.StoredLemmas.{keeps_still}
use Rattle.plan_tables.proofs.table_store.TableStore.list_asked.Goals as goal

-- ---- where the check failed

pub invariant_of-self : goal.invariant_of-self
invariant_of-self g c =
    let old = c.args.self.now in
    let lists = content_of old.lists in
    record {
      jobless = old.jobless;
      stored = keeps_unchecked old.session c.check.new.self lists old.stored c.in-Err.fault c.in-Err.ensures;
      told = told_checked old.session c.check.new.self lists old.stored c.check.ensures old.told;
      noted = noted_on (state g.S.Store old.session.conn) (state g.S.Store c.check.new.self.conn) lists lists old.gone
          (looks_unchecked old.session c.check.new.self lists old.stored c.in-Err.fault c.in-Err.ensures) old.noted;
      sound = sound_on (state g.S.Store old.session.conn) (state g.S.Store c.check.new.self.conn) lists lists
          (looks_unchecked old.session c.check.new.self lists old.stored c.in-Err.fault c.in-Err.ensures) old.sound;
    }

pub returns-in-Err : goal.returns-in-Err
returns-in-Err g c =
    let old = c.args.self.now in
    let lists = content_of old.lists in
    let checks = c.in-Err.ensures in
    let fault = c.in-Err.fault in
    let told = c.listing_fault.ensures in
    let looks = looks_unchecked old.session c.check.new.self lists old.stored fault checks in
    record {
      all = λ honest numbered. tt;
      part = λ honest either numbered.
          let (items, is) = c.has_listings_with.ensures (told_rest (tables_of (state g.S.Store old.session.conn).now.trees))
          numbered (what_of c.args.asked) (option_copied c.args.app) in
          emits_none g.K.RowSink.accepts g.K.RowSink.refuses _ c.args.sink.now items fault c.listing_fault.result told is;
      same = looks.same;
      crash = looks.crash;
      blames = λ device. elim (checks.blames (store_device fault (sym told ∙ device))) [
        | inl more ↦ more
        | inr some ↦ absurd (let h : ⊥ = omega (arith, c.requires, some) in h)
      ];
      counts = checks.counts;
      still = tt;
      steady = λ memory. let it = checks.doubt (store_memory fault (sym told ∙ memory)) in it.1 ∙ sym it.0;
      caused = λ clean device. shut_unchecked old.session c.check.new.self fault checks clean c.requires (store_device fault (sym told ∙ device));
      honest = λ (clean, opens). (looks.clean clean, looks.opens clean opens);
      clean = looks.clean;
      stays_honest = λ _ clean mild. absurd (mild_never old.session c.check.new.self fault checks
          (mild_listed fault c.listing_fault.result _ told mild));
      whole = tt;
    }

-- ---- where the tables were asked

pub invariant_of-self-in-Ok-list_kept : goal.invariant_of-self-in-Ok-list_kept
invariant_of-self-in-Ok-list_kept g c =
    let old = c.args.self.now in
    let mid = c.check.new.self in
    let lists = content_of old.lists in
    let checks = c.in-Ok.ensures in
    let kept = kept_checked old.session mid lists old.stored checks in
    let asks = c.in-Ok-list_kept.ensures.asks in
    record {
      jobless = old.jobless;
      stored = keeps_asked g.S.Store mid.conn c.list_kept.new.conn lists None asks kept mid.failures mid.in_doubt lists
          checks.whole.1 checks.whole.2 (λ clean. keeps_still (state g.S.Store mid.conn)
          (state g.S.Store c.list_kept.new.conn) lists);
      told = told_asked g.S.Store mid.conn c.list_kept.new.conn lists None asks kept
          (told_checked old.session mid lists old.stored checks old.told);
      noted = noted_on (state g.S.Store old.session.conn) (state g.S.Store c.list_kept.new.conn) lists lists old.gone
          (looks_then (state g.S.Store old.session.conn) (state g.S.Store mid.conn) (state g.S.Store c.list_kept.new.conn) lists lists
          lists (looks_checked old.session mid lists old.stored checks checks.whole.0)
          (looks_still (state g.S.Store mid.conn) (state g.S.Store c.list_kept.new.conn) asks.survives lists kept asks.stays))
          old.noted;
      sound = sound_on (state g.S.Store old.session.conn) (state g.S.Store c.list_kept.new.conn) lists lists
          (looks_then (state g.S.Store old.session.conn) (state g.S.Store mid.conn) (state g.S.Store c.list_kept.new.conn) lists lists
          lists (looks_checked old.session mid lists old.stored checks checks.whole.0)
          (looks_still (state g.S.Store mid.conn) (state g.S.Store c.list_kept.new.conn) asks.survives lists kept asks.stays))
          old.sound;
    }

pub invariant_of-self-in-Err-Sink : goal.invariant_of-self-in-Err-Sink
invariant_of-self-in-Err-Sink g c =
    let old = c.args.self.now in
    let mid = c.check.new.self in
    let lists = content_of old.lists in
    let checks = c.in-Ok.ensures in
    let kept = kept_checked old.session mid lists old.stored checks in
    let asks = rw c.in-Err-Sink.field-0-is at c.in-Err-Sink.ensures.asks in
    record {
      jobless = old.jobless;
      stored = keeps_asked g.S.Store mid.conn c.list_kept.new.conn lists None asks kept mid.failures mid.in_doubt lists
          checks.whole.1 checks.whole.2 (λ clean. keeps_still (state g.S.Store mid.conn)
          (state g.S.Store c.list_kept.new.conn) lists);
      told = told_asked g.S.Store mid.conn c.list_kept.new.conn lists None asks kept
          (told_checked old.session mid lists old.stored checks old.told);
      noted = noted_on (state g.S.Store old.session.conn) (state g.S.Store c.list_kept.new.conn) lists lists old.gone
          (looks_then (state g.S.Store old.session.conn) (state g.S.Store mid.conn) (state g.S.Store c.list_kept.new.conn) lists lists
          lists (looks_checked old.session mid lists old.stored checks checks.whole.0)
          (looks_still (state g.S.Store mid.conn) (state g.S.Store c.list_kept.new.conn) asks.survives lists kept asks.stays))
          old.noted;
      sound = sound_on (state g.S.Store old.session.conn) (state g.S.Store c.list_kept.new.conn) lists lists
          (looks_then (state g.S.Store old.session.conn) (state g.S.Store mid.conn) (state g.S.Store c.list_kept.new.conn) lists lists
          lists (looks_checked old.session mid lists old.stored checks checks.whole.0)
          (looks_still (state g.S.Store mid.conn) (state g.S.Store c.list_kept.new.conn) asks.survives lists kept asks.stays))
          old.sound;
    }

pub invariant_of-self-in-Err-Fault : goal.invariant_of-self-in-Err-Fault
invariant_of-self-in-Err-Fault g c =
    let old = c.args.self.now in
    let mid = c.check.new.self in
    let now = c.blame.new.self in
    let why = c.in-Err-Fault.why in
    let lists = content_of old.lists in
    let checks = c.in-Ok.ensures in
    let kept = kept_checked old.session mid lists old.stored checks in
    let asks = asks_blamed lists c.blame.ensures (rw c.in-Err-Fault.field-0-is at c.in-Err-Fault.ensures.asks) in
    record {
      jobless = old.jobless;
      stored = keeps_asked g.S.Store mid.conn now.conn lists (Some why) asks kept now.failures now.in_doubt lists
          (c.blame.ensures.failures ∙ ap (failures_after (Some why)) checks.whole.1)
          (c.blame.ensures.in_doubt ∙ ap (doubt_after (Some why)) checks.whole.2)
          (λ clean. keeps_still (state g.S.Store mid.conn) (state g.S.Store now.conn) lists);
      told = told_asked g.S.Store mid.conn now.conn lists (Some why) asks kept
          (told_checked old.session mid lists old.stored checks old.told);
      noted = noted_on (state g.S.Store old.session.conn) (state g.S.Store now.conn) lists lists old.gone
          (looks_then (state g.S.Store old.session.conn) (state g.S.Store mid.conn) (state g.S.Store now.conn) lists lists
          lists (looks_checked old.session mid lists old.stored checks checks.whole.0)
          (looks_still (state g.S.Store mid.conn) (state g.S.Store now.conn) asks.survives lists kept asks.stays))
          old.noted;
      sound = sound_on (state g.S.Store old.session.conn) (state g.S.Store now.conn) lists lists
          (looks_then (state g.S.Store old.session.conn) (state g.S.Store mid.conn) (state g.S.Store now.conn) lists lists
          lists (looks_checked old.session mid lists old.stored checks checks.whole.0)
          (looks_still (state g.S.Store mid.conn) (state g.S.Store now.conn) asks.survives lists kept asks.stays))
          old.sound;
    }

pub returns-in-Ok-list_kept : goal.returns-in-Ok-list_kept
returns-in-Ok-list_kept g c =
    let old = c.args.self.now in
    let mid = c.check.new.self in
    let lists = content_of old.lists in
    let checks = c.in-Ok.ensures in
    let kept = kept_checked old.session mid lists old.stored checks in
    let asks = c.in-Ok-list_kept.ensures.asks in
    let s1 = state g.S.Store mid.conn in
    let s2 = state g.S.Store c.list_kept.new.conn in
    let looks = looks_still s1 s2 asks.survives lists kept asks.stays in
    let met = looks_checked old.session mid lists old.stored checks c.requires in
    let did = looks_then (state g.S.Store old.session.conn) s1 s2 lists lists lists met looks in
    let opens = opens_asked g.S.Store mid.conn c.list_kept.new.conn lists None asks kept in
    record {
      all = λ (clean, opens). subst (λ (k : Content). AreNumbered k.sets → EmitsAll g.K.RowSink.accepts
          (IsListing (what_of c.args.asked) (option_copied c.args.app) k) c.args.sink.now c.list_kept.new.sink
          c.in-Ok-list_kept.count) (met.same (looks.clean clean, looks.opens clean opens))
          (c.in-Ok-list_kept.ensures.all clean (∥∥₁_map kept (λ h. h (looks.clean clean))));
      part = λ honest either numbered. tt;
      same = did.same;
      crash = did.crash;
      blames = tt;
      counts = none_less old.session.failures _ c.requires;
      still = checks.whole.1 ∙ sym c.requires;
      steady = tt;
      caused = λ clean. tt;
      honest = λ (clean, is_open). (did.clean clean, did.opens clean is_open);
      clean = did.clean;
      stays_honest = λ _ clean _. (clean, opens clean tt);
      whole = (checks.whole.1, checks.whole.2);
    }

pub returns-in-Err-Sink : goal.returns-in-Err-Sink
returns-in-Err-Sink g c =
    let old = c.args.self.now in
    let mid = c.check.new.self in
    let lists = content_of old.lists in
    let checks = c.in-Ok.ensures in
    let kept = kept_checked old.session mid lists old.stored checks in
    let asks = rw c.in-Err-Sink.field-0-is at c.in-Err-Sink.ensures.asks in
    let s1 = state g.S.Store mid.conn in
    let s2 = state g.S.Store c.list_kept.new.conn in
    let looks = looks_still s1 s2 asks.survives lists kept asks.stays in
    let met = looks_checked old.session mid lists old.stored checks c.requires in
    let did = looks_then (state g.S.Store old.session.conn) s1 s2 lists lists lists met looks in
    let opens = opens_asked g.S.Store mid.conn c.list_kept.new.conn lists None asks kept in
    record {
      all = λ honest numbered. tt;
      part = λ honest either.
          let clean : HasCleanDisk s2 = elim either [ inl is ↦ is.0 | inr is ↦ is ] in
          let calm = looks.clean clean in
          subst (λ (k : Content). AreNumbered k.sets → EmitsPart g.K.RowSink.accepts g.K.RowSink.refuses
          (IsListing (what_of c.args.asked) (option_copied c.args.app) k) c.args.sink.now c.list_kept.new.sink
          (fault_so Sink))
          (met.same (calm, (checks.fine calm).stays_open honest.1))
          (rw c.in-Err-Sink.field-0-is at (c.in-Err-Sink.ensures.part clean (∥∥₁_map kept (λ h. h calm))));
      same = did.same;
      crash = did.crash;
      blames = λ device. absurd (no_device _ refl device);
      counts = none_less old.session.failures _ c.requires;
      still = tt;
      steady = λ memory. absurd (no_memory _ refl memory);
      caused = λ clean device. absurd (no_device _ refl device);
      honest = λ (clean, is_open). (did.clean clean, did.opens clean is_open);
      clean = did.clean;
      stays_honest = λ _ clean _. (clean, opens clean tt);
      whole = tt;
    }

pub returns-in-Err-Fault : goal.returns-in-Err-Fault
returns-in-Err-Fault g c =
    let old = c.args.self.now in
    let mid = c.check.new.self in
    let last = c.blame.new.self in
    let why = c.in-Err-Fault.why in
    let lists = content_of old.lists in
    let checks = c.in-Ok.ensures in
    let kept = kept_checked old.session mid lists old.stored checks in
    let asks = asks_blamed lists c.blame.ensures (rw c.in-Err-Fault.field-0-is at c.in-Err-Fault.ensures.asks) in
    let s1 = state g.S.Store mid.conn in
    let s2 = state g.S.Store last.conn in
    let looks = looks_still s1 s2 asks.survives lists kept asks.stays in
    let counted = c.blame.ensures.failures ∙ ap (failures_after (Some why)) checks.whole.1 in
    let doubted = c.blame.ensures.in_doubt ∙ ap (doubt_after (Some why)) checks.whole.2 in
    let met = looks_checked old.session mid lists old.stored checks c.requires in
    let did = looks_then (state g.S.Store old.session.conn) s1 s2 lists lists lists met looks in
    let opens = opens_asked g.S.Store mid.conn last.conn lists (Some why) asks kept in
    let told = c.listing_fault-in-Err-Fault.ensures ∙ ap listing_fault c.blame.ensures.fault in
    record {
      all = λ honest numbered. tt;
      part = λ honest either numbered.
          let clean : HasCleanDisk s2 = elim either [ inl is ↦ is.0 | inr is ↦ is ] in
          let calm = looks.clean clean in
          let was = subst (λ (h : Held _). HasCleanDisk (state g.S.Store h)) c.blame.ensures.conn clean in
          let is = met.same (calm, (checks.fine calm).stays_open honest.1) in
          subst (EmitsPart g.K.RowSink.accepts g.K.RowSink.refuses
          (IsListing (what_of c.args.asked) (option_copied c.args.app) (kept_in (state g.S.Store old.session.conn) lists))
          c.args.sink.now c.list_kept.new.sink) (sym told)
          (subst (λ (k : Content). AreNumbered k.sets → EmitsPart g.K.RowSink.accepts g.K.RowSink.refuses
          (IsListing (what_of c.args.asked) (option_copied c.args.app) k) c.args.sink.now c.list_kept.new.sink
          (listing_fault (fault_of why))) is
          (rw c.in-Err-Fault.field-0-is at (c.in-Err-Fault.ensures.part was (∥∥₁_map kept (λ h. h calm)))) numbered);
      same = did.same;
      crash = did.crash;
      blames = λ device. counts_device why old.session.failures last.failures c.requires counted
          (store_device (fault_of why) (sym told ∙ device));
      counts = none_less old.session.failures _ c.requires;
      still = tt;
      steady = λ memory. counts_none why old.session.failures last.failures c.requires counted
          (store_memory (fault_of why) (sym told ∙ memory));
      caused = λ clean device. failed_asked old.session mid last.conn lists (Some why) checks asks kept clean
          (ap Some (device_is why (store_device (fault_of why) (sym told ∙ device))));
      honest = λ (clean, is_open). (did.clean clean, did.opens clean is_open);
      clean = did.clean;
      stays_honest = λ _ clean mild. (
        clean,
        opens clean (mild_opens why last.in_doubt (last.failures ≡ 0) doubted
            (mild_listed (fault_of why) c.listing_fault-in-Err-Fault.result _ told mild)),
      );
      whole = tt;
    }
