use Rattle.std.proofs.Common.{◌≡◌, ◌⊎◌, ◌∙◌, ℕ, ◌<◌, ◌≤◌, Err, Ok, Result, ap, arith, inl, inr, refl, subst, sym}
use Rattle.std.proofs.Math.Logic.{∥∥₁_elim, ∥∥₁_map}
use Rattle.std.specs.Prelude.{IfErr, IsErrAnd, OnErr, OnOk}
use Rattle.sqlite.specs.Effect.{Database}
use Rattle.sqlite.specs.Held.{Held, state}
use Rattle.sqlite.specs.State.{HasCleanDisk, State}
use Rattle.sqlite.specs.Store.{Ghosts}
use Rattle.planner_machine.specs.Content.{Content}
use Rattle.planner_machine.specs.Sound.{IsSound}
use Rattle.plan_store.specs.Changes.{Fits, after}
use Rattle.plan_store.specs.Contents.{content_of}
use Rattle.plan_store.specs.Faults.{IsMild, MoreFailures}
use Rattle.plan_store.specs.Stores.{Applies}
use Rattle.plan_store.specs.declared.changes.Change.{Change}
use Rattle.plan_store.specs.declared.stores.StoreFault.{StoreFault}
use Rattle.plan_store.specs.declared.stores.StoreFault.TheVariants.{Device, Memory}
use Rattle.plan_store.specs.declared.contents.Content.{Content as Kept}
use Rattle.plan_tables_windows.specs.Changes.{KnowsNamed}
use Rattle.plan_tables_schema.specs.Rows.{tables_of}
use Rattle.plan_tables_windows.specs.Fetching.{told_rest}
use Rattle.plan_tables.specs.Causes.{CountsOn}
use Rattle.plan_tables.specs.Kept.{CanRead, LooksOn, kept_in}
use Rattle.plan_tables.specs.Stored.{MayLeave}
use Rattle.plan_tables.specs.Accepted.{KeepsSchema}
use Rattle.plan_tables.specs.declared.table_store.TableStore.{TableStore}
use Rattle.plan_tables.proofs.CauseLemmas.{can_still, caused_since, merely_err, never_told, room_still, steady_since, told_kept}
use Rattle.plan_tables.proofs.LookLemmas.{looks_read, mild_open, ok_since}
use Rattle.plan_tables.proofs.StoredLemmas.{settled_so}
use Rattle.plan_tables.proofs.table_store.TableStorePlanStore.apply.Goals as goal

module _ {S : Type 0} {is_honest : S → Type 0} {content : S → Content} {failures : S → ℕ}
    {may_leave : S → Content → Type 0} {is_clean is_whole : S → Type 0} (before now : S) (change : Change) where
  -- nothing was written
  unwritten : (result : Result (Unit {0}) StoreFault) (fault : StoreFault) → IsErrAnd result (λ told. told ≡ fault)
      → (is_honest now → content now ≡ content before) → ((c : Content) → may_leave now c → may_leave before c)
      → (fault ≡ Device → MoreFailures (failures before) (failures now) ⊎ (0 < failures before))
      → (0 < failures before → fault ≡ Device) → failures before ≤ failures now
      → (fault ≡ Memory → failures now ≡ failures before)
      → (is_honest now → is_honest before) → (is_clean now → is_clean before)
      → (is_honest before → is_clean now → IsMild (is_whole now) fault → is_honest now)
      → Applies is_honest content failures may_leave is_clean is_whole before now change result
  unwritten (Ok v) fault is same leaves blames broken counts steady honest clean stays = absurd is
  unwritten (Err told) fault is same leaves blames broken counts steady honest clean stays = record {
    done = λ _. tt;
    unchanged = λ honest _. same honest;
    whole = λ honest. inl (same honest);
    settled = λ _. tt;
    crash = λ _ c may. inl (leaves c may);
    blames = λ device. blames (sym is ∙ device);
    broken = λ some. ap Err (is ∙ broken some);
    counts = counts;
    still = tt;
    steady = λ memory. steady (sym is ∙ memory);
    honest = honest;
    clean = clean;
    stays_honest = λ was calm mild. stays was calm (subst (IsMild (is_whole now)) is mild);
    stays_whole = tt;
  }

  -- all or nothing was written, by a store that had not failed
  written : (result : Result (Unit {0}) StoreFault)
      → (is_honest now → OnOk result (content now ≡ after change (content before)))
      → (is_honest now → OnErr result (content now ≡ content before))
      → OnOk result ((c : Content) → may_leave now c → c ≡ content now)
      → (is_honest before → (c : Content) → may_leave now c → may_leave before c ⊎ (c ≡ after change (content before)))
      → IfErr result (λ fault. fault ≡ Device → MoreFailures (failures before) (failures now))
      → failures before ≡ 0 → OnOk result (failures now ≡ failures before)
      → IfErr result (λ fault. fault ≡ Memory → failures now ≡ failures before)
      → (is_honest now → is_honest before) → (is_clean now → is_clean before)
      → (is_honest before → is_clean now → IfErr result (IsMild (is_whole now)) → is_honest now)
      → OnOk result (is_whole now)
      → Applies is_honest content failures may_leave is_clean is_whole before now change result
  written (Ok v) done same settled crash blames none still steady honest clean stays ends_whole = record {
    done = done;
    unchanged = λ _. tt;
    whole = λ _. tt;
    settled = λ _. settled;
    crash = crash;
    blames = tt;
    broken = λ some. absurd (let h : ⊥ = omega (arith, none, some) in h);
    counts = omega (arith, none);
    still = still;
    steady = tt;
    honest = honest;
    clean = clean;
    stays_honest = stays;
    stays_whole = λ _. ends_whole;
  }
  written (Err fault) done same settled crash blames none still steady honest clean stays ends_whole = record {
    done = λ _. tt;
    unchanged = λ honest _. same honest;
    whole = λ honest. inl (same honest);
    settled = λ _. tt;
    crash = crash;
    blames = λ device. inl (blames device);
    broken = λ some. absurd (let h : ⊥ = omega (arith, none, some) in h);
    counts = omega (arith, none);
    still = tt;
    steady = steady;
    honest = honest;
    clean = clean;
    stays_honest = stays;
    stays_whole = tt;
  }

-- a store that is ready and admits a change is the one that it was
module _ {S : Type 0} (G : Ghosts S) where
  ready_same : (old : State) (ready mid : TableStore S G) → mid ≡ ready
      → (HasCleanDisk (state G ready.session.conn) → ∥ (state G ready.session.conn).now ≡ old.now ∥₁) → HasCleanDisk (state G mid.session.conn)
      → ∥ (state G mid.session.conn).now ≡ old.now ∥₁
  ready_same old ready mid is same = subst (λ (m : TableStore S G). HasCleanDisk (state G m.session.conn)
      → ∥ (state G m.session.conn).now ≡ old.now ∥₁) (sym is) same

  ready_kept : (before ready mid : TableStore S G) → mid ≡ ready
      → (CanRead (state G ready.session.conn) → kept_in (state G ready.session.conn) (content_of ready.lists)
      ≡ kept_in (state G before.session.conn) (content_of before.lists)) → CanRead (state G mid.session.conn)
      → kept_in (state G mid.session.conn) (content_of mid.lists) ≡ kept_in (state G before.session.conn) (content_of before.lists)
  ready_kept before ready mid is same = subst (λ (m : TableStore S G). CanRead (state G m.session.conn)
      → kept_in (state G m.session.conn) (content_of m.lists) ≡ kept_in (state G before.session.conn) (content_of before.lists))
      (sym is) same

  admit_looks : (before ready now : TableStore S G) → now.session.conn ≡ ready.session.conn → now.lists ≡ ready.lists
      → LooksOn (state G before.session.conn) (state G ready.session.conn) (content_of before.lists) (content_of ready.lists)
      → LooksOn (state G before.session.conn) (state G now.session.conn) (content_of before.lists) (content_of now.lists)
  admit_looks before ready now conn lists looks = subst (λ (held : Held S). LooksOn (state G before.session.conn) (state G held)
      (content_of before.lists) (content_of now.lists)) (sym conn)
      (subst (λ (l : Kept). LooksOn (state G before.session.conn) (state G ready.session.conn) (content_of before.lists) (content_of l))
      (sym lists) looks)

-- what is told of an error is told of the one that is made of it
told_so : {T X : Type 0} (r : Result T StoreFault) (e : StoreFault) → IsErrAnd r (λ told. told ≡ e)
    → (e ≡ Device → X) → IfErr r (λ fault. fault ≡ Device → X)
told_so (Ok v) e is h = tt
told_so (Err told) e is h = λ device. h (sym is ∙ device)

schema_merely : {T : Type 0} (r : Result T StoreFault) (old mid new : State)
    → (HasCleanDisk new → ∥ mid.now ≡ old.now ∥₁) → KeepsSchema mid new r → KeepsSchema old new r
schema_merely (Ok v) old mid new same kept = λ clean. ∥∥₁_elim (same clean) squash₁ (λ is.
    subst (λ (db : Database). ∥ new.now.schema ≡ db.schema ∥₁) is (kept clean))
schema_merely (Err e) old mid new same kept = λ memory clean opens. ∥∥₁_elim (same clean) squash₁ (λ is.
    subst (λ (db : Database). ∥ new.now.schema ≡ db.schema ∥₁) is (kept memory clean opens))

pub admit-requires-clause-fits : goal.admit-requires-clause-fits
admit-requires-clause-fits g c can =
    let reads = c.make_ready.ensures.reads in
    subst (Fits c.args.change) (sym (reads.same can)) (c.requires.fits (reads.honest can))

pub admit-requires-clause-sound : goal.admit-requires-clause-sound
admit-requires-clause-sound g c can =
    let reads = c.make_ready.ensures.reads in
    subst (λ (k : Content). IsSound (after c.args.change k)) (sym (reads.same can))
    (c.requires.sound (reads.honest can))

pub admit-requires-clause-knows : goal.admit-requires-clause-knows
admit-requires-clause-knows g c can = c.in_ok-make_ready.ensures.reads.right can

pub commit-requires-clause-fits : goal.commit-requires-clause-fits
commit-requires-clause-fits g c = subst (λ (m : TableStore _ _). CanRead (state g.S.Store m.session.conn)
    → Fits c.args.change (kept_in (state g.S.Store m.session.conn) (content_of m.lists))) (sym c.in_ok-admit.ensures.ok)
    (λ can. let reads = c.make_ready.ensures.reads in
    subst (Fits c.args.change) (sym (reads.same can)) (c.requires.fits (reads.honest can)))

pub commit-requires-clause-sound : goal.commit-requires-clause-sound
commit-requires-clause-sound g c = subst (λ (m : TableStore _ _). CanRead (state g.S.Store m.session.conn)
    → IsSound (after c.args.change (kept_in (state g.S.Store m.session.conn) (content_of m.lists))))
    (sym c.in_ok-admit.ensures.ok) (λ can. let reads = c.make_ready.ensures.reads in
    subst (λ (k : Content). IsSound (after c.args.change k)) (sym (reads.same can))
    (c.requires.sound (reads.honest can)))

pub commit-requires-clause-knows : goal.commit-requires-clause-knows
commit-requires-clause-knows g c = subst (λ (m : TableStore _ _). CanRead (state g.S.Store m.session.conn)
    → KnowsNamed (told_rest (tables_of (state g.S.Store m.session.conn).now.trees)) c.args.change (content_of m.lists))
    (sym c.in_ok-admit.ensures.ok) c.in_ok-make_ready.ensures.reads.right

pub returns-clause-applies : goal.returns-clause-applies
returns-clause-applies g c =
    let before = c.args.self.now in
    let mid = c.admit.new.self in
    let now = c.commit.new.self in
    let result = c.commit.result in
    let did = c.commit.ensures in
    let reads = c.make_ready.ensures.reads in
    let looks = subst (λ (m : TableStore _ _). LooksOn (state g.S.Store before.session.conn) (state g.S.Store m.session.conn)
    (content_of before.lists) (content_of m.lists)) (sym c.in_ok-admit.ensures.ok)
    (looks_read (state g.S.Store before.session.conn) (state g.S.Store c.make_ready.new.self.session.conn) (content_of before.lists)
    (content_of c.make_ready.new.self.lists) reads.same reads.crash reads.honest reads.clean) in
    let none : before.session.failures ≡ 0 = c.in_ok-prepared.ensures.whole in
    let still : mid.session.failures ≡ before.session.failures = ap (λ (s : TableStore _ _). s.session.failures) c.in_ok-admit.ensures.ok
    ∙ c.in_ok-make_ready.ensures.whole.0 ∙ sym none in
    let met : HasCleanDisk (state g.S.Store now.session.conn) → kept_in (state g.S.Store mid.session.conn) (content_of mid.lists)
    ≡ kept_in (state g.S.Store before.session.conn) (content_of before.lists)
    = λ clean. looks.same (did.clean clean, did.was_open clean) in
    written before now c.args.change result
    (λ honest. subst (λ (k : Content). OnOk result (kept_in (state g.S.Store now.session.conn) (content_of now.lists)
    ≡ after c.args.change k)) (met honest.0) (did.done honest.0))
    (λ honest. subst (λ (k : Content). OnErr result (kept_in (state g.S.Store now.session.conn) (content_of now.lists) ≡ k))
    (met honest.0) (did.same honest))
    (settled_so result (HasCleanDisk (state g.S.Store now.session.conn)) (λ (d : Content). MayLeave (state g.S.Store now.session.conn) d)
    (kept_in (state g.S.Store now.session.conn) (content_of now.lists)) did.settled)
    (λ was d (clean, may). elim (did.crash clean d may) [
      | inl left ↦ inl (looks.crash d (did.clean clean, left))
      | inr made ↦ inr (subst (λ (k : Content). d ≡ after c.args.change k) (met clean) made)
    ])
    (subst (λ n. IfErr result (λ fault. fault ≡ Device → MoreFailures n now.session.failures)) still did.blames)
    none (ok_since result _ _ (λ whole. whole.0 ∙ sym none) did.whole)
    (steady_since result now.session.failures mid.session.failures before.session.failures did.steady still)
    (λ honest. (looks.clean (did.clean honest.0), looks.opens (did.clean honest.0) (did.was_open honest.0)))
    (λ clean. looks.clean (did.clean clean))
    (λ was clean mild. (
      clean,
      mild_open result (state g.S.Store now.session.conn).is_open now.session.in_doubt (now.session.failures ≡ 0)
          (did.opens clean) (did.memory clean) mild,
    ))
    did.whole

pub returns-clause-caused : goal.returns-clause-caused
returns-clause-caused g c none clean can =
    let before = c.args.self.now in
    let old = state g.S.Store before.session.conn in
    let mid = c.admit.new.self in
    let calm = c.commit.ensures.clean clean in
    merely_err _ c.commit.result (∥∥₁_map (ready_same g.S.Store old c.make_ready.new.self mid
    c.in_ok-admit.ensures.ok c.in_ok-make_ready.ensures.same calm) (λ same.
    caused_since c.commit.result old (state g.S.Store mid.session.conn) (state g.S.Store c.commit.new.self.session.conn)
    (subst (λ (m : TableStore _ _). CountsOn old (state g.S.Store m.session.conn)) (sym c.in_ok-admit.ensures.ok)
    c.make_ready.ensures.counted)
    (c.commit.ensures.caused clean (can_still old (state g.S.Store mid.session.conn)
    (kept_in old (content_of before.lists)) (kept_in (state g.S.Store mid.session.conn) (content_of mid.lists)) c.args.change
    same (ready_kept g.S.Store before c.make_ready.new.self mid c.in_ok-admit.ensures.ok c.make_ready.ensures.reads.same
    (calm, c.commit.ensures.was_open clean)) can))))

pub returns-clause-taken : goal.returns-clause-taken
returns-clause-taken g c none clean room =
    let old = state g.S.Store c.args.self.now.session.conn in
    let mid = c.admit.new.self in
    let calm = c.commit.ensures.clean clean in
    merely_err _ c.commit.result (∥∥₁_map (ready_same g.S.Store old c.make_ready.new.self mid
    c.in_ok-admit.ensures.ok c.in_ok-make_ready.ensures.same calm) (λ same.
    caused_since c.commit.result old (state g.S.Store mid.session.conn) (state g.S.Store c.commit.new.self.session.conn)
    (subst (λ (m : TableStore _ _). CountsOn old (state g.S.Store m.session.conn)) (sym c.in_ok-admit.ensures.ok)
    c.make_ready.ensures.counted)
    (c.commit.ensures.taken clean (room_still old (state g.S.Store mid.session.conn) c.args.change same room))))

pub returns-clause-schema : goal.returns-clause-schema
returns-clause-schema g c =
    let old = state g.S.Store c.args.self.now.session.conn in
    let mid = c.admit.new.self in
    schema_merely c.commit.result old (state g.S.Store mid.session.conn) (state g.S.Store c.commit.new.self.session.conn)
    (λ clean. ready_same g.S.Store old c.make_ready.new.self mid c.in_ok-admit.ensures.ok
    c.in_ok-make_ready.ensures.same (c.commit.ensures.clean clean)) c.commit.ensures.schema

pub returns-in_err-prepared-clause-applies : goal.returns-in_err-prepared-clause-applies
returns-in_err-prepared-clause-applies g c =
    let before = c.args.self.now in
    unwritten before before c.args.change c.from_residual.result c.in_err-prepared.field-0.0
    c.from_residual.ensures.1 (λ _. refl) (λ d both. both)
    (λ device. inr (c.in_err-prepared.ensures.blames device))
    (λ some. let h = c.in_err-prepared.ensures.broken some in cc h)
    (omega arith) (λ _. refl) (λ honest. honest) (λ clean. clean) (λ was clean mild. was)

pub returns-in_err-make_ready-clause-applies : goal.returns-in_err-make_ready-clause-applies
returns-in_err-make_ready-clause-applies g c =
    let before = c.args.self.now in
    let now = c.make_ready.new.self in
    let reads = c.in_err-make_ready.ensures.reads in
    let none : before.session.failures ≡ 0 = c.in_ok-prepared.ensures.whole in
    unwritten before now c.args.change c.from_residual-in_err-make_ready.result c.in_err-make_ready.field-0.0
    c.from_residual-in_err-make_ready.ensures.1 reads.same reads.crash reads.blames
    (λ some. absurd (let h : ⊥ = omega (arith, none, some) in h))
    reads.counts reads.steady reads.honest reads.clean reads.stays_honest

pub returns-in_err-make_ready-clause-caused : goal.returns-in_err-make_ready-clause-caused
returns-in_err-make_ready-clause-caused g c none clean can =
    told_so c.from_residual-in_err-make_ready.result c.in_err-make_ready.field-0.0
    c.from_residual-in_err-make_ready.ensures.1 (c.in_err-make_ready.ensures.reads.caused none clean)

pub returns-in_err-make_ready-clause-taken : goal.returns-in_err-make_ready-clause-taken
returns-in_err-make_ready-clause-taken g c none clean room =
    told_so c.from_residual-in_err-make_ready.result c.in_err-make_ready.field-0.0
    c.from_residual-in_err-make_ready.ensures.1 (c.in_err-make_ready.ensures.reads.caused none clean)

pub returns-in_err-prepared-clause-schema : goal.returns-in_err-prepared-clause-schema
returns-in_err-prepared-clause-schema g c =
    let old = state g.S.Store c.args.self.now.session.conn in
    told_kept c.from_residual.result c.in_err-prepared.field-0.0 old old c.from_residual.ensures.1
    (λ _ _ _. ∣ refl ∣₁)

pub returns-in_err-make_ready-clause-schema : goal.returns-in_err-make_ready-clause-schema
returns-in_err-make_ready-clause-schema g c =
    told_kept c.from_residual-in_err-make_ready.result c.in_err-make_ready.field-0.0
    (state g.S.Store c.args.self.now.session.conn) (state g.S.Store c.make_ready.new.self.session.conn)
    c.from_residual-in_err-make_ready.ensures.1 c.in_err-make_ready.ensures.schema

pub returns-in_err-admit-clause-applies : goal.returns-in_err-admit-clause-applies
returns-in_err-admit-clause-applies g c =
    let before = c.args.self.now in
    let ready = c.make_ready.new.self in
    let now = c.admit.new.self in
    let fault = c.in_err-admit.field-0.0 in
    let reads = c.in_ok-make_ready.ensures.reads in
    let looks = admit_looks g.S.Store before ready now c.admit.ensures.conn c.admit.ensures.lists
    (looks_read (state g.S.Store before.session.conn) (state g.S.Store ready.session.conn) (content_of before.lists)
    (content_of ready.lists) reads.same reads.crash reads.honest reads.clean) in
    let none : before.session.failures ≡ 0 = c.in_ok-prepared.ensures.whole in
    unwritten before now c.args.change c.from_residual-in_err-admit.result fault
    c.from_residual-in_err-admit.ensures.1 looks.same looks.crash
    (λ device. inl (subst (λ n. MoreFailures n now.session.failures) (c.in_ok-make_ready.ensures.whole.0 ∙ sym none)
    (c.in_err-admit.ensures.blames device)))
    (λ some. absurd (let h : ⊥ = omega (arith, none, some) in h))
    (omega (arith, none))
    (λ memory. absurd (let told : Memory ≡ Device = sym memory ∙ c.in_err-admit.ensures.refused.0 in
    let h : ⊥ = cc told in h))
    (λ honest. (looks.clean honest.0, looks.opens honest.0 honest.1)) looks.clean
    (λ was clean mild. subst (λ (conn : Held _). CanRead (state g.S.Store conn)) (sym c.admit.ensures.conn)
    (reads.stays_honest was (subst (λ (conn : Held _). HasCleanDisk (state g.S.Store conn)) c.admit.ensures.conn clean)
    tt))

pub returns-in_err-admit-clause-caused : goal.returns-in_err-admit-clause-caused
returns-in_err-admit-clause-caused g c none clean can =
    never_told _ c.from_residual-in_err-admit.result c.in_err-admit.field-0.0 c.from_residual-in_err-admit.ensures.1
    (c.in_err-admit.ensures.admits (subst (λ (conn : Held _). HasCleanDisk (state g.S.Store conn))
    c.admit.ensures.conn clean))

pub returns-in_err-admit-clause-taken : goal.returns-in_err-admit-clause-taken
returns-in_err-admit-clause-taken g c none clean room =
    never_told _ c.from_residual-in_err-admit.result c.in_err-admit.field-0.0 c.from_residual-in_err-admit.ensures.1
    (c.in_err-admit.ensures.admits (subst (λ (conn : Held _). HasCleanDisk (state g.S.Store conn))
    c.admit.ensures.conn clean))

pub returns-in_err-admit-clause-schema : goal.returns-in_err-admit-clause-schema
returns-in_err-admit-clause-schema g c =
    told_kept c.from_residual-in_err-admit.result c.in_err-admit.field-0.0 (state g.S.Store c.args.self.now.session.conn)
    (state g.S.Store c.admit.new.self.session.conn) c.from_residual-in_err-admit.ensures.1 (λ memory clean opens.
    subst (λ (conn : Held _). ∥ (state g.S.Store conn).now.schema
    ≡ (state g.S.Store c.args.self.now.session.conn).now.schema ∥₁) (sym c.admit.ensures.conn)
    (∥∥₁_map (c.in_ok-make_ready.ensures.same (subst (λ (conn : Held _). HasCleanDisk (state g.S.Store conn))
    c.admit.ensures.conn clean)) (ap (λ (db : Database). db.schema))))

-- where memory is refused as the change is tested, nothing is written

pub returns-in_err-is_fit-clause-applies : goal.returns-in_err-is_fit-clause-applies
returns-in_err-is_fit-clause-applies g c =
    let before = c.args.self.now in
    let now = c.make_ready.new.self in
    let reads = c.in_ok-make_ready.ensures.reads in
    let none : before.session.failures ≡ 0 = c.in_ok-prepared.ensures.whole in
    unwritten before now c.args.change c.from_residual-in_err-is_fit.result c.in_err-is_fit.field-0.0
    c.from_residual-in_err-is_fit.ensures.1 reads.same reads.crash
    (λ device. absurd (let told : Memory ≡ Device = sym c.in_err-is_fit.ensures.memory ∙ device in
    let h : ⊥ = cc told in h))
    (λ some. absurd (let h : ⊥ = omega (arith, none, some) in h))
    reads.counts (λ _. reads.still) reads.honest reads.clean (λ was clean mild. reads.stays_honest was clean tt)

pub returns-in_err-is_fit-clause-caused : goal.returns-in_err-is_fit-clause-caused
returns-in_err-is_fit-clause-caused g c none clean can =
    never_told _ c.from_residual-in_err-is_fit.result c.in_err-is_fit.field-0.0 c.from_residual-in_err-is_fit.ensures.1
    (λ device. let told : Memory ≡ Device = sym c.in_err-is_fit.ensures.memory ∙ device in let h : ⊥ = cc told in h)

pub returns-in_err-is_fit-clause-taken : goal.returns-in_err-is_fit-clause-taken
returns-in_err-is_fit-clause-taken g c none clean room =
    never_told _ c.from_residual-in_err-is_fit.result c.in_err-is_fit.field-0.0 c.from_residual-in_err-is_fit.ensures.1
    (λ device. let told : Memory ≡ Device = sym c.in_err-is_fit.ensures.memory ∙ device in let h : ⊥ = cc told in h)

pub returns-in_err-is_fit-clause-schema : goal.returns-in_err-is_fit-clause-schema
returns-in_err-is_fit-clause-schema g c =
    told_kept c.from_residual-in_err-is_fit.result c.in_err-is_fit.field-0.0 (state g.S.Store c.args.self.now.session.conn)
    (state g.S.Store c.make_ready.new.self.session.conn) c.from_residual-in_err-is_fit.ensures.1
    (λ memory clean opens. ∥∥₁_map (c.in_ok-make_ready.ensures.same clean) (ap (λ (db : Database). db.schema)))
