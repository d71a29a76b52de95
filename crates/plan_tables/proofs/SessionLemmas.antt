-- A session that is checked, and a store whose connection is asked.
use Rattle.std.proofs.Common.{◌≡◌, ◌⊎◌, ◌∙◌, ◌<◌, ◌≤◌, ℕ, Bool, Err, IsSome, IsTrue, None, Ok, Option, Result, Some, false, inl, inr, ap, arith, refl, suc, subst, sym, true≢false, zero}
use Rattle.std.proofs.Math.Logic.{∥∥₁_elim, ∥∥₁_map}
use Rattle.sqlite.specs.Held.{Held, state}
use Rattle.sqlite.specs.State.{HasCleanDisk, State}
use Rattle.sqlite.specs.Store.{Ghosts}
use Rattle.planner_machine.specs.Content.{Content}
use Rattle.plan_store.specs.Contents.{content_of}
use Rattle.plan_store.specs.Faults.{IsMild, MoreFailures}
use Rattle.plan_store.specs.Stores.{ReadsStore}
use Rattle.plan_store.specs.declared.stores.StoreFault.{StoreFault}
use Rattle.plan_store.specs.declared.stores.StoreFault.TheVariants.{Device, Memory}
use Rattle.plan_tables.specs.Causes.{HasFailed}
use Rattle.plan_tables.specs.Kept.{CanRead, IsKept, LooksOn, kept_in}
use Rattle.plan_tables.specs.Session.{Asks, Blames, Checks, IsWhole, Keeps, LeavesOpen, doubt_after, failures_after, fault_of}
use Rattle.plan_tables.specs.Stored.{LeavesSound, MayLeave}
use Rattle.plan_tables.specs.Stores.{kept_by, state_of}
use Rattle.plan_tables.specs.declared.keeping.Unmade.{Unmade}
use Rattle.plan_tables.specs.declared.keeping.Unmade.TheVariants as unmade
use Rattle.plan_tables.specs.declared.session.Session.{Session}
use Rattle.plan_tables.specs.declared.table_store.TableStore.{TableStore}
use Rattle.plan_tables.proofs.CauseLemmas.{shut_so}
use Rattle.plan_tables.proofs.LookLemmas.{looks_on, told_kept_still, told_still}
use Rattle.plan_tables.proofs.SetLemmas.{truth_prop}
use Rattle.plan_tables.proofs.StoredLemmas.{keeps_still, looks_same, put_still}

-- ---- a session that is checked

module _ {S : Type 0} {g : Ghosts S} (old new : Session S g) (lists : Content)
    (keeps : Keeps g old lists) where
  abbrev from : State
  from = state g old.conn

  abbrev to : State
  to = state g new.conn

  -- nothing failed, so an open connection keeps the lists
  pub known : old.failures ≡ 0 → ∥ (HasCleanDisk from → IsTrue from.is_open → IsKept from lists) ∥₁
  known none = ∥∥₁_map keeps (λ h clean opens. h none clean (λ _. opens))

  pub kept_checked : Checks g old new (Ok tt) → ∥ (HasCleanDisk to → IsKept to lists) ∥₁
  kept_checked did = ∥∥₁_map keeps (λ h clean.
      let fine = did.fine clean in
      let held = h did.whole.0 (omega (arith, did.survives.clean, clean)) fine.opens in
      keeps_still from to lists held (fine.stays_open held.stored.is_open) fine.now fine.committed)

  pub keeps_unchecked : (fault : StoreFault) → Checks g old new (Err fault) → Keeps g new lists
  keeps_unchecked fault did = ∥∥₁_map keeps (λ h none clean sure.
      let whole : old.failures ≡ 0 = omega (arith, did.counts, none) in
      let opens : IsTrue to.is_open = in_doubt fault did none sure in
      let put = did.stays clean opens in
      let held = h whole (omega (arith, did.survives.clean, clean)) (λ _. put.0) in
      let still = put_still from to (kept_in from lists) held.stored (did.stays clean) opens in
      keeps_still from to lists held opens still.0 still.1)
    where
      in_doubt : (fault : StoreFault) → Checks g old new (Err fault) → new.failures ≡ 0
          → (IsTrue new.in_doubt → IsTrue to.is_open) → IsTrue to.is_open
      in_doubt Memory did none sure = sure (did.doubt refl).2
      in_doubt Device did none sure = absurd (blamed (did.blames refl) did.counts none)
        where
          blamed : MoreFailures old.failures new.failures ⊎ (0 < old.failures) → old.failures ≤ new.failures
              → new.failures ≡ 0 → ⊥
          blamed (inl more) counts none = omega (arith, more, none)
          blamed (inr some) counts none = omega (arith, some, counts, none)

  -- where memory is wanting, an open connection sees what it saw
  pub seen_unchecked : (fault : StoreFault) → Checks g old new (Err fault) → fault ≡ Memory → HasCleanDisk to
      → IsTrue to.is_open → ∥ to.now ≡ from.now ∥₁
  seen_unchecked fault did memory clean opens = ∥∥₁_map (known (did.doubt memory).0) (λ h.
      let held = h (omega (arith, did.survives.clean, clean)) (did.stays clean opens).0 in
      (put_still from to (kept_in from lists) held.stored (did.stays clean) opens).0)

  pub told_checked : {r : Result (Unit {0}) StoreFault} → Checks g old new r → ∥ (HasCleanDisk from → LeavesSound from) ∥₁
      → ∥ (HasCleanDisk to → LeavesSound to) ∥₁
  told_checked did told = told_still from to (λ _. ⊥) did.survives told ∣ (λ _ db none. none) ∣₁

  pub looks_checked : {r : Result (Unit {0}) StoreFault} → Checks g old new r → old.failures ≡ 0 → LooksOn from to lists lists
  looks_checked did none = looks_on from to (λ _. ⊥) did.survives lists
      (known none) ∣ did.stays ∣₁
      ∣ (λ _ db none. none) ∣₁

  -- a store that had failed is not checked
  looks_anyhow : {r : Result (Unit {0}) StoreFault} → Checks g old new r → (n : ℕ) → old.failures ≡ n
      → LooksOn from to lists lists
  looks_anyhow did zero is = looks_checked did is
  looks_anyhow did (suc n) is = subst (λ (s : Session S g). LooksOn from (state g s.conn) lists lists)
      (sym (did.broken (omega (arith, is))).1) (looks_same from lists)

  pub looks_unchecked : (fault : StoreFault) → Checks g old new (Err fault) → LooksOn from to lists lists
  looks_unchecked fault did = looks_anyhow did old.failures refl

pub looks_then : (s0 s1 s2 : State) (first was last : Content) → LooksOn s0 s1 first was → LooksOn s1 s2 was last
    → LooksOn s0 s2 first last
looks_then s0 s1 s2 first was last one two = record {
  clean = λ clean. one.clean (two.clean clean);
  opens = λ clean opens. let calm = two.clean clean in one.opens calm (two.opens clean opens);
  same = λ (clean, opens). two.same (clean, opens) ∙ one.same (two.clean clean, two.opens clean opens);
  crash = λ c may. one.crash c (two.crash c may);
}

-- ---- a connection that is asked

-- nothing failed that is not counted, so the connection is open
pub opens_if : (why : Option Unmade) (failures : ℕ) (in_doubt opens : Bool) → failures ≡ failures_after why 0
    → in_doubt ≡ doubt_after why false → failures ≡ 0 → (IsTrue in_doubt → IsTrue opens)
    → (LeavesOpen why → IsTrue opens) → IsTrue opens
opens_if None failures in_doubt opens counted kept none sure leaves = leaves tt
opens_if (Some unmade.Memory) failures in_doubt opens counted kept none sure leaves = leaves tt
opens_if (Some unmade.Doubt) failures in_doubt opens counted kept none sure leaves = sure kept
opens_if (Some unmade.Device) failures in_doubt opens counted kept none sure leaves =
    absurd (let h : ⊥ = omega (arith, counted, none) in h)

module _ {S : Type 0} (g : Ghosts S) (old new : Held S) (was : Content) (why : Option Unmade)
    (asks : Asks g old new was why)
    (held : ∥ (HasCleanDisk (state g old) → IsKept (state g old) was) ∥₁) where
  abbrev asked_from : State
  asked_from = state g old

  abbrev asked_to : State
  asked_to = state g new

  calm : HasCleanDisk asked_to → HasCleanDisk asked_from
  calm clean = omega (arith, asks.survives.clean, clean)

  pub opens_asked : HasCleanDisk asked_to → LeavesOpen why → IsTrue asked_to.is_open
  opens_asked clean leaves = ∥∥₁_elim held (truth_prop asked_to.is_open) (λ h. asks.opens clean (h (calm clean)) leaves)

  pub seen_asked : HasCleanDisk asked_to → IsTrue asked_to.is_open → ∥ asked_to.now ≡ asked_from.now ∥₁
  seen_asked clean opens = ∥∥₁_map held (λ h.
      let k = (h (calm clean)) in (put_still asked_from asked_to (kept_in asked_from was) k.stored (asks.stays clean k) opens).0)

  -- what was kept is kept with these lists, if they have a part of what the tables have still
  pub keeps_asked : (failures : ℕ) (in_doubt : Bool) (lists : Content) → failures ≡ failures_after why 0
      → in_doubt ≡ doubt_after why false
      → (HasCleanDisk asked_to → IsKept asked_from was → IsTrue asked_to.is_open → asked_to.now ≡ asked_from.now
      → asked_to.committed ≡ asked_from.committed → IsKept asked_to lists)
      → ∥ (failures ≡ 0 → HasCleanDisk asked_to → (IsTrue in_doubt → IsTrue asked_to.is_open)
      → IsKept asked_to lists) ∥₁
  keeps_asked failures in_doubt lists counted doubt still = ∥∥₁_map held (λ h none clean sure.
      let k = h (calm clean) in
      let opens = opens_if why failures in_doubt asked_to.is_open counted doubt none sure (asks.opens clean k) in
      let put = put_still asked_from asked_to (kept_in asked_from was) k.stored (asks.stays clean k) opens in
      still clean k opens put.0 put.1)

  pub told_asked : ∥ (HasCleanDisk asked_from → LeavesSound asked_from) ∥₁ → ∥ (HasCleanDisk asked_to → LeavesSound asked_to) ∥₁
  told_asked told = told_kept_still asked_from asked_to asks.survives was held told

-- and of a session that was blamed since
pub asks_blamed : {S : Type 0} {g : Ghosts S} {old : Held S} {last now : Session S g} {why : Unmade} {fault : StoreFault}
    (was : Content) → Blames last now why fault → Asks g old last.conn was (Some why) → Asks g old now.conn was (Some why)
asks_blamed {S} {g} {old} {last} {now} {why} was blames asks =
    subst (λ (h : Held S). Asks g old h was (Some why)) (sym blames.conn) asks

-- it failed since it was checked, so it failed since before
module _ {S : Type 0} {g : Ghosts S} (before mid : Session S g) (now : Held S) (was : Content)
    (why : Option Unmade) (checks : Checks g before mid (Ok tt)) (asks : Asks g mid.conn now was why)
    (held : ∥ (HasCleanDisk (state g mid.conn) → IsKept (state g mid.conn) was) ∥₁) where
  since : HasFailed (state g mid.conn) (state g now)
      → HasFailed (state g before.conn) (state g now) ⊎ ((state g before.conn).is_open ≡ false)
  since (inl more) = inl (inl (omega (arith, checks.survives.counts, more)))
  since (inr limit) = inl (inr (subst IsSome checks.survives.limit limit))

  pub failed_asked : HasCleanDisk (state g now) → why ≡ Some unmade.Device
      → ∥ HasFailed (state g before.conn) (state g now) ⊎ ((state g before.conn).is_open ≡ false) ∥₁
  failed_asked clean is = ∥∥₁_map held (λ h.
      since (asks.failed clean (h (omega (arith, asks.survives.clean, clean))) is))

-- a store before its connection was asked and after, and why what is asked is not done, if it is not
pub record Asked {S : Type 0} {g : Ghosts S} (before now : TableStore S g) (why : Option Unmade) : Type 0 where
  pub none : before.session.failures ≡ 0
  pub failures : now.session.failures ≡ failures_after why 0
  pub in_doubt : now.session.in_doubt ≡ doubt_after why false
  pub looks : LooksOn (state_of before) (state_of now) (content_of before.lists) (content_of now.lists)
  pub opens : HasCleanDisk (state_of now) → LeavesOpen why → IsTrue (state_of now).is_open
  pub failed : HasCleanDisk (state_of now) → why ≡ Some unmade.Device
      → ∥ HasFailed (state_of before) (state_of now) ⊎ ((state_of before).is_open ≡ false) ∥₁

module _ {S : Type 0} {g : Ghosts S} (before now : TableStore S g) (mid : Session S g) (was : Content)
    (why : Option Unmade) (checks : Checks g before.session mid (Ok tt))
    (asks : Asks g mid.conn now.session.conn was why)
    (held : ∥ (HasCleanDisk (state g mid.conn) → IsKept (state g mid.conn) was) ∥₁) where
  pub asked : now.session.failures ≡ failures_after why 0 → now.session.in_doubt ≡ doubt_after why false
      → LooksOn (state g mid.conn) (state_of now) (content_of before.lists) (content_of now.lists) → Asked before now why
  asked failures in_doubt later = record {
    none = checks.whole.0;
    failures = failures;
    in_doubt = in_doubt;
    looks = looks_then (state_of before) (state g mid.conn) (state_of now) (content_of before.lists)
        (content_of before.lists) (content_of now.lists)
        (looks_checked before.session mid (content_of before.lists) before.stored checks checks.whole.0)
        later;
    opens = opens_asked g mid.conn now.session.conn was why asks held;
    failed = failed_asked before.session mid now.session.conn was why checks asks held;
  }

-- none is no more than any
pub none_less : (before now : ℕ) → before ≡ 0 → before ≤ now
none_less before now none = omega (arith, none)

-- ---- faults

pub device_is : (why : Unmade) → fault_of why ≡ Device → why ≡ unmade.Device
device_is unmade.Memory is = absurd (let h : ⊥ = cc is in h)
device_is unmade.Doubt is = absurd (let h : ⊥ = cc is in h)
device_is unmade.Device is = refl

-- of a store in which nothing had failed a failure of the device is counted, and no other
pub counts_device : (why : Unmade) (before now : ℕ) → before ≡ 0 → now ≡ failures_after (Some why) 0
    → fault_of why ≡ Device → MoreFailures before now
counts_device unmade.Memory before now none is device = absurd (let h : ⊥ = cc device in h)
counts_device unmade.Doubt before now none is device = absurd (let h : ⊥ = cc device in h)
counts_device unmade.Device before now none is device = omega (arith, none, is)

pub counts_none : (why : Unmade) (before now : ℕ) → before ≡ 0 → now ≡ failures_after (Some why) 0
    → fault_of why ≡ Memory → now ≡ before
counts_none unmade.Memory before now none is memory = is ∙ sym none
counts_none unmade.Doubt before now none is memory = is ∙ sym none
counts_none unmade.Device before now none is memory = absurd (let h : ⊥ = cc memory in h)

pub mild_opens : (why : Unmade) (in_doubt : Bool) (W : Type 0) → in_doubt ≡ doubt_after (Some why) false
    → IsMild (W × (in_doubt ≡ false)) (fault_of why) → LeavesOpen (Some why)
mild_opens unmade.Memory in_doubt W is mild = tt
mild_opens unmade.Doubt in_doubt W is mild = absurd (true≢false (sym is ∙ (mild.1 refl).1))
mild_opens unmade.Device in_doubt W is mild = absurd (mild.0 refl)

pub sure_opens : (why : Unmade) (in_doubt : Bool) → in_doubt ≡ doubt_after (Some why) false → fault_of why ≡ Memory
    → in_doubt ≡ false → LeavesOpen (Some why)
sure_opens unmade.Memory in_doubt is memory sure = tt
sure_opens unmade.Doubt in_doubt is memory sure = absurd (true≢false (sym is ∙ sure))
sure_opens unmade.Device in_doubt is memory sure = absurd (let h : ⊥ = cc memory in h)

-- ---- what a call does that reads

module _ {S : Type 0} {g : Ghosts S} {T : Type 0} (before now : TableStore S g) (IsRight : T → Type 0) where
  abbrev Reads : Result T StoreFault → Type 0
  Reads result = ReadsStore {S = TableStore S g} (λ store. CanRead (state_of store)) kept_by
      (λ store. store.session.failures) (λ store c. HasCleanDisk (state_of store) × MayLeave (state_of store) c)
      (λ store. HasCleanDisk (state_of store)) (λ store. IsWhole store.session)
      (λ old new. ∥ HasFailed (state_of old) (state_of new) ⊎ ((state_of old).is_open ≡ false) ∥₁)
      before now result IsRight

  pub reads_ok : (v : T) → Asked before now None → (CanRead (state_of now) → IsRight v) → Reads (Ok v)
  reads_ok v did right = record {
    right = right;
    same = did.looks.same;
    crash = did.looks.crash;
    blames = tt;
    broken = λ some. absurd (let none = did.none in let h : ⊥ = omega (arith, none, some) in h);
    counts = let none = did.none in omega (arith, none);
    still = did.failures ∙ sym did.none;
    steady = tt;
    caused = λ _ _. tt;
    honest = λ (clean, opens). (did.looks.clean clean, did.looks.opens clean opens);
    clean = did.looks.clean;
    stays_honest = λ _ clean _. (clean, did.opens clean tt);
    whole = λ _. (did.failures, did.in_doubt);
  }

  pub reads_err : (fault : StoreFault) (why : Unmade) → fault ≡ fault_of why → Asked before now (Some why)
      → Reads (Err fault)
  reads_err fault why is did = record {
    right = λ _. tt;
    same = did.looks.same;
    crash = did.looks.crash;
    blames = λ device. inl (counts_device why before.session.failures now.session.failures did.none did.failures
        (sym is ∙ device));
    broken = λ some. absurd (let none = did.none in let h : ⊥ = omega (arith, none, some) in h);
    counts = let none = did.none in omega (arith, none);
    still = tt;
    steady = λ memory. counts_none why before.session.failures now.session.failures did.none did.failures
        (sym is ∙ memory);
    caused = λ _ clean device. did.failed clean (ap Some (device_is why (sym is ∙ device)));
    honest = λ (clean, opens). (did.looks.clean clean, did.looks.opens clean opens);
    clean = did.looks.clean;
    stays_honest = λ _ clean mild. (
      clean,
      did.opens clean (mild_opens why now.session.in_doubt (now.session.failures ≡ 0) did.in_doubt
          (subst (IsMild (IsWhole now.session)) is mild)),
    );
    whole = tt;
  }

err_device : {r : Result (Unit {0}) StoreFault} (fault : StoreFault) → r ≡ Err Device → r ≡ Err fault → fault ≡ Device
err_device fault device is = let same = sym is ∙ device in cc same

-- where the check failed
module _ {S : Type 0} {g : Ghosts S} (before now : Session S g) (fault : StoreFault)
    (did : Checks g before now (Err fault)) where
  pub mild_never : IsMild (IsWhole now) fault → ⊥
  mild_never mild = go fault refl mild
    where
      go : (f : StoreFault) → fault ≡ f → IsMild (IsWhole now) fault → ⊥
      go Memory is mild = true≢false (sym (did.doubt is).2 ∙ (mild.1 is).1)
      go Device is mild = mild.0 is

  pub shut_unchecked : HasCleanDisk (state g now.conn) → before.failures ≡ 0 → fault ≡ Device
      → ∥ HasFailed (state g before.conn) (state g now.conn) ⊎ ((state g before.conn).is_open ≡ false) ∥₁
  shut_unchecked clean none device = shut_so (state g before.conn) (state g now.conn) (did.shut clean none device)

pub reads_unchecked : {S T : Type 0} {g : Ghosts S} (before now : TableStore S g) (fault : StoreFault)
    → Checks g before.session now.session (Err fault) → (IsRight : T → Type 0)
    → LooksOn (state_of before) (state_of now) (content_of before.lists) (content_of now.lists)
    → Reads before now IsRight (Err fault)
reads_unchecked before now fault did IsRight looks = record {
  right = λ _. tt;
  same = looks.same;
  crash = looks.crash;
  blames = did.blames;
  broken = λ some. ap Err (err_device fault (did.broken some).0 refl);
  counts = did.counts;
  still = tt;
  steady = λ memory. let it = did.doubt memory in it.1 ∙ sym it.0;
  caused = λ none clean. shut_unchecked before.session now.session fault did clean none;
  honest = λ (clean, opens). (looks.clean clean, looks.opens clean opens);
  clean = looks.clean;
  stays_honest = λ _ clean mild. absurd (mild_never before.session now.session fault did mild);
  whole = tt;
}
