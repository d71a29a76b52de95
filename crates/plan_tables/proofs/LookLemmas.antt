-- A connection that is asked.
use Rattle.std.proofs.Common.{◌≡◌, ◌∙◌, ◌≤◌, ◌^◌, ℕ, Bool, Err, Ok, Result, false, None, Option, Some, inl, inr, arith, refl}
use Rattle.std.proofs.Math.Logic.{∥∥₁_elim, ∥∥₁_map}
use Rattle.std.specs.Prelude.{IfErr, IsTrue, OnOk}
use Rattle.sqlite.specs.State.{HasCleanDisk, State, Survives}
use Rattle.sqlite.specs.Tree.{Trees}
use Rattle.planner_machine.specs.Content.{Content}
use Rattle.planner_machine.specs.Sound.{IsSound}
use Rattle.planner_machine.specs.declared.job.Job.{Job}
use Rattle.plan_store.specs.Faults.{IsMild}
use Rattle.plan_store.specs.Stores.{ReadsStore}
use Rattle.plan_store.specs.declared.stores.StoreFault.{StoreFault}
use Rattle.plan_store.specs.declared.stores.StoreFault.TheVariants.{Device, Memory}
use Rattle.plan_tables_schema.specs.Rows.{StaysOrIsUndone}
use Rattle.plan_tables_schema.specs.Schema.{HasTables}
use Rattle.plan_tables_windows.specs.Fetching.{Grows}
use Rattle.plan_tables.specs.Kept.{CanRead, IsKept, LooksOn, StaysPut, kept_in}
use Rattle.plan_tables.specs.Stored.{LeavesSound, MayLeave}
use Rattle.plan_tables.proofs.CauseLemmas.{certain}
use Rattle.plan_tables.proofs.SetLemmas.{content_set, no_prop, truth_prop}
use Rattle.plan_tables.proofs.StoredLemmas.{kept_more, kept_still, put_still}

module _ (old new : State) (P : Trees → Type 0) (survives : Survives old new P) where
  before : HasCleanDisk new → HasCleanDisk old
  before clean = omega (arith, survives.clean, clean)

  -- it stays put and commits nothing
  pub looks_on : (lists : Content) → ∥ (HasCleanDisk old → IsTrue old.is_open → IsKept old lists) ∥₁
      → ∥ (HasCleanDisk new → StaysPut old new) ∥₁ → ∥ (HasCleanDisk old → (db : Trees) → P db → ⊥) ∥₁
      → LooksOn old new lists lists
  looks_on lists kept puts none = record {
    clean = before;
    opens = λ clean opens. ∥∥₁_elim puts (truth_prop old.is_open) (λ put. (put clean opens).0);
    same = λ (clean, opens). ∥∥₁_elim kept (content_set _ _) (λ h. ∥∥₁_elim puts (content_set _ _) (λ put.
        let was = h (before clean) (put clean opens).0 in
        kept_still old new lists (put_still old new (kept_in old lists) was.stored (put clean) opens).0));
    crash = λ c (clean, (db, left, is)). (
      before clean,
      (
        db,
        elim (survives.crash clean db left) [
          | inl was ↦ was
          | inr made ↦ absurd (∥∥₁_elim none no_prop (λ h. h (before clean) db made))
        ],
        is,
      ),
    );
  }

  -- what a crash leaves of it is sound as before
  pub told_still : ∥ (HasCleanDisk old → LeavesSound old) ∥₁ → ∥ (HasCleanDisk old → (db : Trees) → P db → ⊥) ∥₁
      → ∥ (HasCleanDisk new → LeavesSound new) ∥₁
  told_still told none = ∥∥₁_map told (λ h clean db left. elim (survives.crash clean db left) [
    | inl earlier ↦ h (before clean) db earlier
    | inr made ↦ absurd (∥∥₁_elim none no_prop (λ k. k (before clean) db made))
  ])

-- why a kept content is known: nothing failed, and the connection is known to be open
pub kept_sure : {A B C : Type 0} (doubt : Bool) (failures : ℕ) → doubt ≡ false → failures ≡ 0
    → ∥ (failures ≡ 0 → A → (IsTrue doubt → B) → C) ∥₁ → ∥ (A → C) ∥₁
kept_sure doubt failures sure whole h = ∥∥₁_map (certain doubt sure h) (λ f. f whole)

module _ (old new : State) (survives : Survives old new (λ _. HasTables old.now.schema → ⊥)) (lists : Content)
    (kept : ∥ (HasCleanDisk old → IsKept old lists) ∥₁) where
  none_made : ∥ (HasCleanDisk old → (db : Trees) → (HasTables old.now.schema → ⊥) → ⊥) ∥₁
  none_made = ∥∥₁_map kept (λ h clean db none. none (h clean).stored.plan.schema)

  pub looks_still : (HasCleanDisk new → IsKept old lists → StaysPut old new) → LooksOn old new lists lists
  looks_still puts = looks_on old new _ survives lists (∥∥₁_map kept (λ h clean _. h clean))
      (∥∥₁_map kept (λ h clean. puts clean (h (before old new _ survives clean)))) none_made

  pub told_kept_still : ∥ (HasCleanDisk old → LeavesSound old) ∥₁ → ∥ (HasCleanDisk new → LeavesSound new) ∥₁
  told_kept_still told = told_still old new _ survives told none_made

  -- and with lists that have more of the rest
  pub looks_more : (now : Content) → (HasCleanDisk new → IsKept old lists → StaysPut old new) → Grows lists now
      → LooksOn old new lists now
  looks_more now puts grows =
      let looks = looks_on old new _ survives lists (∥∥₁_map kept (λ h clean _. h clean))
      (∥∥₁_map kept (λ h clean. puts clean (h (before old new _ survives clean)))) none_made in
      record {
        clean = looks.clean;
        opens = looks.opens;
        same = λ can. kept_more new lists now grows ∙ looks.same can;
        crash = looks.crash;
      }

-- ---- what was asked

pub put_by : (old new : State) → StaysOrIsUndone old new → StaysPut old new
put_by old new (inl same) opens = (same.0.was_open, inl same.0.now_is, same.0.committed_is)
put_by old new (inr back) opens = let undone = back.undone opens in (back.was_open opens, inr undone.0, undone.1)

pub put_then : (old mid new : State) → StaysPut old mid → StaysPut mid new → StaysPut old new
put_then old mid new one two opens =
    let later = two opens in
    let first = one later.0 in (
      first.0,
      elim later.1 [
        | inl now ↦ elim first.1 [ inl was ↦ inl (now ∙ was) | inr back ↦ inr (now ∙ back) ]
        | inr back ↦ inr (back ∙ first.2)
      ],
      later.2 ∙ first.2,
    )

-- a connection that is not asked
pub unmoved : (s : State) (P : Trees → Type 0) → Survives s s P
unmoved s P = record {
  clean = omega arith;
  shield = λ h. h;
  counts = omega arith;
  limit = refl;
  closes = λ _ opens. inl opens;
  crash = λ _ _ left. inl left;
}

-- no job of a sound content has so great a number
pub none_so_great : (c : Content) (number : ℕ) → IsSound c → 2 ^ 63 ≤ number → c.jobs number ≡ None
none_so_great c number sound great = go (c.jobs number) refl
  where
    go : (o : Option Job) → c.jobs number ≡ o → c.jobs number ≡ None
    go None is = is
    go (Some job) is = let greatest = (sound.jobs number job is).greatest in absurd (let h : ⊥ = omega (arith, greatest, great) in h)

-- ---- what a call does that reads

-- an answer that comes of another
pub read_lent : {S T U : Type 0} {is_honest : S → Type 0} {content : S → Content} {failures : S → ℕ}
    {may_leave : S → Content → Type 0} {is_clean is_whole : S → Type 0} {has_failed : S → S → Type 0} (before now : S)
    (first : T) (second : U) (IsRight : T → Type 0) (IsLent : U → Type 0) → (IsRight first → IsLent second)
    → ReadsStore is_honest content failures may_leave is_clean is_whole has_failed before now (Ok first) IsRight
    → ReadsStore is_honest content failures may_leave is_clean is_whole has_failed before now (Ok second) IsLent
read_lent before now first second IsRight IsLent lent reads = record {
  right = λ honest. lent (reads.right honest);
  same = reads.same;
  crash = reads.crash;
  blames = tt;
  broken = λ some. absurd (let no : Ok first ≡ Err Device = reads.broken some in let h : ⊥ = cc no in h);
  counts = reads.counts;
  still = reads.still;
  steady = tt;
  caused = λ _ _. tt;
  honest = reads.honest;
  clean = reads.clean;
  stays_honest = reads.stays_honest;
  whole = reads.whole;
}

-- ---- faults after which a store is honest still

pub mild_open : {A : Type 0} (r : Result A StoreFault) (b doubt : Bool) (W : Type 0) → OnOk r (IsTrue b)
    → IfErr r (λ fault. fault ≡ Memory → doubt ≡ false → IsTrue b) → IfErr r (IsMild (W × (doubt ≡ false))) → IsTrue b
mild_open (Ok v) b doubt W opens memory mild = opens
mild_open (Err Memory) b doubt W opens memory mild = memory refl (mild.1 refl).1
mild_open (Err Device) b doubt W opens memory mild = absurd (mild.0 refl)

pub ok_since : {A E : Type 0} (r : Result A E) (P Q : Type 0) → (P → Q) → OnOk r P → OnOk r Q
ok_since (Ok v) P Q so h = so h
ok_since (Err e) P Q so h = tt

-- a store that was read looks on
pub looks_read : (old new : State) (was now : Content) → (CanRead new → kept_in new now ≡ kept_in old was)
    → ((c : Content) → HasCleanDisk new × MayLeave new c → HasCleanDisk old × MayLeave old c)
    → (CanRead new → CanRead old) → (HasCleanDisk new → HasCleanDisk old) → LooksOn old new was now
looks_read old new was now same crash honest clean = record {
  clean = clean;
  opens = λ calm opens. (honest (calm, opens)).1;
  same = same;
  crash = crash;
}
