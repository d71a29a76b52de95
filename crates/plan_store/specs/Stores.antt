-- What the calls of a store do.
use Rattle.std.specs.Prelude.{◌≡◌, ◌⊎◌, ℕ, ◌<◌, ◌≤◌, IfOk, IfErr, OnOk, OnErr, Result, Err}
use Rattle.std.specs.Borrow.{Fml, MutBor, RattleType}
use Rattle.std.specs.Io.BufRead.{Rests}
use Rattle.planner_machine.specs.Content.{Content}
use Rattle.plan_store.specs.Changes.{after}
use Rattle.plan_store.specs.Faults.{IsMild, MoreFailures}
use Rattle.plan_store.specs.declared.changes.Change.{Change}
use Rattle.plan_store.specs.declared.stores.StoreFault.{StoreFault}
use Rattle.plan_store.specs.declared.stores.StoreFault.TheVariants.{Device, Memory}

-- a store before and after it is read, and what the call returns
pub record ReadsStore {S T : Type 0} (is_honest : S → Type 0) (content : S → Content) (failures : S → ℕ)
    (may_leave : S → Content → Type 0) (is_clean is_whole : S → Type 0) (has_failed : S → S → Type 0) (before now : S)
    (result : Result T StoreFault) (IsRight : T → Type 0) : Type 0 where
  -- an honest store returns what is right, and its content stays
  pub right : is_honest now → IfOk result IsRight
  pub same : is_honest now → content now ≡ content before
  -- a crash leaves no other content than before, whatever happened to the store
  pub crash : (c : Content) → may_leave now c → may_leave before c
  -- the device is blamed only where it failed, then or before
  pub blames : IfErr result (λ fault. fault ≡ Device → MoreFailures (failures before) (failures now)
      ⊎ (0 < failures before))
  -- and once a failure is counted, no call returns anything else
  pub broken : 0 < failures before → result ≡ Err Device
  pub counts : failures before ≤ failures now
  -- an answer and want of memory are no failures
  pub still : OnOk result (failures now ≡ failures before)
  pub steady : IfErr result (λ fault. fault ≡ Memory → failures now ≡ failures before)
  -- what is read of a device that told no wrong answer is not blamed on it without a cause
  pub caused : failures before ≡ 0 → is_clean now → IfErr result (λ fault. fault ≡ Device → has_failed before now)
  pub honest : is_honest now → is_honest before
  pub clean : is_clean now → is_clean before
  -- an honest store stays honest if its device gave no wrong answer, unless the device is blamed or in doubt
  pub stays_honest : is_honest before → is_clean now → IfErr result (IsMild (is_whole now)) → is_honest now
  -- a store that returns a result is as whole as it was
  pub whole : OnOk result (is_whole before → is_whole now)

-- a reading call that lends its result: the store behind `lender` is so once the loan is given back
abbrev pub LendsRead : {T : Type 0} (R : RattleType) (is_honest : R.Denot → Type 0) (content : R.Denot → Content)
    (failures : R.Denot → ℕ) (may_leave : R.Denot → Content → Type 0) (is_clean is_whole : R.Denot → Type 0)
    (has_failed : R.Denot → R.Denot → Type 0) (before : R.Denot) (lender : MutBor R.Denot) → Result T StoreFault
    → (T → Type 0) → Fml
LendsRead R is_honest content failures may_leave is_clean is_whole has_failed before lender result IsRight =
    Rests R lender (λ now. ReadsStore is_honest content failures may_leave is_clean is_whole has_failed before now
    result IsRight)

-- a store before and after a change, and what the call returns
pub record Applies {S : Type 0} (is_honest : S → Type 0) (content : S → Content) (failures : S → ℕ)
    (may_leave : S → Content → Type 0) (is_clean is_whole : S → Type 0) (before now : S) (change : Change)
    (result : Result (Unit {0}) StoreFault) : Type 0 where
  -- `Ok` means that the change is made, and `Memory` that none of it is; whatever fails, it is made whole or not at
  -- all
  pub done : is_honest now → OnOk result (content now ≡ after change (content before))
  pub unchanged : is_honest now → IfErr result (λ fault. fault ≡ Memory → content now ≡ content before)
  pub whole : is_honest now → OnErr result ((content now ≡ content before)
      ⊎ (content now ≡ after change (content before)))
  -- what a crash may leave: after `Ok` the content alone, and otherwise, whatever happened to the store, at most the
  -- new content and what it might have left before
  pub settled : is_honest now → OnOk result ((c : Content) → may_leave now c → c ≡ content now)
  pub crash : is_honest before → (c : Content) → may_leave now c
      → may_leave before c ⊎ (c ≡ after change (content before))
  -- the device is blamed only where it failed, then or before
  pub blames : IfErr result (λ fault. fault ≡ Device → MoreFailures (failures before) (failures now)
      ⊎ (0 < failures before))
  -- and once a failure is counted, no call returns anything else
  pub broken : 0 < failures before → result ≡ Err Device
  pub counts : failures before ≤ failures now
  -- an answer and want of memory are no failures
  pub still : OnOk result (failures now ≡ failures before)
  pub steady : IfErr result (λ fault. fault ≡ Memory → failures now ≡ failures before)
  pub honest : is_honest now → is_honest before
  pub clean : is_clean now → is_clean before
  -- an honest store stays honest if its device gave no wrong answer, unless the device is blamed or in doubt
  pub stays_honest : is_honest before → is_clean now → IfErr result (IsMild (is_whole now)) → is_honest now
  -- a store that returns a result is as whole as it was
  pub stays_whole : OnOk result (is_whole before → is_whole now)
