-- What a call that makes a reply does to a store.
use Rattle.std.specs.Prelude.{◌≡◌, ◌⊎◌, ℕ, ◌<◌, ◌≤◌, IfErr, IfOk, OnErr, OnOk, Result}
use Rattle.planner_machine.specs.Content.{Content}
use Rattle.planner_cli.specs.Replies.{Answered, AnswerLines}
use Rattle.planner_cli.specs.declared.answers.Printed.{Printed}
use Rattle.plan_store.specs.Faults.{IsMild, MoreFailures}
use Rattle.plan_store.specs.Stores.{ReadsStore}
use Rattle.plan_store.specs.declared.stores.PlanStore.{Ghosts}
use Rattle.plan_store.specs.declared.stores.StoreFault.{StoreFault}
use Rattle.plan_store.specs.declared.stores.StoreFault.TheVariants.{Device, Memory}

-- the device is blamed only where it failed, since then or before
abbrev pub IsBlamed : ℕ → ℕ → Type 0
IsBlamed before now = MoreFailures before now ⊎ (0 < before)

-- a crash that may leave these contents leaves this one, and no other
abbrev pub LeavesOnly : (Content → Type 0) → Content → Type 0
LeavesOnly may_leave c = (left : Content) → may_leave left → left ≡ c

-- a crash now leaves the content, and nothing else
abbrev pub LeavesOwn : {S : Type 0} → Ghosts S → S → Type 0
LeavesOwn g s = LeavesOnly (g.may_leave s) (g.content s)

-- a store before and after it is read
abbrev pub ReadsBy : {S T : Type 0} → Ghosts S → (before now : S) → Result T StoreFault → (T → Type 0) → Type 0
ReadsBy g = ReadsStore g.is_honest g.content g.failures g.may_leave g.is_clean g.is_whole g.has_failed

-- a store before and after a call, and what the call returns; of a change that it makes, what that would leave
pub record Answering {S T : Type 0} (g : Ghosts S) (before now : S) (result : Result T StoreFault)
    (Gives : T → Content → Type 0) (IsMade : Content → Type 0) : Type 0 where
  -- what an honest store returns is right for the content that it is left with
  pub answers : g.is_honest now → IfOk result (λ given. Gives given (g.content now))
  -- where memory is refused, its content stays
  pub unchanged : g.is_honest now → IfErr result (λ fault. fault ≡ Memory → g.content now ≡ g.content before)
  -- where the device fails, its content stays, or is that after the change
  pub whole : g.is_honest now → OnErr result ((g.content now ≡ g.content before) ⊎ IsMade (g.content now))
  -- where a crash before the call would have left the content alone: after a reply a crash leaves the new content
  -- alone, and after a fault the old one, or that after the change, whatever happened to the store
  pub settled : g.is_honest now → LeavesOwn g before → OnOk result (LeavesOwn g now)
  pub crash : g.is_honest before → g.is_clean now → LeavesOwn g before
      → OnErr result ((c : Content) → g.may_leave now c → (c ≡ g.content before) ⊎ IsMade c)
  pub blames : IfErr result (λ fault. fault ≡ Device → IsBlamed (g.failures before) (g.failures now))
  pub counts : g.failures before ≤ g.failures now
  pub honest : g.is_honest now → g.is_honest before
  pub clean : g.is_clean now → g.is_clean before
  pub stays_honest : g.is_honest before → g.is_clean now → IfErr result (IsMild (g.is_whole now)) → g.is_honest now
  pub stays_whole : OnOk result (g.is_whole before → g.is_whole now)

-- a call that answers by printing: the reply is one that this may give
abbrev pub AnswersBy : {S : Type 0} → Ghosts S → (before now : S) → Result Printed StoreFault
    → (AnswerLines → Content → Type 0) → Type 0
AnswersBy g before now result Does =
    Answering g before now result (λ printed c. Answered Does c printed.text.items printed.is_accepted)
    (λ c. (reply : AnswerLines) × Does reply c)

-- a call that looks and changes nothing: what it returns is right for the content, which stays
abbrev pub LooksBy : {S T : Type 0} → Ghosts S → (before now : S) → Result T StoreFault → (T → Content → Type 0) → Type 0
LooksBy g before now result IsRight =
    Answering g before now result (λ given c. IsRight given c × (c ≡ g.content before)) (λ c. ⊥)
