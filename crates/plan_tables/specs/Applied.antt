-- What a store does as it is read, as it lists, and with a change.
use Rattle.std.specs.Prelude.{◌≡◌, ◌⊎◌, ◌≤◌, ℕ, List, Option, Result, IfErr, IfOk, OnOk}
use Rattle.planner_machine.specs.Content.{Content}
use Rattle.planner_machine.specs.Sound.{AreNumbered}
use Rattle.plan_store.specs.Faults.{IsMildListing, MoreFailures}
use Rattle.plan_store.specs.Listings.{EmitsAll, EmitsPart, IsListing, Shown}
use Rattle.plan_store.specs.Stores.{Applies, ReadsStore}
use Rattle.plan_store.specs.declared.changes.Change.{Change}
use Rattle.plan_store.specs.declared.listings.ListFault.{ListFault}
use Rattle.plan_store.specs.declared.listings.ListFault.TheVariants as list
use Rattle.plan_store.specs.declared.listings.What.{What}
use Rattle.plan_store.specs.declared.stores.PlanStore.{Ghosts}
use Rattle.plan_store.specs.declared.stores.StoreFault.{StoreFault}

-- a store before and after a change, and what the call returns
abbrev pub AppliesBy : {S : Type 0} → Ghosts S → (before now : S) → Change → Result (Unit {0}) StoreFault → Type 0
AppliesBy g = Applies g.is_honest g.content g.failures g.may_leave g.is_clean g.is_whole

-- a store before and after it is read, and what the call returns
abbrev pub ReadsBy : {S T : Type 0} → Ghosts S → (before now : S) → Result T StoreFault → (T → Type 0) → Type 0
ReadsBy g = ReadsStore g.is_honest g.content g.failures g.may_leave g.is_clean g.is_whole g.has_failed

-- a store before and after it lists, the sink before and after, and what the call returns
pub record ListsBy {S K : Type 0} (g : Ghosts S) (before now : S) (Accepts Refuses : K → Shown → K → Type 0) (old new : K)
    (what : What) (app : Option (List ℕ)) (result : Result ℕ ListFault) : Type 0 where
  pub all : g.is_honest now → AreNumbered (g.content before).sets
      → IfOk result (EmitsAll Accepts (IsListing what app (g.content before)) old new)
  pub part : g.is_honest before → g.is_honest now ⊎ g.is_clean now → AreNumbered (g.content before).sets
      → IfErr result (EmitsPart Accepts Refuses (IsListing what app (g.content before)) old new)
  pub same : g.is_honest now → g.content now ≡ g.content before
  pub crash : (c : Content) → g.may_leave now c → g.may_leave before c
  pub blames : IfErr result (λ fault. fault ≡ list.Device → MoreFailures (g.failures before) (g.failures now))
  pub counts : g.failures before ≤ g.failures now
  pub still : OnOk result (g.failures now ≡ g.failures before)
  pub steady : IfErr result (λ fault. fault ≡ list.Memory → g.failures now ≡ g.failures before)
  pub caused : g.is_clean now → IfErr result (λ fault. fault ≡ list.Device → g.has_failed before now)
  pub honest : g.is_honest now → g.is_honest before
  pub clean : g.is_clean now → g.is_clean before
  pub stays_honest : g.is_honest before → g.is_clean now → IfErr result (IsMildListing (g.is_whole now))
      → g.is_honest now
  pub whole : OnOk result (g.is_whole now)
