-- What a call that replies to an item does to a store and a writer.
use Rattle.std.specs.Prelude.{◌≡◌, ◌⊎◌, ◌++◌, ℕ, ◌≤◌, Bool, Err, IfErr, IfOk, List, Ok, OnErr, OnOk, Option, Result}
use Rattle.std.specs.Io.KnownBytes.{Appends, Keeps}
use Rattle.plan_store.specs.declared.stores.PlanStore.{Ghosts}
use Rattle.plan_store.specs.declared.stores.StoreFault.{StoreFault}
use Rattle.planner_machine.specs.Content.{Content}
use Rattle.planner_cli_stream.specs.Items.{Item}
use Rattle.planner_cli.specs.Faults.{IsMildCause, store_cause}
use Rattle.planner_cli.specs.Replies.{Answered, AnswerLines}
use Rattle.planner_cli.specs.Runs.{IsFrontOf, ItemBreaks}
use Rattle.planner_cli.specs.Steps.{Step}
use Rattle.planner_cli.specs.Stores.{IsBlamed, LeavesOwn}
use Rattle.planner_cli.specs.declared.answers.Printed.{Printed}
use Rattle.planner_cli.specs.declared.faults.Cause.{Cause}
use Rattle.planner_cli.specs.declared.faults.Cause.TheVariants.{Device}
use Rattle.planner_cli.specs.declared.faults.FaultSource.TheVariants.{Store, Writer}

-- an item gets its reply by a step of the planner, and what the reply prints is written; or a fault ends the run
pub record AnswersItem {S : Type 0} (g : Ghosts S) (before now : S) (old new : Option (List ℕ)) (item : Item)
    (result : Result Bool Cause) : Type 0 where
  pub ok : g.is_honest now → IfOk result (λ accepted. (text : List ℕ)
      × Answered (Step (g.content before) item) (g.content now) text accepted × Appends old new text)
  pub err : g.is_honest now
      → IfErr result (λ cause. ItemBreaks Step cause (g.content before) (g.content now) old new item)
  -- whatever happened to the store, the writer has what it may have
  pub replied : g.is_honest before → g.is_clean now
      → IfErr result (λ cause. (last : Content) × ItemBreaks Step cause (g.content before) last old new item)
  -- if a crash before would have left the content alone: after a reply a crash leaves the new content alone, and after
  -- a fault the old one, or that after the item
  pub settled : g.is_honest now → LeavesOwn g before → OnOk result (LeavesOwn g now)
  pub crash : g.is_honest before → g.is_clean now → LeavesOwn g before
      → OnErr result ((c : Content) → g.may_leave now c
      → (c ≡ g.content before) ⊎ ((reply : AnswerLines) × Step (g.content before) item reply c))
  pub blames : IfErr result (λ cause. cause ≡ Device Store → IsBlamed (g.failures before) (g.failures now))
  pub counts : g.failures before ≤ g.failures now
  pub honest : g.is_honest now → g.is_honest before
  pub clean : g.is_clean now → g.is_clean before
  pub stays_honest : g.is_honest before → g.is_clean now → IfErr result (IsMildCause (g.is_whole now))
      → g.is_honest now
  pub stays_whole : OnOk result (g.is_whole before → g.is_whole now)

-- a reply that was made is written, and this is whether it is accepted
abbrev pub IsWritten : Result Printed StoreFault → Option (List ℕ) → Option (List ℕ) → Bool → Type 0
IsWritten (Ok printed) old new accepted = Appends old new printed.text.items × (accepted ≡ printed.is_accepted)
IsWritten (Err fault) old new accepted = ⊥

-- a reply that was made is written in part, or none was made
abbrev pub IsUnwritten : Result Printed StoreFault → Option (List ℕ) → Option (List ℕ) → Cause → Type 0
IsUnwritten (Ok printed) old new cause =
    (cause ≡ Device Writer) × ((front : List ℕ) × IsFrontOf front printed.text.items × Appends old new front)
IsUnwritten (Err fault) old new cause = (cause ≡ store_cause fault) × Keeps old new

-- what was written in between ends with these bytes
abbrev pub EndsWith : Option (List ℕ) → Option (List ℕ) → List ℕ → Type 0
EndsWith old new bytes = (front : List ℕ) × Appends old new (front ++ bytes)
