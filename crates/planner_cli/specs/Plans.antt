-- What a stream makes of the plans.
use Rattle.std.specs.Prelude.{◌≡◌, ◌⊎◌, ℕ, ◌≤◌, All, List, [], ◌∷◌, ◌++◌, IfErr, IfOk, OnOk, Option, Result, Some}
use Rattle.external_dependencies.specs.declared.rows.PlacedRow.{PlacedRow}
use Rattle.planner_machine.specs.Content.{Content, IsOnlyAt}
use Rattle.planner_machine.specs.Sound.{IsSound}
use Rattle.planner_machine.specs.Statement.{Answer, Statement}
use Rattle.planner_machine.specs.Stream.{Goes, IsStatement, Lives, Runs}
use Rattle.planner_cli_stream.specs.Items.{Item}
use Rattle.planner_cli.specs.Requests.{AreAsked}
use Rattle.planner_cli.specs.Faults.{IsMildCause, cause_of, fault_line}
use Rattle.planner_cli.specs.Runs.{Crashed, Ends, Ran, Stopped, with_last}
use Rattle.planner_cli.specs.Steps.{Step}
use Rattle.planner_cli.specs.Stores.{IsBlamed, LeavesOnly}
use Rattle.planner_cli.specs.declared.faults.Cause.TheVariants.{Device}
use Rattle.planner_cli.specs.declared.faults.FaultSource.TheVariants.{Store}
use Rattle.planner_cli.specs.declared.faults.RunFault.{RunFault}
use Rattle.planner_cli.specs.declared.tally.Tally.{Tally}

-- the statements that the items are lead from one content to the other
pub record LeadsTo (items : List Item) (c c' : Content) : Type 0 where
  pub stream : List Statement
  pub answers : List Answer
  pub asked : AreAsked items stream
  pub well_formed : All IsStatement stream
  pub run : Runs stream c answers c'
  -- what is left is sound
  pub sound : IsSound c'
  -- and each serial issued by then is in exactly one place, where its fates put it: from where it was before, or from
  -- where it was made on the way
  pub placed : (serial : ℕ) → 1 ≤ serial → serial ≤ c'.sets.issued
      → (q : PlacedRow) × IsOnlyAt c'.sets serial q
      × (((p : PlacedRow) × IsOnlyAt c.sets serial p × Goes stream answers c c' run p q)
      ⊎ Lives stream answers c c' run serial q)

-- a run of the planner to the end of a stream: the statements that its items are lead to what is left
pub record RanPlan (ends : Ends) (tally : Tally) : Type 0 where
  pub ran : Ran Step ends tally
  pub leads : LeadsTo ran.items ends.before ends.after

-- the acknowledged items: those that are done, or these and the one in progress
abbrev pub AreAnswered : List Item → Option Item → List Item → Type 0
AreAnswered done hand items = (items ≡ done) ⊎ ((item : Item) × (hand ≡ Some item) × (items ≡ done ++ item ∷ []))

-- a run of the planner that a fault ended: the statements of the acknowledged items lead to what is left
pub record StoppedPlan (ends : Ends) (fault : RunFault) : Type 0 where
  pub stopped : Stopped Step fault_line ends fault
  pub items : List Item
  pub are_answered : AreAnswered stopped.done stopped.hand items
  pub leads : LeadsTo items ends.before ends.after

-- the same if nothing is said of what the store has then: the items before the fault are acknowledged, what was
-- written begins with their replies, and their statements lead to a content between
pub record RepliedPlan (ends : Ends) (fault : RunFault) : Type 0 where
  pub last : Content
  pub stopped : Stopped Step fault_line (with_last ends last) fault
  pub leads : LeadsTo stopped.done ends.before stopped.between

-- a run of the planner that a fault ended, and what a crash may leave then: the statements of at least the
-- acknowledged items lead to it. Nothing is said of what the store has then
pub record CrashedPlan (ends : Ends) (fault : RunFault) (left : Content) : Type 0 where
  pub crashed : Crashed Step fault_line ends fault left
  pub items : List Item
  pub are_answered : AreAnswered crashed.stopped.done crashed.stopped.hand items
  pub leads : LeadsTo items ends.before left

-- the headline: what a run does between its two ends, over a store as it was before and as it is now
pub record RunsPlan {S : Type 0} (is_honest : S → Type 0) (failures : S → ℕ) (may_leave : S → Content → Type 0)
    (is_clean is_whole : S → Type 0) (before now : S) (ends : Ends) (result : Result Tally RunFault) : Type 0 where
  -- what the replies print is what was written, and nothing else; and the statements of the items lead to what the
  -- store keeps, which is sound, with each occurrence where its fates put it
  pub ran : is_honest now → IfOk result (RanPlan ends)
  -- after a fault the writer has the replies to the items before it, whatever happened to the store
  pub replied : is_honest before → is_clean now → IfErr result (RepliedPlan ends)
  -- and of a store that is still honest the same holds as after a whole run, of the acknowledged items
  pub fault : is_honest now → IfErr result (StoppedPlan ends)
  -- if a crash before the run would have left the content alone, it leaves the new content alone after `Ok`
  pub settled : is_honest now → LeavesOnly (may_leave before) ends.before
      → OnOk result (LeavesOnly (may_leave now) ends.after)
  -- and after a fault the content after the acknowledged statements, or after the one in progress too, whatever
  -- happened to the store
  pub crash : is_honest before → LeavesOnly (may_leave before) ends.before
      → IfErr result (λ fault. (left : Content) → may_leave now left → CrashedPlan ends fault left)
  -- the store is blamed only where its device failed, in this run or before
  pub blames : IfErr result (λ fault. cause_of fault ≡ Device Store → IsBlamed (failures before) (failures now))
  pub counts : failures before ≤ failures now
  pub honest : is_honest now → is_honest before
  -- the same of what its device gave, whatever the store made of it
  pub clean : is_clean now → is_clean before
  -- an honest store stays honest if its device gave no wrong answer, unless the run blames it; and where memory was
  -- refused, if nothing of its device is in doubt
  pub stays_honest : is_honest before → is_clean now
      → IfErr result (λ fault. IsMildCause (is_whole now) (cause_of fault)) → is_honest now
  -- and a run that came to its end leaves the store as whole as it was
  pub whole : OnOk result (is_whole before → is_whole now)
