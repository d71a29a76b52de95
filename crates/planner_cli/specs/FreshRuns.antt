-- Runs that leave fresh content: the long-term plan from the plan end on is then what the calendars name.
use Rattle.std.specs.Prelude.{◌≡◌, ◌⊎◌, ℕ, List, [], ◌∷◌, None, Option, Some, true}
use Rattle.planner_machine.specs.Content.{Content}
use Rattle.planner_machine.specs.Fresh.{IsFresh, IsRepeated, Redefines}
use Rattle.planner_machine.specs.Sound.{IsSound}
use Rattle.planner_machine.specs.Statement.{Change, Create, Job, ModifyAll, Statement}
use Rattle.planner_cli_stream.specs.Items.{Item}
use Rattle.planner_cli.specs.Requests.{Asks}
use Rattle.planner_cli.specs.Faults.{fault_line}
use Rattle.planner_cli.specs.Meaning.{Answers}
use Rattle.planner_cli.specs.Replies.{AnswerLines, is_accepted}
use Rattle.planner_cli.specs.Runs.{Crashed, Ends, Ran, Stopped, ends_of}
use Rattle.planner_cli.specs.Steps.{Step}
use Rattle.planner_cli.specs.declared.faults.RunFault.{RunFault}
use Rattle.planner_cli.specs.declared.tally.Tally.{Tally}

-- the changes that make the whole long-term plan anew
abbrev pub MakesPlan : Change → Type 0
MakesPlan change = ((from : ℕ) × (to : ℕ) × (change ≡ Create from to)) ⊎ (change ≡ ModifyAll)

-- where the content is c, the item is `ltp-create` or `ltp-modify-all`, its job is not kept yet, and its reply accepts it
pub record PlansAnew (item : Item) (c : Content) (reply : AnswerLines) : Type 0 where
  pub number : ℕ
  pub text : List ℕ
  pub change : Change
  pub asks : Asks item (Some (Job number text change))
  pub plans : MakesPlan change
  pub unknown : c.jobs number ≡ None
  pub accepted : is_accepted reply ≡ true

-- where the content is c, the item adds and removes no definition: if it is `define` or `undefine`, it is not
-- accepted, or a kept job gives its reply
abbrev pub LeavesDefinitions : Item → Content → AnswerLines → Type 0
LeavesDefinitions item c reply = (s : Statement) → Asks item (Some s) → Redefines s → is_accepted reply ≡ true
    → IsRepeated s c

-- so does each of the items
abbrev pub KeepsDefinitions : (items : List Item) (replies : List AnswerLines) (c c' : Content)
    → Answers Step c items replies c' → Type 0
KeepsDefinitions [] replies c c' run = Unit {0}
KeepsDefinitions (item ∷ items) replies c c' run =
    LeavesDefinitions item c run.0 × KeepsDefinitions items run.1 run.2 c' run.5

-- one of the items makes the plan anew, and none after it adds or removes a definition
abbrev pub MakesFresh : (items : List Item) (replies : List AnswerLines) (c c' : Content)
    → Answers Step c items replies c' → Type 0
MakesFresh [] replies c c' run = ⊥
MakesFresh (item ∷ items) replies c c' run =
    (PlansAnew item c run.0 × KeepsDefinitions items run.1 run.2 c' run.5)
    ⊎ MakesFresh items run.1 run.2 c' run.5

-- the items lead to fresh content: one of them makes the plan anew, or the content was fresh before; and after that
-- none adds or removes a definition
abbrev pub LeadsFresh : (items : List Item) (replies : List AnswerLines) (c c' : Content)
    → Answers Step c items replies c' → Type 0
LeadsFresh items replies c c' run =
    MakesFresh items replies c c' run ⊎ (IsFresh c × KeepsDefinitions items replies c c' run)

-- over sound content, whatever was there before
abbrev pub ItemsLeaveFresh : Type 0
ItemsLeaveFresh =
    (items : List Item) (replies : List AnswerLines) (c c' : Content) → IsSound c
    → (run : Answers Step c items replies c') → LeadsFresh items replies c c' run → IsFresh c'

-- a run to the end of a stream
abbrev pub RunLeavesFresh : Type 0
RunLeavesFresh =
    (ends : Ends) (tally : Tally) → IsSound ends.before → (ran : Ran Step ends tally)
    → LeadsFresh ran.items ran.replies ends.before ends.after ran.answers → IsFresh ends.after

-- the item in progress, if there is one, is neither `define` nor `undefine`
abbrev pub KeepsInProgress : Option Item → Type 0
KeepsInProgress hand = (item : Item) (s : Statement) → hand ≡ Some item → Asks item (Some s) → Redefines s → ⊥

-- a run that a fault ended: what the acknowledged items left is fresh; and so is what the run left, unless the item in
-- progress may have changed a definition
abbrev pub FaultLeavesFresh : Type 0
FaultLeavesFresh =
    (c c' : Content) (written written' read : Option (List ℕ)) (fault : RunFault) → IsSound c
    → (stopped : Stopped Step fault_line (ends_of c c' written written' read) fault)
    → LeadsFresh stopped.done stopped.replies c stopped.between stopped.answers
    → IsFresh stopped.between × (KeepsInProgress stopped.hand → IsFresh c')

-- and what a crash left then
abbrev pub CrashLeavesFresh : Type 0
CrashLeavesFresh =
    (c c' left : Content) (written written' read : Option (List ℕ)) (fault : RunFault) → IsSound c
    → (crashed : Crashed Step fault_line (ends_of c c' written written' read) fault left)
    → LeadsFresh crashed.stopped.done crashed.stopped.replies c crashed.stopped.between crashed.stopped.answers
    → KeepsInProgress crashed.stopped.hand → IsFresh left
