-- A stream that is run again from its start, on what a first part of it left.
use Rattle.std.specs.Prelude.{◌≡◌, ◌⊎◌, ℕ, zero, suc, List, ◌++◌, Option, Some, slice_get}
use Rattle.planner_machine.specs.Content.{Content}
use Rattle.planner_machine.specs.Rerun.{job_number}
use Rattle.planner_machine.specs.Sound.{IsSound}
use Rattle.planner_machine.specs.Statement.{Statement}
use Rattle.planner_cli_stream.specs.Items.{Item, items_of}
use Rattle.planner_cli.specs.Requests.{Asks}
use Rattle.planner_cli.specs.Faults.{fault_line}
use Rattle.planner_cli.specs.Meaning.{Answers}
use Rattle.planner_cli.specs.Replies.{AnswerLines}
use Rattle.planner_cli.specs.Runs.{Crashed, Ran, Stopped, ends_of}
use Rattle.planner_cli.specs.Steps.{Step}
use Rattle.planner_cli.specs.declared.faults.RunFault.{RunFault}
use Rattle.planner_cli.specs.declared.tally.Tally.{Tally}

-- at that place, counted from 0, is an item that is a statement with a job number
abbrev pub IsJobItem : List Item → ℕ → Type 0
IsJobItem items place =
    (item : Item) × (slice_get items place ≡ Some item)
    × ((s : Statement) × Asks item (Some s) × ((number : ℕ) × (job_number s ≡ Some number)))

-- wherever the items have one with a job number, it gets the same reply in both lists of replies
abbrev pub RepliesAgree : List Item → List AnswerLines → List AnswerLines → Type 0
RepliesAgree items replies again = (place : ℕ) → IsJobItem items place → slice_get again place ≡ slice_get replies place

-- one run gives these replies to the items from c: it leaves c', and each job gets the reply there that it has in
-- `again`. And there is no other: each such run leaves c', and gives each job that reply
pub record EndsAsOneRun (items : List Item) (c c' : Content) (again : List AnswerLines) : Type 0 where
  pub replies : List AnswerLines
  pub answers : Answers Step c items replies c'
  pub agree : RepliesAgree items replies again
  pub only : (others : List AnswerLines) (left : Content) → Answers Step c items others left
      → (left ≡ c') × RepliesAgree items others again

-- where the first items of a stream leave c1, and the whole stream is answered from its start on c1, it ends as one run
-- of the whole stream from c. Job numbers may come twice
abbrev pub RerunEndsAsOneRun : Type 0
RerunEndsAsOneRun =
    (first rest : List Item) (before again : List AnswerLines) (c c1 c' : Content) → IsSound c
    → Answers Step c first before c1 → Answers Step c1 (first ++ rest) again c'
    → EndsAsOneRun (first ++ rest) c c' again

-- a run over the text from c left this: it came to its end, or a fault ended it, or a crash after a fault did
abbrev pub IsEarlierRun : (text : List ℕ) (c left : Content) → Type 0
IsEarlierRun text c left =
    (after : Content) × (written : Option (List ℕ)) × (written' : Option (List ℕ))
    × (((tally : Tally) × Ran Step (ends_of c after written written' (Some text)) tally × (left ≡ after))
    ⊎ ((fault : RunFault)
    × ((Stopped Step fault_line (ends_of c after written written' (Some text)) fault × (left ≡ after))
    ⊎ Crashed Step fault_line (ends_of c after written written' (Some text)) fault left)))

-- there were so many runs over the text, the first from c, and each other on what the one before it left
abbrev pub AreEarlierRuns : (times : ℕ) (text : List ℕ) (c left : Content) → Type 0
AreEarlierRuns zero text c left = left ≡ c
AreEarlierRuns (suc times) text c left =
    (between : Content) × IsEarlierRun text c between × AreEarlierRuns times text between left

-- however many runs over a text there were, and however each ended, a run over it on what is left then ends as one run
-- from c
abbrev pub RerunAfterRuns : Type 0
RerunAfterRuns =
    (times : ℕ) (text : List ℕ) (c left c' : Content) (written written' : Option (List ℕ)) (tally : Tally) → IsSound c
    → AreEarlierRuns times text c left → (again : Ran Step (ends_of left c' written written' (Some text)) tally)
    → EndsAsOneRun (items_of text) c c' again.replies
