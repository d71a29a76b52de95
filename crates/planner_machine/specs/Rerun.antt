-- A stream that is run again from its start, on the content that a first part of it left.
use Rattle.std.specs.Prelude.{◌≡◌, ℕ, List, ◌++◌, All, Option, Some, None, slice_get}
use Rattle.planner_machine.specs.Content.{Content}
use Rattle.planner_machine.specs.Sound.{IsSound}
use Rattle.planner_machine.specs.Statement.{Answer, DefineJob, Job, Statement}
use Rattle.planner_machine.specs.Stream.{IsStatement, Runs}

-- the job number of a statement: days, lists and trials have none
abbrev pub job_number : Statement → Option ℕ
job_number (DefineJob number text kind given) = Some number
job_number (Job number text change) = Some number
job_number statement = None

-- at that place of the stream, counted from 0, is a statement with that job number
abbrev pub IsJobAt : List Statement → (place number : ℕ) → Type 0
IsJobAt stream place number = (s : Statement) × (slice_get stream place ≡ Some s) × (job_number s ≡ Some number)

-- wherever the stream has a statement with a job number, it has the same reply in both lists of replies
abbrev pub AnswersAgree : List Statement → List Answer → List Answer → Type 0
AnswersAgree stream answers again = (place number : ℕ) → IsJobAt stream place number
    → slice_get again place ≡ slice_get answers place

-- where a first part of a stream leaves c1, and the whole stream is run from its start on c1, it ends as one run of
-- the whole stream from c, which gives each job the same answer. Job numbers may come twice: a job that is kept stays
abbrev pub RerunEndsAsOneRun : Type 0
RerunEndsAsOneRun =
    (first rest : List Statement) (c c1 c' : Content) (before again : List Answer) → Runs first c before c1
    → Runs (first ++ rest) c1 again c'
    → (answers : List Answer) × Runs (first ++ rest) c answers c' × AnswersAgree (first ++ rest) answers again

-- on sound content there is no other: where one run of the whole stream from c leaves c', the run on c1 leaves c'
abbrev pub RerunEndsAsEachRun : Type 0
RerunEndsAsEachRun =
    (first rest : List Statement) (c c1 c' c'' : Content) (before answers again : List Answer) → IsSound c
    → All IsStatement (first ++ rest) → Runs first c before c1 → Runs (first ++ rest) c answers c'
    → Runs (first ++ rest) c1 again c'' → (c'' ≡ c') × AnswersAgree (first ++ rest) answers again
