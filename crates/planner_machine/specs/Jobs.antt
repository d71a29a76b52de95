-- Kept jobs: a changing statement carries a job number, and its reply is kept under it.
use Rattle.std.specs.Prelude.{◌≡◌, ◌≢◌, ◌⊎◌, ℕ, List, Option, Some, None, Result, Err, nat_eq, if◌then◌else◌}
use Rattle.occurrences.specs.declared.refusal.Refusal.{Refusal}
use Rattle.occurrences.specs.declared.refusal.Refusal.TheVariants.{JobWithAnotherText}
use Rattle.occurrences.specs.declared.reply.Reply.{Reply}
use Rattle.planner_machine.specs.declared.job.Job.{Job}
use Rattle.planner_machine.specs.Content.{Content}
use Rattle.planner_machine.specs.Decision.{Decides, Decision}

-- the job as it is kept
abbrev pub kept : ℕ → List ℕ → Result Reply Refusal → Job
kept number text reply = record { number = number; text = text; reply = reply }

-- the content with this job kept under its number
abbrev pub with_job : Job → Content → Content
with_job job c = record c { jobs = λ number. if nat_eq job.number number then Some job else c.jobs number }

-- the reply by what is kept under the job number. Nothing: the statement is decided, and its reply is kept, a refusal
-- too. A job of the same text: its reply is given again, and nothing changes. A job of another text: the statement is
-- refused, and nothing changes
abbrev pub AnswersKept : ℕ → List ℕ → Decision Content → Content → Option Job → Result Reply Refusal → Content → Type 0
AnswersKept number text d c None answer c' =
    (left : Content) × Decides d c answer left × (c' ≡ with_job (kept number text answer) left)
AnswersKept number text d c (Some job) answer c' =
    (c' ≡ c) × (((job.text ≡ text) × (answer ≡ job.reply)) ⊎ ((job.text ≢ text) × (answer ≡ Err JobWithAnotherText)))

-- a statement with a job number and a text
abbrev pub AnswersJob : ℕ → List ℕ → Decision Content → Content → Result Reply Refusal → Content → Type 0
AnswersJob number text d c answer c' = AnswersKept number text d c (c.jobs number) answer c'
