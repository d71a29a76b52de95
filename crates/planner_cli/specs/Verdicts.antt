-- What a verdict leads to.
use Rattle.std.specs.Prelude.{◌≡◌, ◌≢◌, ◌⊎◌, ℕ, List, None, Option, Some, Ok, Err, Result}
use Rattle.occurrences.specs.declared.refusal.Refusal.{Refusal}
use Rattle.occurrences.specs.declared.refusal.Refusal.TheVariants.{JobWithAnotherText}
use Rattle.planner_machine.specs.declared.job.Job.{Job}
use Rattle.planner_machine.specs.Content.{Content}
use Rattle.planner_machine.specs.Jobs.{kept, with_job}
use Rattle.planner_machine.specs.Decision.{Decision}
use Rattle.planner_machine.specs.Statement.{Answer}
use Rattle.plan_store.specs.Changes.{Fits, after}
use Rattle.plan_store.specs.Verdicts.{VerdictIs}
use Rattle.plan_store.specs.declared.changes.Verdict.{Verdict}
use Rattle.plan_store.specs.declared.changes.Verdict.TheVariants.{Done, Refused}
use Rattle.plan_store.specs.declared.stores.Need.{Need}
use Rattle.plan_store.specs.declared.stores.Need.TheVariants as need
use Rattle.planner_cli_stream.specs.declared.statements.DailyFunction.{DailyFunction}
use Rattle.planner_cli_stream.specs.declared.statements.DailyFunction.TheVariants as daily
use Rattle.planner_cli_stream.specs.declared.statements.PlanFunction.{PlanFunction}
use Rattle.planner_cli_stream.specs.declared.statements.PlanFunction.TheVariants as plan
use Rattle.daily_planning.specs.DailyPlans.{IsEndBy, plan_end_of}
use Rattle.planner_cli.specs.Kinds.{count_of}

-- the reply that a verdict gives
abbrev pub answer_in : Verdict → Answer
answer_in (Done change reply) = Ok reply
answer_in (Refused refusal) = Err refusal

-- the content that it leaves, but for the job
abbrev pub left_by : Verdict → Content → Content
left_by (Done change reply) c = after change c
left_by (Refused refusal) c = c

-- and with the job
abbrev pub job_left : ℕ → List ℕ → Verdict → Content → Content
job_left number text verdict c = with_job (kept number text (answer_in verdict)) (left_by verdict c)

-- its change, if it has one, fits the content and keeps no job
abbrev pub FitsVerdict : Verdict → Content → Type 0
FitsVerdict (Done change reply) c = Fits change c × ((after change c).jobs ≡ c.jobs)
FitsVerdict (Refused refusal) c = Unit {0}

-- what the job that is kept under a number, if there is one, replies to a text: its reply if the text is its own, else
-- that the text is another
abbrev pub IsKeptAnswer : Option Job → List ℕ → Option Answer → Type 0
IsKeptAnswer None text found = found ≡ None
IsKeptAnswer (Some job) text found = (answer : Answer) × (found ≡ Some answer)
    × (((job.text ≡ text) × (answer ≡ job.reply)) ⊎ ((job.text ≢ text) × (answer ≡ Err JobWithAnotherText)))

-- the end of a daily plan: its moment, the new plan end that its days give, or the plan end as it is; or that there is
-- none
abbrev pub IsEnd : Content → DailyFunction → Option ℕ → Type 0
IsEnd c (daily.Extend to) end = end ≡ Some to
IsEnd c (daily.ExtendBy days count) end = IsEndBy c days (count_of count) end
IsEnd c daily.Replan end = end ≡ plan_end_of c.sets.bounds

-- what the decision on a change of the long-term plan by what the definitions name has to see: of one application, if it
-- is a change for one
abbrev pub need_of_plan : PlanFunction → Need
need_of_plan (plan.Create from to) = need.LongTerm None
need_of_plan (plan.Extend to) = need.LongTerm None
need_of_plan plan.ModifyAll = need.LongTerm None
need_of_plan (plan.ModifyOne app) = need.LongTerm (Some app)

-- what is learnt of a statement before a row is seen: where its daily plan ends, or why it is refused
abbrev pub IsAhead : Decision Content → (Option ℕ → Type 0) → Content → Result (Option ℕ) Refusal → Type 0
IsAhead d IsEnd c (Ok end) = IsEnd end
IsAhead d IsEnd c (Err refusal) = VerdictIs d c (Refused refusal)
