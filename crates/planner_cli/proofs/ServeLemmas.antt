-- Lemmas on statements that are answered.
use Rattle.std.proofs.Common.{◌≡◌, ◌≤◌, ◌∙◌, ℕ, List, [], ◌∷◌, length, refl, sym, ap, subst, inl, inr, arith}
use Rattle.std.specs.Prelude.{◌≢◌, ◌⊎◌, Err, IfSome, None, Ok, Option, Some}
use Rattle.std.proofs.lemmas.List.Elements.{All-cons}
use Rattle.app_definitions.specs.Blocks.{IsFaultyAt, ReadsAs}
use Rattle.app_definitions.specs.Definitions.{IsDefined, names_given}
use Rattle.app_definitions.specs.declared.definitions.Definitions.{Definitions as AllDefinitions}
use Rattle.app_definitions.specs.declared.kinds.Block.{Block}
use Rattle.app_definitions.specs.declared.kinds.Kind.{Kind}
use Rattle.occurrences.specs.declared.key.Key.{Key}
use Rattle.occurrences.specs.declared.refusal.Refusal.{Refusal}
use Rattle.occurrences.specs.declared.refusal.Refusal.TheVariants.{FaultyData, JobWithAnotherText, NotDefined}
use Rattle.occurrences.specs.declared.reply.Reply.TheVariants.{Rows}
use Rattle.run_cycles.specs.declared.named.Named.{Named}
use Rattle.planner_machine.specs.Content.{Content}
use Rattle.planner_machine.specs.Days.{DaysRefused, ListsDays}
use Rattle.planner_machine.specs.Decision.{Decides, Decision, IsLeastRefusal}
use Rattle.planner_machine.specs.Define.{UndefineRefused}
use Rattle.planner_machine.specs.Jobs.{AnswersJob, AnswersKept, kept, with_job}
use Rattle.planner_machine.specs.declared.job.Job.{Job as KeptJob}
use Rattle.planner_machine.specs.Laws.{IsWellFormed}
use Rattle.planner_machine.specs.Sound.{IsSound}
use Rattle.planner_machine.specs.Statement.{Answer, Change as MachineChange, Days, Define, DefineJob, Job, decision_of}
use Rattle.planner_machine.specs.Stream.{IsStatement, RunsSound}
use Rattle.plan_store.specs.Changes.{after}
use Rattle.long_term_plan.specs.Early.{IsRefusedEarly}
use Rattle.plan_store.specs.Verdicts.{VerdictIs}
use Rattle.plan_store.specs.Views.{Shows}
use Rattle.plan_store.specs.declared.stores.Need.TheVariants.{Definitions}
use Rattle.plan_store.specs.declared.views.View.{View}
use Rattle.plan_store.specs.declared.changes.Change.{Change}
use Rattle.plan_store.specs.declared.changes.Verdict.{Verdict}
use Rattle.plan_store.specs.declared.changes.Verdict.TheVariants.{Done, Refused}
use Rattle.planner_cli_stream.specs.JobNumber.{IsJobNumber}
use Rattle.planner_cli_stream.specs.Items.{longest_block}
use Rattle.planner_cli_stream.specs.declared.statements.KeyAct.{KeyAct}
use Rattle.planner_cli_stream.specs.declared.statements.KeyAct.TheVariants as act
use Rattle.planner_cli.specs.Changes.{key_change}
use Rattle.planner_cli.specs.Outcomes.{answer_text, answering}
use Rattle.planner_cli.specs.Replies.{AnswerLines}
use Rattle.planner_cli.specs.Rows.{AreDaysLines}
use Rattle.planner_cli.specs.Steps.{Serves}
use Rattle.planner_cli.specs.Verdicts.{FitsVerdict, IsKeptAnswer, answer_in, job_left, left_by}
use Rattle.planner_cli.proofs.ChangeLemmas.{after_with_job, keeps_jobs}
use Rattle.app_definitions.proofs.BlockNames.{names_few}

-- what a job's step answers
abbrev pub AnswersBoth : ℕ → List ℕ → MachineChange → Content → AnswerLines → Content → Type 0
AnswersBoth number text change c reply c' =
    (answer : Answer) × AnswersJob number text (decision_of change) c answer c' × (reply ≡ answering answer)

-- what a kept job answers
pub kept_so : (o : Option KeptJob) (number : ℕ) (text : List ℕ) (d : Decision Content) (c : Content) (answer : Answer)
    → IsKeptAnswer o text (Some answer) → AnswersKept number text d c o answer c
kept_so None number text d c answer is = absurd (let no : ⊥ = cc is in no)
kept_so (Some job) number text d c answer (a, is, h) =
    let same : answer ≡ a = cc in (
      refl,
      subst (λ (x : Answer). ((job.text ≡ text) × (x ≡ job.reply))
          ⊎ ((job.text ≢ text) × (x ≡ Err JobWithAnotherText))) (sym same) h,
    )

pub serves_job : (number : ℕ) (text : List ℕ) (change : MachineChange) (c : Content) → IsJobNumber number
    → IsWellFormed change
    → (reply : AnswerLines) (c' : Content) → AnswersBoth number text change c reply c'
    → Serves (Job number text change) c reply c'
serves_job number text change c numbered fine reply c' (answer, step, is) = record {
  answer = answer;
  steps = step;
  rows = ap (λ (r : AnswerLines). r.rows) is;
  line = ap (λ (r : AnswerLines). r.line) is;
  well_formed = (let h = numbered.0 in omega arith, let h = numbered.1 in omega arith, fine);
}

-- a block's names can be shown
shown_names : (number : ℕ) (kind : Kind) (bytes : List ℕ) → length bytes ≤ longest_block → (block : Block)
    → ReadsAs kind bytes block
    → names_given block ≤ 999999999
shown_names number kind bytes short block reads = let few = names_few kind bytes block reads in omega (arith, few)

-- what such a block defines is such as a line and a block give
pub block_well_formed : (kind : Kind) (bytes : List ℕ) (block : Block) → length bytes ≤ longest_block
    → ReadsAs kind bytes block → IsWellFormed (Define block)
block_well_formed kind bytes block short reads = (shown_names 0 kind bytes short block reads, (kind, bytes, reads))

-- so is what changes one occurrence
pub key_well_formed : (key : Key) (act : KeyAct) → IsWellFormed (key_change key act)
key_well_formed key act.Add = tt
key_well_formed key act.Delete = tt
key_well_formed key act.AddCurrent = tt
key_well_formed key (act.Act action) = tt

pub serves_define : (number : ℕ) (text : List ℕ) (kind : Kind) (bytes : List ℕ) (block : Block) (c : Content)
    → IsJobNumber number
    → length bytes ≤ longest_block → ReadsAs kind bytes block
    → (reply : AnswerLines) (c' : Content) → AnswersBoth number text (Define block) c reply c'
    → Serves (DefineJob number text kind (Some bytes)) c reply c'
serves_define number text kind bytes block c numbered short reads reply c' (answer, step, is) = record {
  answer = answer;
  steps = inr (block, reads, step);
  rows = ap (λ (r : AnswerLines). r.rows) is;
  line = ap (λ (r : AnswerLines). r.line) is;
  well_formed = (
    let h = numbered.0 in omega arith,
    let h = numbered.1 in
        omega arith,
    shown_names number kind bytes short,
  );
}

pub serves_faulty : (number : ℕ) (text : List ℕ) (kind : Kind) (bytes : List ℕ) (record_number : ℕ) (c : Content)
    → IsJobNumber number
    → length bytes ≤ longest_block → IsFaultyAt kind bytes record_number
    → Serves (DefineJob number text kind (Some bytes)) c (answering (Err (FaultyData record_number))) c
serves_faulty number text kind bytes record_number c numbered short faulty = record {
  answer = Err (FaultyData record_number);
  steps = inl (record_number, faulty, refl, refl);
  rows = refl;
  line = refl;
  well_formed = (
    let h = numbered.0 in omega arith,
    let h = numbered.1 in
        omega arith,
    shown_names number kind bytes short,
  );
}

pub serves_no_data : (number : ℕ) (text : List ℕ) (kind : Kind) (c : Content) → IsJobNumber number
    → Serves (DefineJob number text kind None) c (answering (Err (FaultyData 0))) c
serves_no_data number text kind c numbered = record {
  answer = Err (FaultyData 0);
  steps = inl (0, refl, refl, refl);
  rows = refl;
  line = refl;
  well_formed = (let h = numbered.0 in omega arith, let h = numbered.1 in omega arith, λ block reads. absurd reads);
}

pub serves_days : (all : AllDefinitions) (app : List ℕ) (from to : ℕ) (list : List Named) (rows : List (List ℕ))
    → ListsDays all app from to list
    → ((c : Content) → c.definitions ≡ all → (r : Refusal) → ¬ (DaysRefused app from to c r)) → AreDaysLines list rows
    → (c : Content) → c.definitions ≡ all → Serves (Days app from to) c
    (record { rows = rows; line = answer_text (Ok (Rows (length list))) }) c
serves_days all app from to list rows lists good lines c is = record {
  answer = Ok (Rows (length list));
  steps = (good c is, (refl, (list, subst (λ d. ListsDays d app from to list) (sym is) lists, refl)));
  rows = (list, subst (λ d. ListsDays d app from to list) (sym is) lists, lines);
  line = refl;
  well_formed = tt;
}

pub serves_no_days : (app : List ℕ) (from to : ℕ) (refusal : Refusal) (c : Content)
    → IsLeastRefusal (DaysRefused app from to c) refusal
    → Serves (Days app from to) c (answering (Err refusal)) c
serves_no_days app from to refusal c least = record {
  answer = Err refusal;
  steps = (least, refl);
  rows = refl;
  line = refl;
  well_formed = tt;
}

-- a defined name can be taken away
pub not_refused : (kind : Kind) (name : List ℕ) (c : Content) → IsDefined c.definitions kind name → (q : Refusal)
    → UndefineRefused kind name c q → ⊥
not_refused kind name c defined NotDefined h = h defined
not_refused kind name c defined _ h = h

-- ---- verdicts

-- what is refused early is refused so
pub early_verdict : (d : Decision Content) (view : View) (found : Option Refusal)
    → ((c : Content) → Shows Definitions view c → IsRefusedEarly d c found)
    → IfSome found (λ r. (c : Content) → Shows Definitions view c → VerdictIs d c (Refused r))
early_verdict d view (Some r) refuses = refuses
early_verdict d view None refuses = tt

pub verdict_fits : (change : MachineChange) (verdict : Verdict) (c : Content) → VerdictIs (decision_of change) c verdict
    → FitsVerdict verdict c
verdict_fits change (Done made reply) c h = (h.0, keeps_jobs change c reply (after made c) h.1)
verdict_fits change (Refused refusal) c h = tt

pub verdict_decides : (d : Decision Content) (verdict : Verdict) (c : Content) → VerdictIs d c verdict
    → Decides d c (answer_in verdict) (left_by verdict c)
verdict_decides d (Done made reply) c h = h.1
verdict_decides d (Refused refusal) c h = h

jobs_left : (verdict : Verdict) (c : Content) → FitsVerdict verdict c → (left_by verdict c).jobs ≡ c.jobs
jobs_left (Done made reply) c h = h.1
jobs_left (Refused refusal) c h = refl

-- what comes of a verdict whose change was made with the job
pub settled : (number : ℕ) (text : List ℕ) (verdict : Verdict) (change : Change) (answer : Answer) (c c' : Content)
    → FitsVerdict verdict c
    → answer ≡ answer_in verdict → after change c ≡ left_by verdict c
    → c' ≡ after (record change { job = Some (record { number = number; text = text; reply = answer }) }) c
    → c' ≡ job_left number text verdict c
settled number text verdict change answer c c' fits answered leaves is =
    is ∙ after_with_job change (kept number text answer) c
    (ap (λ (x : Content). x.jobs) leaves ∙ jobs_left verdict c fits)
    ∙ ap (with_job (kept number text answer)) leaves
    ∙ ap (λ a. with_job (kept number text a) (left_by verdict c)) answered

-- the verdict's job is one that the machine answers so
pub verdict_answers : (number : ℕ) (text : List ℕ) (change : MachineChange) (verdict : Verdict) (c : Content)
    → VerdictIs (decision_of change) c verdict → c.jobs number ≡ None
    → (reply : AnswerLines) (c' : Content) → (c' ≡ job_left number text verdict c) × (reply ≡ answering (answer_in verdict))
    → AnswersBoth number text change c reply c'
verdict_answers number text change verdict c is new reply c' h = (
  answer_in verdict,
  subst (λ o. AnswersKept number text (decision_of change) c o (answer_in verdict) c') (sym new)
      (left_by verdict c, verdict_decides (decision_of change) verdict c is, h.0),
  h.1,
)

-- what comes of a verdict on sound content is sound
pub left_sound : RunsSound → (number : ℕ) (text : List ℕ) (change : MachineChange) (verdict : Verdict) (c : Content)
    → IsJobNumber number → IsWellFormed change → VerdictIs (decision_of change) c verdict → c.jobs number ≡ None
    → IsSound c → IsSound (job_left number text verdict c)
left_sound runs number text change verdict c numbered fine is new sound =
    let left = job_left number text verdict c in
    let (answer, answers, same) = verdict_answers number text change verdict c is new (answering (answer_in verdict))
    left (refl, refl) in
    runs (Job number text change ∷ []) (answer ∷ []) c left sound
    (All-cons IsStatement (Job number text change) []
    (let h = numbered.0 in omega arith, let h = numbered.1 in omega arith, fine)
    (λ k d lt. absurd (omega (arith, lt)))) (left, answers, refl)
