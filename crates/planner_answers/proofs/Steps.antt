-- Each statement has an answer.
use Rattle.std.proofs.Common.{◌⊎◌, ℕ, List, [], ◌∷◌, All, refl, inl, inr, Option, None, Some, Ok, Err}
use Rattle.std.specs.Prelude.{IsSome, is_some}
use Rattle.std.specs.FinMap as map
use Rattle.std.proofs.lemmas.List.Elements.{All-head, All-tail}
use Rattle.occurrences.specs.declared.place.Place.TheVariants.{Current, LongTerm}
use Rattle.occurrences.specs.declared.refusal.Refusal.TheVariants.{FaultyData, JobWithAnotherText}
use Rattle.occurrences.specs.declared.reply.Reply.TheVariants.{Defined, Undefined}
use Rattle.occurrences.specs.declared.status.Status.TheVariants.{W}
use Rattle.app_definitions.specs.Definitions.{IsDefined, merged, names_given, without}
use Rattle.app_definitions.specs.declared.definitions.Definitions.{Definitions}
use Rattle.app_definitions.specs.declared.kinds.Block.{Block}
use Rattle.app_definitions.specs.declared.kinds.Kind.{Kind}
use Rattle.app_definitions.specs.declared.kinds.Kind.TheVariants as kind
use Rattle.planner_machine.specs.declared.job.Job.{Job as KeptJob}
use Rattle.planner_machine.specs.Content.{Content}
use Rattle.planner_machine.specs.Decision.{Decision, trial}
use Rattle.planner_machine.specs.Define.{UndefineRefused, define, undefine}
use Rattle.planner_machine.specs.Jobs.{AnswersKept, kept, with_job}
use Rattle.planner_machine.specs.Statement.{Act, Add, AddCurrent, Answer, AnswersDefine, AreRead, Change, Create}
use Rattle.planner_machine.specs.Statement.{DailyExtend, IsFaulty}
use Rattle.planner_machine.specs.Statement.{DailyExtendBy, Days, Define, DefineJob, Delete, Extend, Job, ListLinks}
use Rattle.planner_machine.specs.Statement.{ListPairs, ListRows, ModifyAll, ModifyOne, Replan, Statement, Steps, Trial}
use Rattle.planner_machine.specs.Statement.{Undefine, decision_of}
use Rattle.planner_machine.specs.Stream.{IsStatement, Runs, RunsOneWay, RunsSound}
use Rattle.planner_machine.specs.Laws.{AnswersOnce}
use Rattle.planner_answers.specs.Answers.{HasOneAnswer, HasOneStep, IsKept, StreamsHaveOneRun}
use Rattle.planner_answers.proofs.Finite.{Decided, decided_not}
use Rattle.planner_answers.proofs.Equal.{decided_name, decided_true}
use Rattle.planner_answers.proofs.Decisions.{AreDecided, IsAnswered, answered}
use Rattle.planner_answers.proofs.Plans.{create_answered, extend_answered, modify_all_answered, modify_one_answered}
use Rattle.planner_answers.proofs.Occurrences.{action_answered, add_answered, delete_answered}
use Rattle.planner_answers.proofs.Daily.{daily_answered, daily_by_answered, replan_answered}
use Rattle.planner_answers.proofs.BlockReadings.{reads_or_is_faulty}
use Rattle.planner_answers.proofs.Kept.{stays_kept, step_once}
use Rattle.planner_answers.proofs.Shown.{days_answered, links_answered, nothing_refused, pairs_answered, rows_answered}

decided_is_some : {X : Type 0} (o : Option X) → Decided (IsSome o)
decided_is_some o = decided_true (is_some o)

decided_defined : (all : Definitions) (k : Kind) (name : List ℕ) → Decided (IsDefined all k name)
decided_defined all kind.Applications name = decided_is_some (map.get all.applications name)
decided_defined all kind.Calendars name = decided_is_some (map.get all.calendars name)
decided_defined all kind.Periods name = decided_is_some (map.get all.periods name)
decided_defined all kind.Predecessors name = decided_is_some (map.get all.predecessors name)
decided_defined all kind.RunCycles name = decided_is_some (map.get all.run_cycles name)
decided_defined all kind.Options name = inr (λ h. h)

define_answered : (block : Block) (c : Content) → IsAnswered (define block) c
define_answered block c = answered (define block) c nothing_refused
    (λ none. (Defined (names_given block), record c { definitions = merged c.definitions block }, (refl, refl)))

undefine_decided : (kind : Kind) (name : List ℕ) (c : Content) → AreDecided (UndefineRefused kind name c)
undefine_decided kind name c = record {
  not_a_statement = inr (λ h. h);
  faulty_data = inr (λ h. h.1);
  another_text = inr (λ h. h);
  not_defined = decided_not (decided_defined c.definitions kind name);
  no_plan = inr (λ h. h);
  plan_exists = inr (λ h. h);
  calendar = inr (λ h. h.1);
  period = inr (λ h. h.1);
  dates = inr (λ h. h);
  loop = inr (λ h. h.1);
  no_application = inr (λ h. h);
  key_is_live = inr (λ h. h);
  no_occurrence = inr (λ h. h);
  status = inr (λ h. h);
  predecessor = inr (λ h. h.1);
  too_many = inr (λ h. h);
  plan_end = inr (λ h. h);
}

undefine_answered : (kind : Kind) (name : List ℕ) (c : Content) → IsAnswered (undefine kind name) c
undefine_answered kind name c =
    answered (undefine kind name) c (undefine_decided kind name c)
    (λ none. (Undefined, record c { definitions = without c.definitions kind name }, (refl, refl)))

-- each change
change_answered : (change : Change) (c : Content) → IsKept c → IsAnswered (decision_of change) c
change_answered (Define block) c kept = define_answered block c
change_answered (Undefine kind name) c kept = undefine_answered kind name c
change_answered (Create from to) c kept = create_answered from to c kept.sound
change_answered (Extend to) c kept = extend_answered to c kept.sound
change_answered ModifyAll c kept = modify_all_answered c kept.sound
change_answered (ModifyOne app) c kept = modify_one_answered app c kept.sound kept.once
change_answered (Add key) c kept = add_answered LongTerm key c kept.sound
change_answered (Delete key) c kept = delete_answered key c kept.sound
change_answered (DailyExtend to) c kept = daily_answered c kept.sound to
change_answered (DailyExtendBy n count) c kept = daily_by_answered n count c kept.sound
change_answered Replan c kept = replan_answered c kept.sound
change_answered (AddCurrent key) c kept = add_answered (Current W) key c kept.sound
change_answered (Act action key) c kept = action_answered key action c kept.sound

-- a trial, from what the statement would do
tried : (d : Decision Content) (c : Content) → IsAnswered d c → IsAnswered (trial d) c
tried d c (Err r, left, decides) = (Err r, c, (decides.0, refl))
tried d c (Ok reply, left, decides) = (Ok reply, c, (decides.0, (refl, (left, decides.1))))

-- a job, by what is kept under its number
by_kept : (number : ℕ) (text : List ℕ) (d : Decision Content) (c : Content) (o : Option KeptJob) → IsAnswered d c
    → (a : Answer) × (c' : Content) × AnswersKept number text d c o a c'
by_kept number text d c None (a, left, decides) = (a, with_job (kept number text a) left, (left, decides, refl))
by_kept number text d c (Some job) decided = elim (decided_name job.text text) [
  | inl same ↦ (job.reply, c, (refl, inl (same, refl)))
  | inr differs ↦ (Err JobWithAnotherText, c, (refl, inr (differs, refl)))
]

-- the data of a `define` are faulty at a record, or are read as a block
given_reads : (kind : Kind) (given : Option (List ℕ))
    → ((number : ℕ) × IsFaulty kind given number) ⊎ ((block : Block) × AreRead kind given block)
given_reads kind None = inl (0, refl)
given_reads kind (Some text) = reads_or_is_faulty kind text

define_job : (number : ℕ) (text : List ℕ) (kind : Kind) (given : Option (List ℕ)) (c : Content)
    → (a : Answer) × (c' : Content) × AnswersDefine number text kind given c a c'
define_job number text kind given c = elim (given_reads kind given) [
  | inl (n, faulty) ↦ (Err (FaultyData n), c, inl (n, faulty, refl, refl))
  | inr (block, read) ↦
      let (a, c', step) = by_kept number text (define block) c (c.jobs number) (define_answered block c) in
      (a, c', inr (block, read, step))
]

-- each statement
step_answered : (s : Statement) (c : Content) → IsKept c → (a : Answer) × (c' : Content) × Steps s c a c'
step_answered (DefineJob number text kind given) c kept = define_job number text kind given c
step_answered (Job number text change) c kept =
    by_kept number text (decision_of change) c (c.jobs number) (change_answered change c kept)
step_answered (Days app from to) c kept = days_answered app from to c kept.sound
step_answered (Trial change) c kept = tried (decision_of change) c (change_answered change c kept)
step_answered (ListRows listed app) c kept = rows_answered app c kept.sound listed
step_answered (ListPairs app) c kept = pairs_answered app c kept.sound
step_answered (ListLinks app) c kept = links_answered app c kept.sound kept.once

-- exactly one

pub change_has_one : (change : Change) → AnswersOnce change → HasOneAnswer change
change_has_one change once c kept =
    let (a, left, decides) = change_answered change c kept in
    record {
      answer = a;
      left = left;
      gives = decides;
      only = λ b d other. once c b a d left kept.sound other decides;
    }

pub step_has_one : RunsOneWay → (s : Statement) → IsStatement s → HasOneStep s
step_has_one one s fine c kept =
    let (a, left, step) = step_answered s c kept in
    record {
      answer = a;
      left = left;
      gives = step;
      only = λ b d other. step_once one s fine c kept b a d left other step;
    }

-- a run of a stream
runs_to_end : RunsSound → (stream : List Statement) (c : Content) → All IsStatement stream → IsKept c
    → (answers : List Answer) × (c' : Content) × Runs stream c answers c' × IsKept c'
runs_to_end sounds [] c fine kept = ([], c, refl, kept)
runs_to_end sounds (s ∷ stream) c fine kept =
    let (a, next, step) = step_answered s c kept in
    let (answers, left, run, after) = runs_to_end sounds stream next (All-tail IsStatement s stream fine)
    (stays_kept sounds s (All-head IsStatement s stream fine) c a next kept step) in
    (a ∷ answers, left, (next, step, run), after)

pub streams_have_one_run : RunsOneWay → RunsSound → StreamsHaveOneRun
streams_have_one_run one sounds stream c fine kept =
    let (answers, left, run, after) = runs_to_end sounds stream c fine kept in
    record {
      answers = answers;
      left = left;
      runs = run;
      kept = after;
      only = λ other c' another. one stream other answers c c' left kept.sound fine another run;
    }
