-- No statement makes a list in force name a predecessor twice.
use Rattle.std.proofs.Common.{◌≡◌, ℕ, List, [], ◌∷◌, All, refl, sym, subst, inl, inr, arith, Option, None, Some, Ok, Err}
use Rattle.std.proofs.lemmas.List.Elements.{All-cons, All-nil}
use Rattle.occurrences.specs.declared.reply.Reply.{Reply}
use Rattle.external_dependencies.specs.Link.{AreNamedOnce}
use Rattle.planner_machine.specs.declared.job.Job.{Job as KeptJob}
use Rattle.planner_machine.specs.Content.{Content, nothing_known}
use Rattle.planner_machine.specs.Days.{days}
use Rattle.planner_machine.specs.Decision.{Decides, Decision, trial}
use Rattle.planner_machine.specs.Define.{define}
use Rattle.planner_machine.specs.Jobs.{AnswersKept}
use Rattle.planner_machine.specs.Shown.{list_links, list_pairs, list_rows}
use Rattle.planner_machine.specs.Statement.{Answer, Change, Days, Define, DefineJob, Job, ListLinks, ListPairs, ListRows}
use Rattle.planner_machine.specs.Statement.{Statement, Steps, Trial, decision_of}
use Rattle.planner_machine.specs.Stream.{IsStatement, RunsOneWay, RunsSound}
use Rattle.planner_machine.specs.Sound.{IsSound}
use Rattle.planner_machine.proofs.ChangeLemmas.{lawful_of}
use Rattle.planner_answers.specs.Answers.{IsKept, StaysKept}

abbrev IsOnce : Content → Type 0
IsOnce c = AreNamedOnce c.in_force

-- what only asks changes nothing
asks_nothing : (d : Decision Content) → ((c : Content) (reply : Reply) (c' : Content) → d.Does c reply c' → c' ≡ c)
    → (c : Content) (a : Answer) (c' : Content) → Decides d c a c' → c' ≡ c
asks_nothing d same c (Ok reply) c' (none, does) = same c reply c' does
asks_nothing d same c (Err r) c' (least, is) = is

-- what a statement does keeps it so
abbrev DoesOnce : Decision Content → Type 0
DoesOnce d = (c : Content) (a : Answer) (c' : Content) → IsOnce c → Decides d c a c' → IsOnce c'

change_once : (change : Change) → DoesOnce (decision_of change)
change_once change c (Err r) c' once (least, same) = subst IsOnce (sym same) once
change_once change c (Ok reply) c' once (none, does) = (lawful_of change).once c reply c' does once

-- under a job number
job_once : (number : ℕ) (text : List ℕ) (d : Decision Content) → DoesOnce d → (c : Content) (o : Option KeptJob)
    (a : Answer) (c' : Content) → IsOnce c → AnswersKept number text d c o a c' → IsOnce c'
job_once number text d does c None a c' once (left, decides, same) =
    subst IsOnce (sym same) (does c a left once decides)
job_once number text d does c (Some job) a c' once (same, answer) = subst IsOnce (sym same) once

step_kept_once : (s : Statement) (c : Content) (a : Answer) (c' : Content) → IsOnce c → Steps s c a c' → IsOnce c'
step_kept_once (DefineJob number text kind given) c a c' once (inl (n, faulty, is, same)) = subst IsOnce (sym same) once
step_kept_once (DefineJob number text kind given) c a c' once (inr (block, read, answers)) =
    job_once number text (define block) (change_once (Define block)) c (c.jobs number) a c' once answers
step_kept_once (Job number text change) c a c' once answers =
    job_once number text (decision_of change) (change_once change) c (c.jobs number) a c' once answers
step_kept_once (Days app from to) c a c' once decides =
    subst IsOnce (sym (asks_nothing (days app from to) (λ c reply c' does. does.0) c a c' decides)) once
step_kept_once (Trial change) c a c' once decides =
    subst IsOnce (sym (asks_nothing (trial (decision_of change)) (λ c reply c' does. does.0) c a c' decides)) once
step_kept_once (ListRows listed app) c a c' once decides =
    subst IsOnce (sym (asks_nothing (list_rows listed app) (λ c reply c' does. does.0) c a c' decides)) once
step_kept_once (ListPairs app) c a c' once decides =
    subst IsOnce (sym (asks_nothing (list_pairs app) (λ c reply c' does. does.0) c a c' decides)) once
step_kept_once (ListLinks app) c a c' once decides =
    subst IsOnce (sym (asks_nothing (list_links app) (λ c reply c' does. does.0) c a c' decides)) once

-- one statement is a stream
one_statement : (s : Statement) → IsStatement s → All IsStatement (s ∷ [])
one_statement s fine = All-cons IsStatement s [] fine (All-nil IsStatement)

pub stays_kept : RunsSound → (s : Statement) → IsStatement s → StaysKept s
stays_kept sounds s fine c a c' kept step = record {
  sound = sounds (s ∷ []) (a ∷ []) c c' kept.sound (one_statement s fine) (c', step, refl);
  once = step_kept_once s c a c' kept.once step;
}

pub step_once : RunsOneWay → (s : Statement) → IsStatement s → (c : Content) → IsKept c → (a a' : Answer)
    (c' c'' : Content) → Steps s c a c' → Steps s c a' c'' → (a ≡ a') × (c' ≡ c'')
step_once one s fine c kept a a' c' c'' step step' =
    let same = one (s ∷ []) (a ∷ []) (a' ∷ []) c c' c'' kept.sound (one_statement s fine) (c', step, refl)
    (c'', step', refl) in
    let lists : a ∷ [] ≡ a' ∷ [] = same.0 in
    let answers : a ≡ a' = cc in
    (answers, same.1)

pub nothing_kept : IsSound nothing_known → IsKept nothing_known
nothing_kept sound = record { sound = sound; once = λ a b (k, lt, is) there same. absurd (omega (arith, lt)) }
