-- Streams: what keeps fresh content fresh.
use Rattle.std.proofs.Common.{List, None, Option, Some, [], inl, inr, refl, subst, sym, ℕ, ◌∷◌, ◌≡◌, ◌≢◌, ◌⊎◌}
use Rattle.std.proofs.lemmas.List.Elements.{All-head, All-tail}
use Rattle.std.specs.Prelude.{Err, Ok}
use Rattle.app_definitions.specs.declared.kinds.Kind.{Kind}
use Rattle.planner_machine.specs.Content.{Content}
use Rattle.planner_machine.specs.Days.{days}
use Rattle.planner_machine.specs.Decision.{trial}
use Rattle.planner_machine.specs.Fresh.{IsFresh, IsRefused, IsRepeated, Redefines, RedefinesBy, StaysFresh}
use Rattle.planner_machine.specs.Jobs.{AnswersKept}
use Rattle.planner_machine.specs.Laws.{IsWellFormed}
use Rattle.planner_machine.specs.Shown.{list_links, list_pairs, list_rows}
use Rattle.planner_machine.specs.Sound.{IsSound}
use Rattle.planner_machine.specs.Statement.{Answer, AnswersDefine, Change, Days, Define, DefineJob, Job, ListLinks}
use Rattle.planner_machine.specs.Statement.{ListPairs, ListRows, Statement, Steps, Trial, decision_of}
use Rattle.planner_machine.specs.Stream.{IsStatement}
use Rattle.planner_machine.specs.declared.job.Job.{Job as KeptJob}
use Rattle.planner_machine.proofs.ChangeLemmas.{accepted_fresh, change_sound}
use Rattle.planner_machine.proofs.StepLemmas.{asks_nothing, step_keeps}

-- a changing statement, accepted, refused or answered from a kept job
job_fresh : (number : ℕ) (text : List ℕ) (change : Change) → IsWellFormed change → (c : Content) → IsSound c
    → (o : Option KeptJob) → c.jobs number ≡ o → (a : Answer) (c' : Content)
    → (RedefinesBy change → IsRefused a ⊎ (c.jobs number ≢ None))
    → AnswersKept number text (decision_of change) c o a c' → IsFresh c → IsFresh c'
job_fresh number text change fine c sound (Some job) at a c' leaves h fresh = subst IsFresh (sym h.0) fresh
job_fresh number text change fine c sound None at (Err r) c' leaves h fresh =
    subst IsFresh (sym h.2) (subst IsFresh (sym h.1.1) fresh)
job_fresh number text change fine c sound None at (Ok reply) c' leaves h fresh =
    subst IsFresh (sym h.2) (accepted_fresh change never c reply h.0 sound
    (change_sound change fine c (Ok reply) h.0 sound h.1) h.1 fresh)
  where
    never : RedefinesBy change → ⊥
    never is = elim (leaves is) [ inl refused ↦ refused | inr kept ↦ kept at ]

define_fresh : (number : ℕ) (text : List ℕ) (kind : Kind) (given : Option (List ℕ)) (c : Content) (a : Answer)
    (c' : Content) → IsRefused a ⊎ (c.jobs number ≢ None) → AnswersDefine number text kind given c a c' → IsFresh c
    → IsFresh c'
define_fresh number text kind given c a c' leaves (inl h) fresh = subst IsFresh (sym h.3) fresh
define_fresh number text kind given c a c' leaves (inr h) fresh = by_job (c.jobs number) refl a leaves h.2
  where
    by_job : (o : Option KeptJob) → c.jobs number ≡ o → (a : Answer) → IsRefused a ⊎ (c.jobs number ≢ None)
        → AnswersKept number text (decision_of (Define h.0)) c o a c' → IsFresh c'
    by_job (Some job) at a leaves k = subst IsFresh (sym k.0) fresh
    by_job None at (Err r) leaves k = subst IsFresh (sym k.2) (subst IsFresh (sym k.1.1) fresh)
    by_job None at (Ok reply) (inl refused) k = absurd refused
    by_job None at (Ok reply) (inr kept) k = absurd (kept at)

step_fresh : (s : Statement) → IsStatement s → (c : Content) → IsSound c → (a : Answer) (c' : Content)
    → (Redefines s → IsRefused a ⊎ IsRepeated s c) → Steps s c a c' → IsFresh c → IsFresh c'
step_fresh (DefineJob number text kind given) fine c sound a c' leaves h fresh =
    define_fresh number text kind given c a c' (leaves tt) h fresh
step_fresh (Job number text change) fine c sound a c' leaves h fresh =
    job_fresh number text change fine.2 c sound (c.jobs number) refl a c' leaves h fresh
step_fresh (Days app from to) fine c sound a c' leaves h fresh =
    subst IsFresh (sym (asks_nothing (days app from to) (λ c reply c' does. does.0) c a c' h)) fresh
step_fresh (Trial change) fine c sound a c' leaves h fresh =
    subst IsFresh (sym (asks_nothing (trial (decision_of change)) (λ c reply c' does. does.0) c a c' h)) fresh
step_fresh (ListRows listed app) fine c sound a c' leaves h fresh =
    subst IsFresh (sym (asks_nothing (list_rows listed app) (λ c reply c' does. does.0) c a c' h)) fresh
step_fresh (ListPairs app) fine c sound a c' leaves h fresh =
    subst IsFresh (sym (asks_nothing (list_pairs app) (λ c reply c' does. does.0) c a c' h)) fresh
step_fresh (ListLinks app) fine c sound a c' leaves h fresh =
    subst IsFresh (sym (asks_nothing (list_links app) (λ c reply c' does. does.0) c a c' h)) fresh

pub stays_fresh : StaysFresh
stays_fresh [] [] c c' sound fine r leaves fresh = subst IsFresh (sym r) fresh
stays_fresh [] (a ∷ answers) c c' sound fine r leaves fresh = absurd r
stays_fresh (s ∷ stream) [] c c' sound fine r leaves fresh = absurd r
stays_fresh (s ∷ stream) (a ∷ answers) c c' sound fine (next, d, r) (leaves, rest) fresh =
    stays_fresh stream answers next c' (step_keeps s (All-head IsStatement s stream fine) c sound a next d)
    (All-tail IsStatement s stream fine) r rest
    (step_fresh s (All-head IsStatement s stream fine) c sound a next leaves d fresh)
