-- Streams that are run again: what was answered is known, and known jobs change nothing.
use Rattle.std.proofs.Common.{List, None, Option, Some, [], ap, false, inl, inr, refl, subst, suc, sym, true, zero, ℕ}
use Rattle.std.proofs.Common.{◌++◌, ◌∙◌, ◌∷◌, ◌≡◌, ◌≢◌, ◌⊎◌}
use Rattle.std.proofs.lemmas.Bool.{eq-eqb, eqb-true}
use Rattle.std.specs.Prelude.{Bool, Err, if◌then◌else◌, nat_eq}
use Rattle.app_definitions.specs.declared.kinds.Block.{Block}
use Rattle.occurrences.specs.declared.refusal.Refusal.TheVariants.{FaultyData, JobWithAnotherText}
use Rattle.planner_machine.specs.Content.{Content}
use Rattle.planner_machine.specs.Days.{days}
use Rattle.planner_machine.specs.Decision.{trial}
use Rattle.planner_machine.specs.Jobs.{AnswersKept, kept, with_job}
use Rattle.planner_machine.specs.Rerun.{AnswersAgree, RerunEndsAsEachRun, RerunEndsAsOneRun, job_number}
use Rattle.planner_machine.specs.Shown.{list_links, list_pairs, list_rows}
use Rattle.planner_machine.specs.Statement.{Answer, AreRead, Change, Days, Define, DefineJob, IsFaulty, Job, ListLinks}
use Rattle.planner_machine.specs.Statement.{ListPairs, ListRows, Statement, Steps, Trial, decision_of}
use Rattle.planner_machine.specs.Stream.{Runs}
use Rattle.planner_machine.specs.declared.job.Job.{Job as KeptJob}
use Rattle.planner_machine.proofs.ChangeLemmas.{jobs_stay}
use Rattle.planner_machine.proofs.StepLemmas.{asks_nothing, faulty_once, read_or_faulty}
use Rattle.planner_machine.proofs.StreamLemmas.{one_way}

-- a job is kept under the number, and gives the text this answer
abbrev GivesAgain : KeptJob → List ℕ → Answer → Type 0
GivesAgain job text a = ((job.text ≡ text) × (a ≡ job.reply)) ⊎ ((job.text ≢ text) × (a ≡ Err JobWithAnotherText))

abbrev IsKnown : ℕ → List ℕ → Answer → Content → Type 0
IsKnown number text a c = (job : KeptJob) × (c.jobs number ≡ Some job) × GivesAgain job text a

-- jobs that are kept stay as they are
abbrev JobsStay : Content → Content → Type 0
JobsStay c c' = (number : ℕ) (job : KeptJob) → c.jobs number ≡ Some job → c'.jobs number ≡ Some job

gives_one : (job : KeptJob) (text : List ℕ) (a b : Answer) → GivesAgain job text a → GivesAgain job text b → b ≡ a
gives_one job text a b (inl x) (inl y) = y.1 ∙ sym x.1
gives_one job text a b (inl x) (inr y) = absurd (y.0 x.0)
gives_one job text a b (inr x) (inl y) = absurd (x.0 y.0)
gives_one job text a b (inr x) (inr y) = y.1 ∙ sym x.1

module _ (number : ℕ) (text : List ℕ) (change : Change) where
  -- what was answered is known
  job_known : (c : Content) (a : Answer) (c' : Content) (o : Option KeptJob) → c.jobs number ≡ o
      → AnswersKept number text (decision_of change) c o a c' → IsKnown number text a c'
  job_known c a c' None there (left, decides, is) =
      let job = kept number text a in
      let own : (with_job job left).jobs number ≡ Some job =
      ap (λ (b : Bool). if b then Some job else left.jobs number) (eq-eqb number number refl) in
      (job, ap (λ (x : Content). x.jobs number) is ∙ own, inl (refl, refl))
  job_known c a c' (Some job) there (is, how) = (job, ap (λ (x : Content). x.jobs number) is ∙ there, how)

  -- what is known is answered so, and changes nothing
  job_again : (c : Content) (a b : Answer) (c' : Content) → IsKnown number text a c
      → AnswersKept number text (decision_of change) c (c.jobs number) b c' → (c' ≡ c) × (b ≡ a)
  job_again c a b c' (job, there, how) h =
      let same : (c' ≡ c) × GivesAgain job text b =
      subst (λ o. AnswersKept number text (decision_of change) c o b c') there h in
      (same.0, gives_one job text a b how same.1)

  -- a job that is kept stays as it is
  job_stays : (c : Content) (a : Answer) (c' : Content) (o : Option KeptJob) → c.jobs number ≡ o
      → AnswersKept number text (decision_of change) c o a c' → JobsStay c c'
  job_stays c a c' None there (left, decides, is) other job kept_there =
      ap (λ (x : Content). x.jobs other) is ∙ past (nat_eq number other) refl
      ∙ ap (λ (jobs : ℕ → Option KeptJob). jobs other) (jobs_stay change c a left decides) ∙ kept_there
    where
      past : (b : Bool) → nat_eq number other ≡ b
          → (if b then Some (kept number text a) else left.jobs other) ≡ left.jobs other
      past true same =
          let own : c.jobs other ≡ None = subst (λ n. c.jobs n ≡ None) (eqb-true number other same) there in
          absurd cc
      past false same = refl
  job_stays c a c' (Some known) there (is, how) other job kept_there =
      ap (λ (x : Content). x.jobs other) is ∙ kept_there

-- a statement whose answer is known: it is refused for its data alone, or its job is
abbrev Knows : Statement → Answer → Content → Type 0
Knows (DefineJob number text kind given) a c =
    ((n : ℕ) × IsFaulty kind given n × (a ≡ Err (FaultyData n)))
    ⊎ ((block : Block) × AreRead kind given block × IsKnown number text a c)
Knows (Job number text change) a c = IsKnown number text a c
Knows statement a c = Unit {0}

step_known : (s : Statement) (c : Content) (a : Answer) (c' : Content) → Steps s c a c' → Knows s a c'
step_known (DefineJob number text kind given) c a c' (inl (n, faulty, is, same)) = inl (n, faulty, is)
step_known (DefineJob number text kind given) c a c' (inr (block, read, h)) =
    inr (block, read, job_known number text (Define block) c a c' (c.jobs number) refl h)
step_known (Job number text change) c a c' h = job_known number text change c a c' (c.jobs number) refl h
step_known (Days app from to) c a c' h = tt
step_known (Trial change) c a c' h = tt
step_known (ListRows listed app) c a c' h = tt
step_known (ListPairs app) c a c' h = tt
step_known (ListLinks app) c a c' h = tt

-- it stays known while kept jobs stay
still_known : (s : Statement) (a : Answer) (c c' : Content) → JobsStay c c' → Knows s a c → Knows s a c'
still_known (DefineJob number text kind given) a c c' stay (inl faulty) = inl faulty
still_known (DefineJob number text kind given) a c c' stay (inr (block, read, (job, there, how))) =
    inr (block, read, (job, stay number job there, how))
still_known (Job number text change) a c c' stay (job, there, how) = (job, stay number job there, how)
still_known (Days app from to) a c c' stay h = tt
still_known (Trial change) a c c' stay h = tt
still_known (ListRows listed app) a c c' stay h = tt
still_known (ListPairs app) a c c' stay h = tt
still_known (ListLinks app) a c c' stay h = tt

-- run again, it changes nothing, and with a number it is answered as it was
abbrev AgainAs : Statement → Answer → Answer → Content → Content → Type 0
AgainAs s a b c c' = (c' ≡ c) × ((number : ℕ) → job_number s ≡ Some number → b ≡ a)

known_again : (s : Statement) (a : Answer) (c : Content) (b : Answer) (c' : Content) → Knows s a c → Steps s c b c'
    → AgainAs s a b c c'
known_again (DefineJob number text kind given) a c b c' (inl (m, k, is)) (inl (n, h, is', same)) =
    (same, λ number' has. is' ∙ ap (λ x. Err (FaultyData x)) (faulty_once kind given n m h k) ∙ sym is)
known_again (DefineJob number text kind given) a c b c' (inl (m, k, is)) (inr (block, read, h)) =
    absurd (read_or_faulty kind given block m read k)
known_again (DefineJob number text kind given) a c b c' (inr (block, read, known)) (inl (n, h, is', same)) =
    absurd (read_or_faulty kind given block n read h)
known_again (DefineJob number text kind given) a c b c' (inr (block, read, known)) (inr (block', read', h)) =
    let (is, one) = job_again number text (Define block') c a b c' known h in (is, λ number' has. one)
known_again (Job number text change) a c b c' known h =
    let (is, one) = job_again number text change c a b c' known h in (is, λ number' has. one)
known_again (Days app from to) a c b c' known h =
    (asks_nothing (days app from to) (λ c reply c' does. does.0) c b c' h, λ number has. absurd cc)
known_again (Trial change) a c b c' known h =
    (asks_nothing (trial (decision_of change)) (λ c reply c' does. does.0) c b c' h, λ number has. absurd cc)
known_again (ListRows listed app) a c b c' known h =
    (asks_nothing (list_rows listed app) (λ c reply c' does. does.0) c b c' h, λ number has. absurd cc)
known_again (ListPairs app) a c b c' known h =
    (asks_nothing (list_pairs app) (λ c reply c' does. does.0) c b c' h, λ number has. absurd cc)
known_again (ListLinks app) a c b c' known h =
    (asks_nothing (list_links app) (λ c reply c' does. does.0) c b c' h, λ number has. absurd cc)

-- kept jobs stay over a step, and over a run
same_jobs : (c c' : Content) → c' ≡ c → JobsStay c c'
same_jobs c c' is number job there = ap (λ (x : Content). x.jobs number) is ∙ there

step_stays : (s : Statement) (c : Content) (a : Answer) (c' : Content) → Steps s c a c' → JobsStay c c'
step_stays (DefineJob number text kind given) c a c' (inl (n, faulty, is, same)) = same_jobs c c' same
step_stays (DefineJob number text kind given) c a c' (inr (block, read, h)) =
    job_stays number text (Define block) c a c' (c.jobs number) refl h
step_stays (Job number text change) c a c' h = job_stays number text change c a c' (c.jobs number) refl h
step_stays (Days app from to) c a c' h =
    same_jobs c c' (asks_nothing (days app from to) (λ c reply c' does. does.0) c a c' h)
step_stays (Trial change) c a c' h =
    same_jobs c c' (asks_nothing (trial (decision_of change)) (λ c reply c' does. does.0) c a c' h)
step_stays (ListRows listed app) c a c' h =
    same_jobs c c' (asks_nothing (list_rows listed app) (λ c reply c' does. does.0) c a c' h)
step_stays (ListPairs app) c a c' h =
    same_jobs c c' (asks_nothing (list_pairs app) (λ c reply c' does. does.0) c a c' h)
step_stays (ListLinks app) c a c' h =
    same_jobs c c' (asks_nothing (list_links app) (λ c reply c' does. does.0) c a c' h)

run_stays : (stream : List Statement) (c : Content) (answers : List Answer) (c' : Content) → Runs stream c answers c'
    → JobsStay c c'
run_stays [] c [] c' r = same_jobs c c' r
run_stays [] c (a ∷ answers) c' r = absurd r
run_stays (s ∷ stream) c [] c' r = absurd r
run_stays (s ∷ stream) c (a ∷ answers) c' (next, d, r) =
    λ number job there. run_stays stream next answers c' r number job (step_stays s c a next d number job there)

-- all statements of a stream are known
abbrev AllKnown : List Statement → List Answer → Content → Type 0
AllKnown [] [] c = Unit {0}
AllKnown [] (a ∷ answers) c = ⊥
AllKnown (s ∷ stream) [] c = ⊥
AllKnown (s ∷ stream) (a ∷ answers) c = Knows s a c × AllKnown stream answers c

run_known : (stream : List Statement) (c : Content) (answers : List Answer) (c' : Content)
    → Runs stream c answers c' → AllKnown stream answers c'
run_known [] c [] c' r = tt
run_known [] c (a ∷ answers) c' r = absurd r
run_known (s ∷ stream) c [] c' r = absurd r
run_known (s ∷ stream) c (a ∷ answers) c' (next, d, r) = (
  still_known s a next c' (run_stays stream next answers c' r) (step_known s c a next d),
  run_known stream next answers c' r,
)

-- on content that knows them, they change nothing, and the rest goes on from there
goes_again : (first rest : List Statement) (c : Content) (before again : List Answer) (c' : Content)
    → AllKnown first before c → Runs (first ++ rest) c again c'
    → (later : List Answer) × Runs rest c later c' × AnswersAgree (first ++ rest) (before ++ later) again
goes_again [] rest c [] again c' known r = (again, r, λ place number h. refl)
goes_again [] rest c (a ∷ before) again c' known r = absurd known
goes_again (s ∷ first) rest c [] again c' known r = absurd known
goes_again (s ∷ first) rest c (a ∷ before) [] c' known r = absurd r
goes_again (s ∷ first) rest c (a ∷ before) (b ∷ again) c' (known, more) (next, d, r) =
    let (is, one) = known_again s a c b next known d in
    let (later, run, agree) =
    goes_again first rest c before again c' more (subst (λ x. Runs (first ++ rest) x again c') is r) in
    (later, run, with_this later one agree)
  where
    with_this : (later : List Answer) → ((number : ℕ) → job_number s ≡ Some number → b ≡ a)
        → AnswersAgree (first ++ rest) (before ++ later) again
        → AnswersAgree (s ∷ (first ++ rest)) (a ∷ (before ++ later)) (b ∷ again)
    with_this later one agree zero number (t, at, has) =
        let same : t ≡ s = cc in
        ap (λ x. Some x) (one number (subst (λ x. job_number x ≡ Some number) same has))
    with_this later one agree (suc place) number h = agree place number h

joined : (first rest : List Statement) (c : Content) (before later : List Answer) (c1 c' : Content)
    → Runs first c before c1 → Runs rest c1 later c' → Runs (first ++ rest) c (before ++ later) c'
joined [] rest c [] later c1 c' r r' = subst (λ x. Runs rest x later c') r r'
joined [] rest c (a ∷ before) later c1 c' r r' = absurd r
joined (s ∷ first) rest c [] later c1 c' r r' = absurd r
joined (s ∷ first) rest c (a ∷ before) later c1 c' (next, d, r) r' =
    (next, d, joined first rest next before later c1 c' r r')

pub as_one_run : RerunEndsAsOneRun
as_one_run first rest c c1 c' before again r r' =
    let (later, run, agree) = goes_again first rest c1 before again c' (run_known first c before c1 r) r' in
    (before ++ later, joined first rest c before later c1 c' r run, agree)

pub as_each_run : RerunEndsAsEachRun
as_each_run first rest c c1 c' c'' before answers again sound fine r whole r' =
    let (found, run, agree) = as_one_run first rest c c1 c'' before again r r' in
    let same = one_way (first ++ rest) found answers c c'' c' sound fine run whole in
    (same.1, subst (λ x. AnswersAgree (first ++ rest) x again) same.0 agree)
