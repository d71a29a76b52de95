-- What the items of a stream make of the plans.
use Rattle.std.proofs.Common.{◌≡◌, ◌⊎◌, ℕ, List, [], ◌∷◌, ◌++◌, refl, sym, subst, inl, inr, arith}
use Rattle.std.specs.Prelude.{All, None, Option, Some}
use Rattle.std.proofs.lemmas.List.Elements.{All-cons}
use Rattle.planner_machine.specs.Content.{Content}
use Rattle.planner_machine.specs.Sound.{IsSound}
use Rattle.planner_machine.specs.Rerun.{job_number}
use Rattle.planner_machine.specs.Statement.{Answer, Days, DefineJob, Job, ListLinks, ListPairs, ListRows, Statement}
use Rattle.planner_machine.specs.Statement.{Trial}
use Rattle.planner_machine.specs.Stream.{IsStatement, Runs, RunsByFate, RunsSound}
use Rattle.planner_cli_stream.specs.Items.{Item}
use Rattle.planner_cli.specs.Requests.{AreAsked, Asks}
use Rattle.planner_cli.specs.Faults.{cause_of, fault_line}
use Rattle.planner_cli.specs.Meaning.{Answers}
use Rattle.planner_cli.specs.Outcomes.{answering}
use Rattle.planner_cli.specs.Plans.{AreAnswered, CrashedPlan, LeadsTo, RanPlan, RepliedPlan, StoppedPlan}
use Rattle.planner_cli.specs.Replies.{AnswerLines}
use Rattle.planner_cli.specs.Runs.{Crashed, EndsBy, LeavesInProgress, Ran, Stopped, ends_of}
use Rattle.planner_cli.specs.Steps.{AnswersAsked, Serves, Step}
use Rattle.planner_cli.specs.declared.faults.Cause.{Cause}
use Rattle.planner_cli.specs.declared.faults.Cause.TheVariants.{Device, Memory}
use Rattle.planner_cli.specs.declared.faults.FaultSource.TheVariants.{Reader, Store, Writer}
use Rattle.planner_cli.specs.declared.faults.RunFault.{RunFault}
use Rattle.planner_cli.specs.declared.tally.Tally.{Tally}
use Rattle.planner_cli.proofs.Progress.{answers_more}

-- a step leaves what is sound sound
asked_sound : RunsSound → (asked : Option Statement) (c c' : Content) (reply : AnswerLines) → IsSound c
    → AnswersAsked asked c reply c' → IsSound c'
asked_sound law None c c' reply sound h = subst IsSound (sym h.1) sound
asked_sound law (Some s) c c' reply sound h =
    law (s ∷ []) (h.answer ∷ []) c c' sound
    (All-cons IsStatement s [] h.well_formed (λ k d lt. absurd (omega (arith, lt)))) (c', h.steps, refl)

pub step_sound : RunsSound → (c c' : Content) (item : Item) (reply : AnswerLines) → IsSound c → Step c item reply c'
    → IsSound c'
step_sound law c c' item reply sound (asked, asks, h) = asked_sound law asked c c' reply sound h

pub answers_sound : RunsSound → (items : List Item) (replies : List AnswerLines) (c c' : Content) → IsSound c
    → Answers Step c items replies c' → IsSound c'
answers_sound law [] replies c c' sound h = subst IsSound (sym h.1) sound
answers_sound law (item ∷ items) replies c c' sound (reply, rest, between, is, step, later) =
    answers_sound law items rest between c' (step_sound law c between item reply sound step) later

-- what a job's reply shows: its answer alone
abbrev pub TellsJob : Statement → Answer → AnswerLines → Type 0
TellsJob s answer reply = (number : ℕ) → job_number s ≡ Some number → reply ≡ answering answer

-- how the replies stand to the statements of the items and to their answers
abbrev pub TellsAsked : Option Statement → (List Statement → List Answer → Type 0) → List Statement → List Answer
    → AnswerLines → Type 0
TellsAsked None More stream answers reply = More stream answers
TellsAsked (Some s) More stream answers reply =
    (rest : List Statement) × (a : Answer) × (later : List Answer) × (stream ≡ s ∷ rest) × (answers ≡ a ∷ later)
    × TellsJob s a reply × More rest later

abbrev pub Tells : List Item → List Statement → List Answer → List AnswerLines → Type 0
Tells [] stream answers replies = Unit {0}
Tells (item ∷ items) stream answers replies =
    (asked : Option Statement) × (reply : AnswerLines) × (rest : List AnswerLines) × (replies ≡ reply ∷ rest) × Asks item asked
    × TellsAsked asked (λ stream' answers'. Tells items stream' answers' rest) stream answers reply

job_told : (s : Statement) (c c' : Content) (reply : AnswerLines) (h : Serves s c reply c') → TellsJob s h.answer reply
job_told (DefineJob job text kind given) c c' reply h number is = λ i. record { rows = h.rows i; line = h.line i }
job_told (Job job text change) c c' reply h number is = λ i. record { rows = h.rows i; line = h.line i }
job_told (Days app from to) c c' reply h number is = absurd (let no : ⊥ = cc is in no)
job_told (Trial change) c c' reply h number is = absurd (let no : ⊥ = cc is in no)
job_told (ListRows listed app) c c' reply h number is = absurd (let no : ⊥ = cc is in no)
job_told (ListPairs app) c c' reply h number is = absurd (let no : ⊥ = cc is in no)
job_told (ListLinks app) c c' reply h number is = absurd (let no : ⊥ = cc is in no)

-- the statements of the items that were answered
pub record Led (items : List Item) (replies : List AnswerLines) (c c' : Content) : Type 0 where
  pub stream : List Statement
  pub answers : List Answer
  pub asked : AreAsked items stream
  pub well_formed : All IsStatement stream
  pub run : Runs stream c answers c'
  pub tells : Tells items stream answers replies

led_on : (item : Item) (items : List Item) (asked : Option Statement) (c between c' : Content) (reply : AnswerLines)
    (replies all : List AnswerLines)
    → all ≡ reply ∷ replies → Asks item asked
    → AnswersAsked asked c reply between → Led items replies between c' → Led (item ∷ items) all c c'
led_on item items None c between c' reply replies all is asks h rest = record {
  stream = rest.stream;
  answers = rest.answers;
  asked = (None, rest.stream, refl, asks, rest.asked);
  well_formed = rest.well_formed;
  run = subst (λ x. Runs rest.stream x rest.answers c') h.1 rest.run;
  tells = (None, reply, replies, is, asks, rest.tells);
}
led_on item items (Some s) c between c' reply replies all is asks h rest = record {
  stream = s ∷ rest.stream;
  answers = h.answer ∷ rest.answers;
  asked = (Some s, rest.stream, refl, asks, rest.asked);
  well_formed = All-cons IsStatement s rest.stream h.well_formed rest.well_formed;
  run = (between, h.steps, rest.run);
  tells = (
    Some s,
    reply,
    replies,
    is,
    asks,
    (rest.stream, h.answer, rest.answers, refl, refl, job_told s c between reply h, rest.tells),
  );
}

pub led : (items : List Item) (replies : List AnswerLines) (c c' : Content) → Answers Step c items replies c'
    → Led items replies c c'
led [] replies c c' h = record {
  stream = [];
  answers = [];
  asked = refl;
  well_formed = λ k d lt. absurd (omega (arith, lt));
  run = h.1;
  tells = tt;
}
led (item ∷ items) replies c c' (reply, rest, between, e, (asked, asks, h), later) =
    led_on item items asked c between c' reply rest replies e asks h (led items rest between c' later)

pub leads : RunsSound → RunsByFate → (items : List Item) (replies : List AnswerLines) (c c' : Content) → IsSound c
    → Answers Step c items replies c' → LeadsTo items c c'
leads law fates items replies c c' sound h =
    let all = led items replies c c' h in
    record {
      stream = all.stream;
      answers = all.answers;
      asked = all.asked;
      well_formed = all.well_formed;
      run = all.run;
      sound = law all.stream all.answers c c' sound all.well_formed all.run;
      placed = fates all.stream all.answers c c' sound all.well_formed all.run;
    }

pub ran_leads : RunsSound → RunsByFate → (c c' : Content) (w w' read : Option (List ℕ)) (tally : Tally) → IsSound c
    → Ran Step (ends_of c c' w w' read) tally
    → RanPlan (ends_of c c' w w' read) tally
ran_leads law fates c c' w w' read tally sound h =
    record { ran = h; leads = leads law fates h.items h.replies c c' sound h.answers }

-- what was answered before a fault
pub record Reached (done : List Item) (replies : List AnswerLines) (c c' : Content) (hand : Option Item) : Type 0 where
  pub items : List Item
  pub told : List AnswerLines
  pub are_answered : AreAnswered done hand items
  pub answers : Answers Step c items told c'

-- where nothing changed since, or the item in hand was answered
since : (done : List Item) (replies : List AnswerLines) (c between c' : Content) (hand : Option Item)
    → Answers Step c done replies between
    → (c' ≡ between) ⊎ LeavesInProgress Step between hand c' → Reached done replies c c' hand
since done replies c between c' hand h (inl same) = record {
  items = done;
  told = replies;
  are_answered = inl refl;
  answers = subst (Answers Step c done replies) (sym same) h;
}
since done replies c between c' hand h (inr (item, is, (reply, step))) = record {
  items = done ++ item ∷ [];
  told = replies ++ reply ∷ [];
  are_answered = inr (item, is, refl);
  answers = answers_more Step c between c' done replies item reply h step;
}

-- a fault changes nothing after the answers, but for the item in hand
pub ended : (cause : Cause) (line : List ℕ) (between c' : Content) (hand : Option Item) (tail : List ℕ)
    → EndsBy Step cause line between c' hand tail
    → (c' ≡ between) ⊎ LeavesInProgress Step between hand c'
ended Memory line between c' hand tail h = inl h.0
ended (Device Store) line between c' hand tail h = h.0
ended (Device Reader) line between c' hand tail h = inl h.0
ended (Device Writer) line between c' hand tail (inl (item, is, (reply, step, front))) = inr (item, is, (reply, step))
ended (Device Writer) line between c' hand tail (inr (same, lists)) = inl same

pub reached : (line : Cause → List ℕ) (c c' : Content) (w w' read : Option (List ℕ)) (fault : RunFault)
    (h : Stopped Step line (ends_of c c' w w' read) fault)
    → Reached h.done h.replies c c' h.hand
reached line c c' w w' read fault h =
    since h.done h.replies c h.between c' h.hand h.answers
    (ended (cause_of fault) (line (cause_of fault)) h.between c' h.hand h.tail h.ending)

-- what was answered before a crash
pub reached_by_crash : (c c' : Content) (w w' read : Option (List ℕ)) (fault : RunFault) (left : Content)
    (h : Crashed Step fault_line (ends_of c c' w w' read) fault left)
    → Reached h.stopped.done h.stopped.replies c left h.stopped.hand
reached_by_crash c c' w w' read fault left h =
    since h.stopped.done h.stopped.replies c h.stopped.between left h.stopped.hand h.stopped.answers h.leaves

pub crashed_leads : RunsSound → RunsByFate → (c c' : Content) (w w' read : Option (List ℕ)) (fault : RunFault)
    (left : Content) → IsSound c
    → Crashed Step fault_line (ends_of c c' w w' read) fault left → CrashedPlan (ends_of c c' w w' read) fault left
crashed_leads law fates c c' w w' read fault left sound h =
    let at = reached_by_crash c c' w w' read fault left h in
    record {
      crashed = h;
      items = at.items;
      are_answered = at.are_answered;
      leads = leads law fates at.items at.told c left sound at.answers;
    }

pub replied_leads : RunsSound → RunsByFate → (c c' last : Content) (w w' read : Option (List ℕ)) (fault : RunFault)
    → IsSound c
    → Stopped Step fault_line (ends_of c last w w' read) fault → RepliedPlan (ends_of c c' w w' read) fault
replied_leads law fates c c' last w w' read fault sound h =
    record { last = last; stopped = h; leads = leads law fates h.done h.replies c h.between sound h.answers }

pub stopped_leads : RunsSound → RunsByFate → (c c' : Content) (w w' read : Option (List ℕ)) (fault : RunFault)
    → IsSound c
    → Stopped Step fault_line (ends_of c c' w w' read) fault → StoppedPlan (ends_of c c' w w' read) fault
stopped_leads law fates c c' w w' read fault sound h =
    let at = reached fault_line c c' w w' read fault h in
    record {
      stopped = h;
      items = at.items;
      are_answered = at.are_answered;
      leads = leads law fates at.items at.told c c' sound at.answers;
    }
