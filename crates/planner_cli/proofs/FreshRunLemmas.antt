-- Runs that leave fresh content: item by item.
use Rattle.std.proofs.Common.{◌≡◌, ◌⊎◌, ◌∙◌, ℕ, List, [], ◌∷◌, ◌++◌, refl, sym, ap, subst, inl, inr, arith}
use Rattle.std.proofs.Common.{Option, None, Some, true, false}
use Rattle.std.specs.Prelude.{Ok, Err, flat_map}
use Rattle.std.proofs.lemmas.List.Elements.{All-cons}
use Rattle.occurrences.specs.declared.reply.Reply.{Reply as Outcome}
use Rattle.plan_listings.specs.Reply.{refusal_text, reply_text}
use Rattle.planner_machine.specs.declared.job.Job.{Job as KeptJob}
use Rattle.planner_machine.specs.Content.{Content}
use Rattle.planner_machine.specs.Fresh.{IsFresh, IsRefused, IsRepeated, LeavesFresh, Redefines}
use Rattle.planner_machine.specs.Fresh.{StaysFresh}
use Rattle.planner_machine.specs.Jobs.{AnswersJob, AnswersKept}
use Rattle.planner_machine.specs.Laws.{IsWellFormed, StaysSound}
use Rattle.planner_machine.specs.Sound.{IsSound}
use Rattle.planner_machine.specs.Statement.{Answer, Change, Create, Job, ModifyAll, Statement, decision_of}
use Rattle.planner_machine.specs.Stream.{IsStatement, RunsSound}
use Rattle.planner_cli_stream.specs.Items.{Item}
use Rattle.planner_cli.specs.Requests.{Asks}
use Rattle.planner_cli.specs.Faults.{cause_of, fault_line}
use Rattle.planner_cli.specs.FreshRuns.{CrashLeavesFresh, FaultLeavesFresh, ItemsLeaveFresh, KeepsDefinitions}
use Rattle.planner_cli.specs.FreshRuns.{KeepsInProgress, LeavesDefinitions, MakesFresh, MakesPlan, PlansAnew}
use Rattle.planner_cli.specs.FreshRuns.{RunLeavesFresh}
use Rattle.planner_cli.specs.Meaning.{Answers}
use Rattle.planner_cli.specs.Outcomes.{answer_text}
use Rattle.planner_cli.specs.Replies.{AnswerLines, ended as ended_line, is_accepted}
use Rattle.planner_cli.specs.Runs.{LeavesInProgress}
use Rattle.planner_cli.specs.Steps.{AnswersAsked, Serves, Step}
use Rattle.planner_cli.proofs.OutcomeLemmas.{accepted_prints, refused_prints}
use Rattle.planner_cli.proofs.PlanLemmas.{answers_sound, ended, step_sound}
use Rattle.planner_cli.proofs.RerunLemmas.{OneStatement, asks_one}

-- whether a reply is accepted is told by its line
accepted_by_line : (reply : AnswerLines) (line : List ℕ) → reply.line ≡ line
    → is_accepted reply ≡ is_accepted (record { rows = reply.rows; line = line })
accepted_by_line reply line is = ap (λ (l : List ℕ). is_accepted (record { rows = reply.rows; line = l })) is

is_ok : (reply : AnswerLines) (outcome : Outcome) → reply.line ≡ answer_text (Ok outcome) → is_accepted reply ≡ true
is_ok reply outcome is =
    let shown = accepted_prints outcome reply.rows (flat_map ended_line reply.rows ++ ended_line (reply_text outcome))
    refl in
    accepted_by_line reply (reply_text outcome) is ∙ sym shown.accepted_is

-- an accepted reply is that of an accepted statement
outcome_of : (reply : AnswerLines) (a : Answer) → reply.line ≡ answer_text a → is_accepted reply ≡ true
    → (outcome : Outcome) × (a ≡ Ok outcome)
outcome_of reply (Ok outcome) is accepted = (outcome, refl)
outcome_of reply (Err r) is accepted =
    let refused = refused_prints r reply.rows (flat_map ended_line reply.rows ++ ended_line (refusal_text r)) refl in
    let both : false ≡ true = refused.accepted_is ∙ sym (accepted_by_line reply (refusal_text r) is) ∙ accepted in
    absurd (let no : ⊥ = cc both in no)

refused_or_kept : (s : Statement) (c : Content) (reply : AnswerLines) (a : Answer) → reply.line ≡ answer_text a
    → (Redefines s → is_accepted reply ≡ true → IsRepeated s c) → Redefines s → IsRefused a ⊎ IsRepeated s c
refused_or_kept s c reply (Ok outcome) is leaves redefines = inr (leaves redefines (is_ok reply outcome is))
refused_or_kept s c reply (Err r) is leaves redefines = inl tt

module _ (one : OneStatement) (stays : StaysFresh) (keeps : RunsSound) where
  -- an item that leaves the definitions, from fresh content
  asked_keeps : (asked : Option Statement) (c c' : Content) (reply : AnswerLines) → IsSound c
      → ((s : Statement) → asked ≡ Some s → Redefines s → is_accepted reply ≡ true → IsRepeated s c)
      → AnswersAsked asked c reply c' → IsFresh c → IsFresh c'
  asked_keeps None c c' reply sound leaves h fresh = subst IsFresh (sym h.1) fresh
  asked_keeps (Some s) c c' reply sound leaves h fresh =
      stays (s ∷ []) (h.answer ∷ []) c c' sound
      (All-cons IsStatement s [] h.well_formed (λ k d lt. absurd (omega (arith, lt)))) (c', h.steps, refl)
      (refused_or_kept s c reply h.answer h.line (leaves s refl), tt) fresh

  step_keeps : (item : Item) (c c' : Content) (reply : AnswerLines) → IsSound c → LeavesDefinitions item c reply
      → Step c item reply c' → IsFresh c → IsFresh c'
  step_keeps item c c' reply sound leaves (asked, asks, h) fresh =
      asked_keeps asked c c' reply sound
      (λ s is redefines accepted. leaves s (subst (Asks item) is asks) redefines accepted) h fresh

  items_keep : (items : List Item) (replies : List AnswerLines) (c c' : Content) → IsSound c
      → (run : Answers Step c items replies c') → KeepsDefinitions items replies c c' run → IsFresh c → IsFresh c'
  items_keep [] replies c c' sound run leaves fresh = subst IsFresh (sym run.1) fresh
  items_keep (item ∷ items) replies c c' sound (reply, rest, between, is, step, later) (leaves, more) fresh =
      items_keep items rest between c' (step_sound keeps c between item reply sound step) later more
      (step_keeps item c between reply sound leaves step fresh)

  -- the item in hand too, where it is neither `define` nor `undefine`
  hand_keeps : (c c' : Content) (hand : Option Item) → IsSound c → KeepsInProgress hand
      → (c' ≡ c) ⊎ LeavesInProgress Step c hand c' → IsFresh c → IsFresh c'
  hand_keeps c c' hand sound leaves (inl same) fresh = subst IsFresh (sym same) fresh
  hand_keeps c c' hand sound leaves (inr (item, is, (reply, step))) fresh =
      step_keeps item c c' reply sound (λ s asks redefines accepted. absurd (leaves item s is asks redefines)) step
      fresh

  module _ (create : (from to : ℕ) → LeavesFresh (Create from to)) (modify : LeavesFresh ModifyAll)
      (sound_stays : (change : Change) → IsWellFormed change → StaysSound change) where
    -- each of the two leaves fresh content
    planned : (change : Change) → MakesPlan change → LeavesFresh change
    planned change (inl (from, to, is)) = subst LeavesFresh (sym is) (create from to)
    planned change (inr is) = subst LeavesFresh (sym is) modify

    job_plans : (number : ℕ) (text : List ℕ) (change : Change) (c c' : Content) (outcome : Outcome) → IsSound c
        → IsWellFormed change → MakesPlan change
        → AnswersKept number text (decision_of change) c None (Ok outcome) c' → IsFresh c'
    job_plans number text change c c' outcome sound fine plans (left, decides, is) =
        subst IsFresh (sym is)
        (planned change plans c outcome left sound (sound_stays change fine c (Ok outcome) left sound decides) decides)

    serves_plans : (number : ℕ) (text : List ℕ) (change : Change) (c c' : Content) (reply : AnswerLines) → IsSound c
        → MakesPlan change → c.jobs number ≡ None → is_accepted reply ≡ true
        → Serves (Job number text change) c reply c' → IsFresh c'
    serves_plans number text change c c' reply sound plans unknown accepted h =
        let (outcome, is) = outcome_of reply h.answer h.line accepted in
        job_plans number text change c c' outcome sound h.well_formed.2 plans
        (subst (λ (o : Option KeptJob). AnswersKept number text (decision_of change) c o (Ok outcome) c') unknown
        (subst (λ (a : Answer). AnswersJob number text (decision_of change) c a c') is h.steps))

    step_plans : (item : Item) (c c' : Content) (reply : AnswerLines) → IsSound c → PlansAnew item c reply
        → Step c item reply c' → IsFresh c'
    step_plans item c c' reply sound p (asked, asks, h) =
        serves_plans p.number p.text p.change c c' reply sound p.plans p.unknown p.accepted
        (subst (λ (o : Option Statement). AnswersAsked o c reply c')
        (asks_one one item asked (Some (Job p.number p.text p.change)) asks p.asks) h)

    items_make : (items : List Item) (replies : List AnswerLines) (c c' : Content) → IsSound c
        → (run : Answers Step c items replies c') → MakesFresh items replies c c' run → IsFresh c'
    items_make [] replies c c' sound run makes = absurd makes
    items_make (item ∷ items) replies c c' sound (reply, rest, between, is, step, later) (inl (plans, more)) =
        items_keep items rest between c' (step_sound keeps c between item reply sound step) later more
        (step_plans item c between reply sound plans step)
    items_make (item ∷ items) replies c c' sound (reply, rest, between, is, step, later) (inr makes) =
        items_make items rest between c' (step_sound keeps c between item reply sound step) later makes

    pub items_fresh : ItemsLeaveFresh
    items_fresh items replies c c' sound run (inl makes) = items_make items replies c c' sound run makes
    items_fresh items replies c c' sound run (inr (fresh, leaves)) =
        items_keep items replies c c' sound run leaves fresh

    pub run_fresh : RunLeavesFresh
    run_fresh ends tally sound ran leads =
        items_fresh ran.items ran.replies ends.before ends.after sound ran.answers leads

    pub fault_fresh : FaultLeavesFresh
    fault_fresh c c' w w' read fault sound stopped leads =
        let fresh = items_fresh stopped.done stopped.replies c stopped.between sound stopped.answers leads in (
          fresh,
          λ leaves. hand_keeps stopped.between c' stopped.hand
              (answers_sound keeps stopped.done stopped.replies c stopped.between sound stopped.answers) leaves
              (ended (cause_of fault) (fault_line (cause_of fault)) stopped.between c' stopped.hand stopped.tail
              stopped.ending) fresh,
        )

    pub crash_fresh : CrashLeavesFresh
    crash_fresh c c' left w w' read fault sound crashed leads leaves =
        let stopped = crashed.stopped in
        hand_keeps stopped.between left stopped.hand
        (answers_sound keeps stopped.done stopped.replies c stopped.between sound stopped.answers) leaves crashed.leaves
        (items_fresh stopped.done stopped.replies c stopped.between sound stopped.answers leads)
