-- Trials beside the statements that they try.
use Rattle.std.proofs.Common.{refl, sym, subst}
use Rattle.std.specs.Prelude.{Ok, Err}
use Rattle.planner_machine.specs.Content.{Content}
use Rattle.planner_machine.specs.Decision.{Decides, Decision, trial}
use Rattle.planner_machine.specs.Jobs.{AnswersKept, kept, with_job}
use Rattle.planner_machine.specs.Statement.{Answer, Job, Steps, Trial, decision_of}
use Rattle.planner_machine.specs.Trials.{TrialAnswersAsStatement, TrialLeaves}
use Rattle.planner_machine.proofs.StepLemmas.{asks_nothing, trial_as}

as_trial : (d : Decision Content) (c : Content) (a : Answer) (left : Content) → Decides d c a left
    → Decides (trial d) c a c
as_trial d c (Ok reply) left (none, does) = (none, (refl, (left, does)))
as_trial d c (Err r) left (least, is) = (least, refl)

pub leaves : TrialLeaves
leaves change c c' a h = asks_nothing (trial (decision_of change)) (λ c reply c' does. does.0) c a c' h

pub answers : TrialAnswersAsStatement
answers change number text c a none = (there, back)
  where
    there : Steps (Trial change) c a c → (left : Content) × Steps (Job number text change) c a left
    there h =
        let (left, decides, is) = trial_as (decision_of change) c a c h in
        let after = with_job (kept number text a) left in
        (after, subst (λ o. AnswersKept number text (decision_of change) c o a after) (sym none) (left, decides, refl))

    back : (left : Content) × Steps (Job number text change) c a left → Steps (Trial change) c a c
    back (after, h) =
        let (left, decides, is) = subst (λ o. AnswersKept number text (decision_of change) c o a after) none h in
        as_trial (decision_of change) c a left decides
