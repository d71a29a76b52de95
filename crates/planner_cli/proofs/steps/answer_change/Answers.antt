use Rattle.std.proofs.Common.{◌∙◌, subst}
use Rattle.planner_cli.specs.Changes.{change_of}
use Rattle.planner_cli.proofs.ServeLemmas.{AnswersBoth, serves_job}
use Rattle.planner_cli.proofs.StoreLemmas.{answers_so, refused_so}
use Rattle.planner_cli.proofs.steps.answer_change.Goals as goal

pub returns : goal.returns
returns g c = answers_so g.S.PlanStore _ _ _ _ _ (λ honest reply c' h.
    let change = change_of c.args.change.now in
    serves_job c.args.number _ change _ c.requires c.change_is_well_formed.ensures reply c'
    (subst (λ t. AnswersBoth c.args.number t change (g.S.PlanStore.content c.args.store.now) reply c')
    (c.from_vec-text.ensures ∙ c.in_ok-joined_words.ensures) h)) c.answer_family.ensures

pub returns-in_err-joined_words : goal.returns-in_err-joined_words
returns-in_err-joined_words g c =
    refused_so g.S.PlanStore c.args.store.now c.from_residual.result _ c.from_residual.ensures.1
