use Rattle.std.proofs.Common.{◌≡◌, ◌∙◌, ap, get_or, sym, true}
use Rattle.std.proofs.lemmas.List.{length-set}
use Rattle.planner_machine.specs.declared.content.Draft.{Draft}
use Rattle.long_term_plan.proofs.MetLemmas.{met_more, met_skip}
use Rattle.long_term_plan.proofs.PartingLemmas.{draft_nowhere, draft_there}
use Rattle.long_term_plan.proofs.parting.met_draft.Goals as goal

pub returns : goal.returns
returns c =
    let named = c.args.named.now in
    let met = c.args.met.now.items in
    let at = c.in_ok-at.at in
    let draft = c.index-named-at.result in
    let stands : get_or named at draft ≡ draft = sym c.index-named-at.is in
    record {
      draft = λ order. let is = c.in_ok-at.ensures.is order in
          sym (draft_there c.args.key.now named draft order (at, is.0, stands)
          (ap (λ (d : Draft). d.key) (sym stands) ∙ is.1 draft));
      met = λ order rows row same are. let is = c.in_ok-at.ensures.is order in
          met_more named order rows row met are at draft is.0 stands
          (ap (λ (d : Draft). d.key) (sym stands) ∙ is.1 draft ∙ sym same);
      count = length-set met at true;
    }

pub returns-in_err-at-clause-draft : goal.returns-in_err-at-clause-draft
returns-in_err-at-clause-draft c order =
    c.from_residual.ensures ∙ sym (draft_nowhere c.args.key.now c.args.named.now (c.in_err-at.ensures.is order))

pub returns-in_err-at-clause-met : goal.returns-in_err-at-clause-met
returns-in_err-at-clause-met c order rows row same are =
    met_skip c.args.named.now order rows row c.args.met.now.items are
    (λ draft there is. c.in_err-at.ensures.is order draft there (is ∙ same))
