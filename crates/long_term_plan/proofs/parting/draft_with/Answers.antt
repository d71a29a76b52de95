use Rattle.std.proofs.Common.{◌≡◌, ◌∙◌, ap, get_or, sym}
use Rattle.planner_machine.specs.declared.content.Draft.{Draft}
use Rattle.long_term_plan.proofs.PartingLemmas.{draft_nowhere, draft_there}
use Rattle.long_term_plan.proofs.parting.draft_with.Goals as goal

pub returns : goal.returns
returns c order =
    let named = c.args.named.now in
    let draft = c.index-named-at.result in
    let is = c.in_ok-at.ensures.is order in
    let stands : get_or named c.in_ok-at.at draft ≡ draft = sym c.index-named-at.is in
    sym (draft_there c.args.key.now named draft order (c.in_ok-at.at, is.0, stands)
    (ap (λ (d : Draft). d.key) (sym stands) ∙ is.1 draft))

pub returns-in_err-at : goal.returns-in_err-at
returns-in_err-at c order =
    c.from_residual.ensures ∙ sym (draft_nowhere c.args.key.now c.args.named.now (c.in_err-at.ensures.is order))
