use Rattle.std.proofs.Common.{◌∷◌, [], sym, ◌∙◌}
use Rattle.plan_tables_definitions.proofs.DraftLemmas.{width_9}
use Rattle.plan_tables_definitions.proofs.decoded_cycles.told_at.Goals as goal

pub returns-clause-value : goal.returns-clause-value
returns-clause-value c =
    let kind = c.in_ok-kind.ensures.value in
    width_9 c.args.row.now (sym c.len.ensures ∙ c.if-len-ne9.false) ∙ (λ i.
    c.requires i ∷ kind.letter i ∷ c.in_ok-period.ensures.value i ∷ c.in_ok-rule.ensures.value i
    ∷ c.in_ok-in_effect.ensures.value i ∷ c.in_ok-out_effect.ensures.value i ∷ c.in_ok-ia.ensures.value i
    ∷ kind.deadline.days i ∷ kind.deadline.time i ∷ [])
