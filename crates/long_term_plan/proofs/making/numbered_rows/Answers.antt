use Rattle.std.proofs.Common.{◌≡◌, ◌+◌, ◌++◌, ◌∷◌, ◌∙◌, [], length, ap, arith, sym, take}
use Rattle.std.proofs.lemmas.List.{length-take-le, take_all, take_more}
use Rattle.long_term_plan.specs.Making.{numbered}
use Rattle.long_term_plan.proofs.NumberLemmas.{numbered_more}
use Rattle.long_term_plan.proofs.making.numbered_rows.Goals as goal

-- one more row
pub loop-draft-preserved : goal.loop-draft-preserved
loop-draft-preserved c =
    let drafts = c.args.drafts.now in
    let draft = c.draft-item.result in
    let index = c.loop-draft.draft-index in
    let n = c.args.issued in
    let within = c.loop-draft-test.true in
    let number = c.loop-draft.number + 1 in
    let front : take (index + 1) drafts ≡ take index drafts ++ draft ∷ [] =
    take_more drafts index draft within ∙ ap (λ x. take index drafts ++ x ∷ []) (sym c.draft-item.is) in
    let short : length (take index drafts) ≡ index = length-take-le index drafts (omega (arith, within)) in
    let counted = c.loop-draft.invariant.1 in
    let more = numbered_more n (take index drafts) draft number (omega (arith, short, counted)) in (
      c.in_ok-push.ensures.items
          ∙ ap (λ rows. rows ++ c.numbered_row.result ∷ []) c.loop-draft.invariant.0
          ∙ ap (λ row. numbered n (take index drafts) ++ row ∷ []) c.numbered_row.ensures
          ∙ sym more ∙ sym (ap (numbered n) front),
      omega (arith, counted),
    )

pub returns : goal.returns
returns c =
    c.loop-draft.invariant.0 ∙ ap (numbered c.args.issued)
    (take_all c.loop-draft.draft-index c.args.drafts.now (omega arith))
