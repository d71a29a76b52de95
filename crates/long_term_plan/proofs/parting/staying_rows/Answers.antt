use Rattle.std.proofs.Common.{◌≡◌, ◌+◌, ◌++◌, ◌∷◌, ◌∙◌, [], ap, arith, sym, take, None, Some}
use Rattle.std.specs.List.{filter_map}
use Rattle.std.proofs.lemmas.List.{append-nil, take_all, take_more}
use Rattle.long_term_plan.specs.Modifying.{outcome}
use Rattle.long_term_plan.proofs.PartingLemmas.{mapped_more}
use Rattle.long_term_plan.proofs.parting.staying_rows.Goals as goal
use Rattle.long_term_plan.proofs.parting.staying_rows.Goals.{in-Some+in_ok-push, in_default}

-- one more row
pub loop-row-preserved : goal.loop-row-preserved
loop-row-preserved c order =
    let rows = c.args.rows.now in
    let row = c.row-item.result in
    let index = c.loop-row.row-index in
    let f = outcome c.args.only.now c.args.named.now in
    let front : take (index + 1) rows ≡ take index rows ++ row ∷ [] =
    take_more rows index row c.loop-row-test.true ∙ ap (λ x. take index rows ++ x ∷ []) (sym c.row-item.is) in
    let before : c.loop-row.kept.items ≡ filter_map f (take index rows) = c.loop-row.invariant order in
    let more : c.match-outcome.kept.items ≡ filter_map f (take index rows ++ row ∷ []) = elim c.match-outcome.branch [
      | in-Some+in_ok-push w ↦
          let at : f row ≡ Some w.in-Some.now = sym (c.outcome.ensures order) ∙ w.in-Some.is in
          rw (w.kept-is, w.in_ok-push.ensures.items)
          (ap (λ xs. xs ++ w.in-Some.now ∷ []) before ∙ sym
          (mapped_more f (take index rows) row (Some w.in-Some.now) at))
      | in_default w ↦
          let at : f row ≡ None = sym (c.outcome.ensures order) ∙ w.in_default.is in
          rw w.kept-is
          (before ∙ sym (append-nil (filter_map f (take index rows)))
          ∙ sym (mapped_more f (take index rows) row None at))
    ] in
    more ∙ ap (filter_map f) (sym front)

pub returns : goal.returns
returns c order =
    c.loop-row.invariant order
    ∙ ap (filter_map (outcome c.args.only.now c.args.named.now))
    (take_all c.loop-row.row-index c.args.rows.now (omega arith))
