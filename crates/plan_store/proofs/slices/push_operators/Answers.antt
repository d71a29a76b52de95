use Rattle.std.proofs.Common.{◌≡◌, ◌≢◌, ◌+◌, ◌++◌, ◌∷◌, ◌∙◌, [], true, false, ap, arith, refl, rules, sym, subst}
use Rattle.std.proofs.Common.{take, filter}
use Rattle.std.proofs.lemmas.List.{append_assoc, take_all, take_more}
use Rattle.occurrences.specs.declared.place.Deletion.{Deletion}
use Rattle.occurrences.specs.declared.place.Reason.{Reason}
use Rattle.occurrences.specs.declared.place.Reason.TheVariants.{Operator, Plan, Withdrawn}
use Rattle.plan_store.specs.Views.{is_by_operator}
use Rattle.plan_store.proofs.SliceLemmas.{push_failing, push_passing}
use Rattle.plan_store.proofs.slices.push_operators.Goals as goal
use Rattle.plan_store.proofs.slices.push_operators.Goals.{then-eq+in_ok-push, else-eq}

by_another : (reason : Reason) → reason ≢ Operator → is_by_operator reason ≡ false
by_another Operator other = absurd (other refl)
by_another Withdrawn other = refl
by_another Plan other = refl

-- one more deletion
pub loop-deletion-preserved : goal.loop-deletion-preserved
loop-deletion-preserved c =
    let rows = c.args.rows.now in
    let x = c.deletion-item.result in
    let index = c.loop-deletion.deletion-index in
    let first = c.args.found.now.items in
    let test = λ (y : Deletion). is_by_operator y.reason in
    let front : take (index + 1) rows ≡ take index rows ++ x ∷ [] =
    take_more rows index x c.loop-deletion-test.true ∙ ap (λ y. take index rows ++ y ∷ []) (sym c.deletion-item.is) in
    let more : c.if-eq.found.items ≡ first ++ filter test (take index rows ++ x ∷ []) = elim c.if-eq.branch [
      | then-eq+in_ok-push w ↦
          let reason : x.reason ≡ Operator = search rules in
          let passes : test x ≡ true = subst (λ r. is_by_operator r ≡ true) (sym reason) refl in
          rw (w.found-is, w.in_ok-push.ensures.items, c.loop-deletion.invariant)
          (append_assoc first (filter test (take index rows)) (x ∷ [])
          ∙ ap (λ l. first ++ l) (sym (push_passing test (take index rows) x passes)))
      | else-eq w ↦
          let other : x.reason ≢ Operator = search rules in
          rw (w.found-is, c.loop-deletion.invariant)
          (ap (λ l. first ++ l) (sym (push_failing test (take index rows) x (by_another x.reason other))))
    ] in
    subst (λ ds. c.if-eq.found.items ≡ first ++ filter test ds) (sym front) more

-- all deletions
pub returns : goal.returns
returns c =
    c.loop-deletion.invariant
    ∙ ap (λ ds. c.args.found.now.items ++ filter (λ (y : Deletion). is_by_operator y.reason) ds)
    (take_all c.loop-deletion.deletion-index c.args.rows.now (omega arith))
