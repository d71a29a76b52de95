use Rattle.std.proofs.Common.{◌≡◌, ◌+◌, ◌++◌, ◌∷◌, ◌∙◌, [], true, false, ap, arith, sym, subst, nat_eq}
use Rattle.std.proofs.Common.{take, filter}
use Rattle.std.specs.List.{list_any}
use Rattle.std.proofs.lemmas.List.{append_assoc, take_all, take_more}
use Rattle.occurrences.specs.declared.row.Row.{Row}
use Rattle.plan_store.proofs.SliceLemmas.{push_failing, push_passing}
use Rattle.plan_store.proofs.parts.push_among.Goals as goal
use Rattle.plan_store.proofs.parts.push_among.Goals.{then-is_among+in_ok-push, else-is_among}

-- one more row
pub loop-row-preserved : goal.loop-row-preserved
loop-row-preserved c =
    let rows = c.args.rows.now in
    let x = c.row-item.result in
    let index = c.loop-row.row-index in
    let first = c.args.found.now.items in
    let test = λ (row : Row). list_any (λ n. nat_eq n row.serial) c.args.serials.now in
    let front : take (index + 1) rows ≡ take index rows ++ x ∷ [] =
    take_more rows index x c.loop-row-test.true ∙ ap (λ y. take index rows ++ y ∷ []) (sym c.row-item.is) in
    let more : c.if-is_among.found.items ≡ first ++ filter test (take index rows ++ x ∷ []) = elim c.if-is_among.branch [
      | then-is_among+in_ok-push w ↦
          let passes : test x ≡ true = sym c.is_among.ensures ∙ w.if-is_among.true in
          rw (w.found-is, w.in_ok-push.ensures.items, c.loop-row.invariant)
          (append_assoc first (filter test (take index rows)) (x ∷ [])
          ∙ ap (λ l. first ++ l) (sym (push_passing test (take index rows) x passes)))
      | else-is_among w ↦
          let fails : test x ≡ false = sym c.is_among.ensures ∙ w.if-is_among.false in
          rw (w.found-is, c.loop-row.invariant)
          (ap (λ l. first ++ l) (sym (push_failing test (take index rows) x fails)))
    ] in
    subst (λ rs. c.if-is_among.found.items ≡ first ++ filter test rs) (sym front) more

-- all rows
pub returns : goal.returns
returns c =
    c.loop-row.invariant
    ∙ ap (λ rs. c.args.found.now.items ++ filter (λ (row : Row). list_any (λ n. nat_eq n row.serial) c.args.serials.now) rs)
    (take_all c.loop-row.row-index c.args.rows.now (omega arith))
