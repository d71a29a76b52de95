use Rattle.std.proofs.Common.{◌≡◌, ◌↔◌, ◌+◌, ◌++◌, ◌∷◌, ◌∙◌, List, [], take, sym, ap, subst, arith}
use Rattle.std.specs.List.{Contains}
use Rattle.std.proofs.lemmas.List.{take_all, take_more}
use Rattle.occurrences.specs.declared.row.Row.{Row}
use Rattle.external_dependencies.specs.declared.pairs.Pair.{Pair}
use Rattle.plan_store.specs.AppPairs.{AddsPairs}
use Rattle.plan_store.proofs.AppPairLemmas.{adds_begin, adds_other, adds_row, apps_apart}
use Rattle.plan_store.proofs.app_pairs.push_pairs.Goals as goal
use Rattle.plan_store.proofs.app_pairs.push_pairs.Goals.{then-eq+in_ok-extend_from_slice, else-eq}

pub loop-x-init : goal.loop-x-init
loop-x-init g c = adds_begin g.T.PlanRow.row_of c.args.app.now c.args.pairs.now c.args.found.now.items

pub loop-x-preserved : goal.loop-x-preserved
loop-x-preserved g c =
    let row_of = g.T.PlanRow.row_of in
    let app = c.args.app.now in
    let pairs = c.args.pairs.now in
    let rows = c.args.rows.now in
    let x = c.x-item.result in
    let index = c.loop-x.x-index in
    let first = c.args.found.now.items in
    let old = c.loop-x.found.items in
    let front : take (index + 1) rows ≡ take index rows ++ x ∷ [] = take_more rows index x c.loop-x-test.true
    ∙ ap (λ y. take index rows ++ y ∷ []) (sym c.x-item.is) in
    let serial_is : c.row-row.result.serial ≡ (row_of x).serial = ap (λ (row : Row). row.serial) c.row-row.ensures in
    let app_is : c.row-row.result.key.app ≡ (row_of x).key.app = ap (λ (row : Row). row.key.app) c.row-row.ensures in
    let step : AddsPairs row_of app pairs (take index rows ++ x ∷ []) first c.if-eq.found.items = elim c.if-eq.branch [
      | then-eq+in_ok-extend_from_slice w ↦
          let own = subst (λ n. (pair : Pair) → Contains w.of_successor.result.now pair
          ↔ (Contains pairs pair × (pair.successor ≡ n))) serial_is w.of_successor.ensures.all in
          rw (w.found-is, w.in_ok-extend_from_slice.ensures.items)
          (adds_row row_of app pairs (take index rows) x first old c.loop-x.invariant w.of_successor.result.now own)
      | else-eq w ↦ rw w.found-is (adds_other row_of app pairs (take index rows) x first old c.loop-x.invariant
          (λ same. apps_apart c.row-row.result.key.app app (sym c.eq.ensures ∙ w.if-eq.false)
          (app_is ∙ same)))
    ] in
    subst (λ (xs : List g.row.T.Denot). AddsPairs row_of app pairs xs first c.if-eq.found.items) (sym front) step

-- all
pub returns : goal.returns
returns g c =
    subst (λ (xs : List g.row.T.Denot). AddsPairs g.T.PlanRow.row_of c.args.app.now c.args.pairs.now xs
    c.args.found.now.items c.loop-x.found.items) (take_all c.loop-x.x-index c.args.rows.now (omega arith))
    c.loop-x.invariant
