use Rattle.std.proofs.Common.{◌≡◌, ◌+◌, ◌++◌, ◌∷◌, ◌∙◌, [], take, sym, ap, subst, arith}
use Rattle.std.proofs.lemmas.Bool.{false≢true}
use Rattle.std.proofs.lemmas.List.{take_all, take_more}
use Rattle.plan_store.specs.Views.{shown}
use Rattle.plan_store_pairs.specs.Planned.{AddsPairsOf, HasWaiting}
use Rattle.plan_store_pairs.proofs.PartLemmas.{planned_waiting}
use Rattle.plan_store_pairs.proofs.PlannedLemmas.{adds_more, adds_none, adds_same, none_waiting, waiting_more, waiting_skip}
use Rattle.plan_store_pairs.proofs.planned.push_waiting.Goals as goal
use Rattle.plan_store_pairs.proofs.planned.push_waiting.Goals.{then-is_open+in_ok-extend_from_slice, else-is_open}

pub loop-current-init : goal.loop-current-init
loop-current-init c = adds_none (shown c.args.view.now).pairs (HasWaiting []) c.args.pairs.now.items none_waiting

pub pairs_of_open-requires : goal.pairs_of_open-requires
pairs_of_open-requires c =
    let view = c.args.view.now in
    let current = c.current-item.result in
    planned_waiting view.key.now (shown view).sets current.row.serial current
    (c.requires current (c.loop-current.current-index, c.loop-current-test.true, sym c.current-item.is))
    (c.is_open.ensures.0 c.if-is_open.true)

-- one more row
pub loop-current-preserved : goal.loop-current-preserved
loop-current-preserved c =
    let all = (shown c.args.view.now).pairs in
    let list = c.args.list.now in
    let current = c.current-item.result in
    let index = c.loop-current.current-index in
    let first = c.args.pairs.now.items in
    let old = c.loop-current.pairs.items in
    let so_far = take index list in
    let then' = so_far ++ current ∷ [] in
    let front : take (index + 1) list ≡ then' = take_more list index current c.loop-current-test.true
    ∙ ap (λ y. take index list ++ y ∷ []) (sym c.current-item.is) in
    let more : AddsPairsOf all (HasWaiting then') first c.if-is_open.pairs.items = elim c.if-is_open.branch [
      | then-is_open+in_ok-extend_from_slice w ↦
          rw (w.pairs-is, w.in_ok-extend_from_slice.ensures.items)
          (adds_more all (HasWaiting so_far) (HasWaiting then') first old w.pairs_of_open.result.now current.row.serial
          c.loop-current.invariant w.pairs_of_open.ensures.all
          (waiting_more so_far current (c.is_open.ensures.0 w.if-is_open.true)))
      | else-is_open w ↦
          rw w.pairs-is (adds_same all (HasWaiting so_far) (HasWaiting then') first old c.loop-current.invariant
          (waiting_skip so_far current (λ waits. false≢true (sym w.if-is_open.false ∙ c.is_open.ensures.1 waits))))
    ] in
    subst (λ rs. AddsPairsOf all (HasWaiting rs) first c.if-is_open.pairs.items) (sym front) more

-- all rows
pub returns : goal.returns
returns c =
    let whole = take_all c.loop-current.current-index c.args.list.now (omega arith) in
    subst (λ xs. AddsPairsOf (shown c.args.view.now).pairs (HasWaiting xs) c.args.pairs.now.items
    c.loop-current.pairs.items) whole c.loop-current.invariant
