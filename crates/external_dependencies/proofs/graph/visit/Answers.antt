use Rattle.std.proofs.Common.{◌≡◌, ◌<◌, ◌⊎◌, length, get_or, false, sym, inl, inr, arith, ◌∙◌}
use Rattle.std.proofs.lemmas.List.{take_more, get_or_default}
use Rattle.external_dependencies.specs.Search.{IsReached}
use Rattle.external_dependencies.proofs.VisitLemmas.{visits_skip, visits_mark}
use Rattle.external_dependencies.proofs.graph.visit.Goals as goal
use Rattle.external_dependencies.proofs.graph.visit.Goals.{then-next-node-via-then-next-node}
use Rattle.external_dependencies.proofs.graph.visit.Goals.{then-next-node-via-else-next-node+then-index}

-- the target is the node itself, or it is marked
pub loop-next-preserved-then-next-node : goal.loop-next-preserved-then-next-node
loop-next-preserved-then-next-node c =
    let here : get_or c.args.targets.now c.loop-next.next-index 0 < length c.loop-next.reached.items =
    omega (arith, c.requires c.loop-next.next-index 0 c.loop-next-test.true, c.loop-next.invariant.same_length) in
    let why : (get_or c.args.targets.now c.loop-next.next-index 0 ≡ c.args.node)
    ⊎ IsReached c.loop-next.reached.items (get_or c.args.targets.now c.loop-next.next-index 0) =
    elim c.then-next-node.branch [
      | then-next-node-via-then-next-node w ↦ inl w.if-next-node.true
      | then-next-node-via-else-next-node+then-index w ↦ inr
          (get_or_default _ _ false w.index.result.now here ∙ sym w.index.ensures ∙ w.if-index.true)
    ] in
    rw (take_more _ _ 0 c.loop-next-test.true) (visits_skip _ _ _ _ _ _ _ c.loop-next.invariant _ why)

-- the target is marked now
pub loop-next-preserved : goal.loop-next-preserved
loop-next-preserved c =
    let in_range = c.requires c.loop-next.next-index 0 c.loop-next-test.true in
    let here : get_or c.args.targets.now c.loop-next.next-index 0 < length c.loop-next.reached.items =
    omega (arith, in_range, c.loop-next.invariant.same_length) in
    let unmarked : get_or c.loop-next.reached.items
    (get_or c.args.targets.now c.loop-next.next-index 0) false ≡ false =
    get_or_default _ _ false c.index.result.now here ∙ sym c.index.ensures ∙ c.if-index.false in
    rw (take_more _ _ 0 c.loop-next-test.true, c.in_ok-push.ensures.items)
    (visits_mark _ _ _ _ _ _ _ c.loop-next.invariant _ c.if-next-node.false c.if-next-start.false in_range unmarked)
