use Rattle.std.proofs.Common.{◌≡◌, ◌<◌, length, get_or, refl, ap, subst, arith, ◌∙◌}
use Rattle.std.proofs.lemmas.List.{get_or_default, length-map}
use Rattle.std.proofs.lemmas.Bool.{MatchBool-at_true, MatchBool-at_false, false≢true}
use Rattle.external_dependencies.specs.Walk.{items_of, IsGraph}
use Rattle.external_dependencies.proofs.SearchLemmas.{search_found_at, search_more_at, search_ended, node_in_range}
use Rattle.external_dependencies.proofs.SearchLemmas.{targets_read, targets_in_range}
use Rattle.external_dependencies.proofs.graph.Graph.returns_to.Goals as goal

-- the node to visit lies in the graph
pub index-targets-requires : goal.index-targets-requires
index-targets-requires c =
    let more : c.loop-done.done < length c.loop-done.order.items = omega arith in
    let at : c.index-node.result.now ≡ get_or c.loop-done.order.items c.loop-done.done 0 =
    c.index-node.ensures ∙ get_or_default _ _ _ 0 more in
    let in_range : c.index-node.result.now < length c.args.self.now =
    node_in_range _ _ _ _ _ c.loop-done.invariant more _ at in
    omega (arith, ap length c.self.view_is, length-map c.self.inside.targets.items items_of)

-- and so do its targets
pub visit-requires : goal.visit-requires
visit-requires c =
    let more : c.loop-done.done < length c.loop-done.order.items = omega arith in
    let at : c.index-node.result.now ≡ get_or c.loop-done.order.items c.loop-done.done 0 =
    c.index-node.ensures ∙ get_or_default _ _ _ 0 more in
    let in_range : c.index-node.result.now < length c.args.self.now =
    node_in_range _ _ _ _ _ c.loop-done.invariant more _ at in
    let here : c.index-node.result.now < length c.self.inside.targets.items =
    omega (arith, ap length c.self.view_is, length-map c.self.inside.targets.items items_of) in
    let read = targets_read c.self.inside.targets.items _ _ _ c.self.view_is here c.index-targets.ensures in
    targets_in_range c.args.self.now _ _ _
    (subst IsGraph c.self.view_is c.self.invariant) in_range c.loop-done.invariant.same_length
    (c.deref.ensures.value ∙ read)

-- a visit found the start
pub returns-then-branch : goal.returns-then-branch
returns-then-branch c =
    let more : c.loop-done.done < length c.loop-done.order.items = omega arith in
    let at : c.index-node.result.now ≡ get_or c.loop-done.order.items c.loop-done.done 0 =
    c.index-node.ensures ∙ get_or_default _ _ _ 0 more in
    let in_range : c.index-node.result.now < length c.args.self.now =
    node_in_range _ _ _ _ _ c.loop-done.invariant more _ at in
    let here : c.index-node.result.now < length c.self.inside.targets.items =
    omega (arith, ap length c.self.view_is, length-map c.self.inside.targets.items items_of) in
    let read = targets_read c.self.inside.targets.items _ _ _ c.self.view_is here c.index-targets.ensures in
    let found = MatchBool-at_true _ _ c.if-branch.true c.in_ok-visit.ensures in (
      (λ _. search_found_at _ _ _ _ _ c.loop-done.invariant more _ _ at
          (c.deref.ensures.value ∙ read) found.0 found.1),
      λ _. refl,
    )

-- a visit did not find it
pub loop-done-preserved : goal.loop-done-preserved
loop-done-preserved c =
    let more : c.loop-done.done < length c.loop-done.order.items = omega arith in
    let at : c.index-node.result.now ≡ get_or c.loop-done.order.items c.loop-done.done 0 =
    c.index-node.ensures ∙ get_or_default _ _ _ 0 more in
    let in_range : c.index-node.result.now < length c.args.self.now =
    node_in_range _ _ _ _ _ c.loop-done.invariant more _ at in
    let here : c.index-node.result.now < length c.self.inside.targets.items =
    omega (arith, ap length c.self.view_is, length-map c.self.inside.targets.items items_of) in
    let read = targets_read c.self.inside.targets.items _ _ _ c.self.view_is here c.index-targets.ensures in
    search_more_at _ _ _ _ _ c.loop-done.invariant more _ _ at (c.deref.ensures.value ∙ read) _ _
    (MatchBool-at_false _ _ c.if-branch.false c.in_ok-visit.ensures)

-- every node of the order is visited
pub returns : goal.returns
returns c = (
  (λ no. absurd (false≢true no)),
  λ back. absurd (search_ended _ _ _ _ _ c.loop-done.invariant (omega arith) back),
)
