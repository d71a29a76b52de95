use Rattle.std.proofs.Common.{◌≡◌, ◌<◌, length, sym, ap, subst, ◌∙◌, inl, inr, arith}
use Rattle.std.proofs.lemmas.Bool.{cases_lt, false≢true}
use Rattle.std.proofs.lemmas.List.{length-map}
use Rattle.external_dependencies.specs.Walk.{items_of, ReturnsTo}
use Rattle.external_dependencies.proofs.graph.Graph.least_returning.Goals as goal

-- the first node that returns to itself
pub returns-then-branch : goal.returns-then-branch
returns-then-branch c =
    let lt : c.loop-node.node < length c.args.self.now =
    omega (
      arith,
      ap length c.self.view_is,
      length-map c.self.inside.targets.items items_of,
      ap length c.deref-2.ensures.value,
    ) in (
      lt,
      c.in_ok-returns_to.ensures.0 c.if-branch.true,
      λ node below. c.loop-node.invariant node below (omega arith),
    )

-- one more node does not return to itself
pub loop-node-preserved : goal.loop-node-preserved
loop-node-preserved c k lt in_range back = elim (cases_lt k c.loop-node.node) [
  | inl before ↦ c.loop-node.invariant k before in_range back
  | inr after ↦
      let here : k ≡ c.loop-node.node = omega arith in
      absurd (false≢true (sym c.if-branch.false
      ∙ c.in_ok-returns_to.ensures.1 (subst (ReturnsTo c.args.self.now) here back)))
]

-- no node returns to itself
pub returns : goal.returns
returns c node lt =
    c.loop-node.invariant node (omega (
      arith,
      ap length c.self.view_is,
      length-map c.self.inside.targets.items items_of,
      ap length c.deref-2.ensures.value,
    )) lt
