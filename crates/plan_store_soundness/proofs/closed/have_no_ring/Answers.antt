use Rattle.std.proofs.Common.{◌≡◌, ◌↔◌, ◌∙◌, List, IfOk, refl, subst}
use Rattle.std.specs.Prelude.{IsTrue}
use Rattle.std.specs.List.{All}
use Rattle.external_dependencies.specs.declared.pairs.Pair.{Pair}
use Rattle.plan_store_soundness.specs.Closed.{FallsBy, IsWithoutRing, closed_pairs}
use Rattle.plan_store_soundness.proofs.EdgeLemmas.{falling_ring}
use Rattle.plan_store_soundness.proofs.closed.have_no_ring.Goals as goal

pub returns-then-all_fall : goal.returns-then-all_fall
returns-then-all_fall c =
    let closed : List Pair = closed_pairs c.args.table.now c.args.pairs.now in
    let numbers = c.deref-2.result.now in
    let lent : c.deref-3.result.now ≡ closed = c.deref-3.ensures.value ∙ c.in_ok-closed.ensures in
    let fall = subst (λ (l : List Pair). All (FallsBy numbers) l) lent (c.all_fall.ensures c.if-all_fall.true) in
    ((λ yes. falling_ring closed numbers fall), λ none. refl)

pub returns : goal.returns
returns c =
    let closed : List Pair = closed_pairs c.args.table.now c.args.pairs.now in
    let lent : c.deref-4.result.now ≡ closed = c.deref-4.ensures.value ∙ c.in_ok-closed.ensures in
    subst (λ (l : List Pair). IfOk c.is_without_ring.result (λ b. IsTrue b ↔ IsWithoutRing l)) lent
    c.is_without_ring.ensures
