-- The pairs that a change leads to.
use Rattle.std.proofs.Common.{◌≡◌, ◌↔◌, ◌⊎◌, true, false, List, refl, inl, inr}
use Rattle.std.specs.List.{Contains}
use Rattle.external_dependencies.specs.Change.{Leads}
use Rattle.external_dependencies.specs.Pair.{pair_cmp}
use Rattle.external_dependencies.specs.Rising.{IsRising}
use Rattle.external_dependencies.specs.declared.change.PairChange.{PairChange}
use Rattle.external_dependencies.specs.declared.links.Link.{Link}
use Rattle.external_dependencies.specs.declared.pairs.Pair.{Pair}
use Rattle.planner_machine.specs.Content.{Sets}
use Rattle.planner_machine.specs.Pairs.{ArePairs}
use Rattle.plan_store_lists.proofs.KeyLemmas.{holds_lacks}
use Rattle.external_dependencies.proofs.PairLemmas.{pair_ties}
use Rattle.plan_store.specs.Changes.{is_among, pairs_after}
use Rattle.plan_store.proofs.PairLemmas.{held_pair, itself, pair_total, pairs_after_contains}
use Rattle.plan_store_pairs.specs.LiveRows.{HasPairsAfter}

-- a pair that the test doesn't find is not there
not_among : (pairs : List Pair) (q : Pair) → is_among pairs q ≡ false → Contains pairs q → ⊥
not_among pairs q is there = holds_lacks pair_total pair_ties itself pairs q is q there refl

-- a change that removes what only the pairs before have, and adds what only those now have
pub pairs_after_are : (change : PairChange) (before now : List Pair) → Leads before now change
    → (pair : Pair) → Contains (pairs_after change before) pair ↔ Contains now pair
pairs_after_are change before now leads pair = (
  (λ there. elim ((pairs_after_contains change before pair).0 there) [
    | inl new ↦ ((leads.added pair).0 new).0
    | inr old ↦ elim (is_among now pair) as (λ b. is_among now pair ≡ b → Contains now pair) [
      | true ↦ λ is. held_pair now pair is
      | false ↦ λ is. absurd (old.1 ((leads.removed pair).1 (old.0, not_among now pair is)))
    ] refl
  ]),
  λ there. (pairs_after_contains change before pair).1 (elim (is_among before pair) as (λ b. is_among before pair ≡ b
      → Contains change.added pair ⊎ (Contains before pair × (Contains change.removed pair → ⊥))) [
        | true ↦ λ is. inr (held_pair before pair is, λ gone. ((leads.removed pair).0 gone).1 there)
        | false ↦ λ is. inl ((leads.added pair).1 (there, not_among before pair is))
      ] refl),
)

-- pairs with the same elements, in rising order
pub pairs_same : (before : List Pair) (links : List Link) (s : Sets) (pairs pairs' : List Pair)
    → HasPairsAfter before links s pairs → IsRising pair_cmp pairs'
    → ((pair : Pair) → Contains pairs' pair ↔ Contains pairs pair) → ArePairs before links s pairs'
pairs_same before links s pairs pairs' are rising same = record {
  rising = rising;
  exactly = λ pair. ((λ there. (are pair).0 ((same pair).0 there)), λ is. (same pair).1 ((are pair).1 is));
}
