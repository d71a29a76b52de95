-- Pairs are told apart by their serials.
use Rattle.std.proofs.Common.{◌≡◌, true, false, Decides, List, refl}
use Rattle.std.specs.List.{Contains}
use Rattle.external_dependencies.proofs.PairLemmas.{pair_ties}
use Rattle.external_dependencies.specs.declared.pairs.Pair.{Pair}
use Rattle.plan_store_lists.proofs.KeyLemmas.{holds_lacks}
use Rattle.plan_store.proofs.PairLemmas.{held_pair, itself, pair_total}
use Rattle.plan_store.specs.Changes.{is_among}

-- the test finds the pairs that are there
pub is_among-Decides : (pairs : List Pair) (p : Pair) → Decides (is_among pairs p) (Contains pairs p)
is_among-Decides pairs p = (
  held_pair pairs p,
  λ there. elim (is_among pairs p) as (λ b. is_among pairs p ≡ b → is_among pairs p ≡ true) [
    | true ↦ λ is. is
    | false ↦ λ is. absurd (holds_lacks pair_total pair_ties itself pairs p is p there refl)
  ] refl,
)
