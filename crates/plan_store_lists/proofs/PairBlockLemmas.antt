-- Pairs of one successor stand together.
use Rattle.std.proofs.Common.{◌≡◌, List, get_or, subst, inl, inr, arith}
use Rattle.std.proofs.lemmas.Bool.{cases_order}
use Rattle.std.proofs.lemmas.Cmp.{nat_cmp_total, tied_itself}
use Rattle.std.specs.declared.cmp.Ordering.TheVariants.{Equal}
use Rattle.std.specs.Ordering.{nat_cmp}
use Rattle.external_dependencies.specs.Pair.{pair_cmp}
use Rattle.external_dependencies.specs.Rising.{IsRising}
use Rattle.external_dependencies.specs.declared.pairs.Pair.{Pair}
use Rattle.plan_store_lists.proofs.SliceLemmas.{Rises, then_less}

pub successors_rise : (xs : List Pair) → IsRising pair_cmp xs → Rises nat_cmp_total (λ (x : Pair). x.successor) xs
successors_rise xs rising i j d le lt = elim (cases_order i j) [
  | inl same ↦ inr (subst (λ n. nat_cmp (get_or xs i d).successor (get_or xs n d).successor ≡ Equal) same
      (tied_itself nat_cmp_total (get_or xs i d).successor))
  | inr (inl below) ↦ elim (then_less _ _ (rising i j d below lt)) [ inl less ↦ inl less | inr tied ↦ inr tied.0 ]
  | inr (inr above) ↦ absurd (omega arith)
]
