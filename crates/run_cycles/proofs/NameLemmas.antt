-- The order of names.
use Rattle.std.proofs.Common.{◌≡◌, ℕ, false, List, ap, sym, ◌∙◌, refl}
use Rattle.std.specs.declared.cmp.Ordering.{Ordering}
use Rattle.std.specs.declared.cmp.Ordering.TheVariants.{Less, Equal, Greater}
use Rattle.std.specs.Ordering.{nat_cmp, is_gt, ordering_reverse}
use Rattle.std.specs.Cmp.Lexicographic.{slice_cmp, nat_list_cmp_total}
use Rattle.std.specs.FinMap.{nat_cmp-IsAntisymmetric, slice_cmp-IsAntisymmetric}
use Rattle.std.proofs.lemmas.Cmp.{tied_itself}
use Rattle.run_cycles.specs.Occurrence.{IsNameAtMost}

pub at_most_itself : (a : List ℕ) → IsNameAtMost a a
at_most_itself a = ap is_gt (tied_itself nat_list_cmp_total a)

not_both : (r : Ordering) → is_gt r ≡ false → is_gt (ordering_reverse r) ≡ false → r ≡ Equal
not_both Less p q = cc
not_both Equal p q = refl
not_both Greater p q = cc

pub at_most_both : (a b : List ℕ) → IsNameAtMost a b → IsNameAtMost b a → a ≡ b
at_most_both a b p q =
    slice_cmp-IsAntisymmetric nat_cmp-IsAntisymmetric a b
    (not_both (slice_cmp nat_cmp a b) p (ap is_gt (sym (nat_list_cmp_total.antisymm b a)) ∙ q))
