-- Orders by a comparison.
use Rattle.std.proofs.Common.{◌≡◌, ℕ, ◌<◌, refl, sym, ◌∙◌, subst}
use Rattle.std.specs.Cmp.{IsTotalOrder, tied_itself, nat_cmp_is}
use Rattle.std.specs.declared.cmp.Ordering.{Ordering}
use Rattle.std.specs.declared.cmp.Ordering.TheVariants.{Less, Equal, Greater}
use Rattle.std.specs.Ordering.{nat_cmp, MatchOrdering, ordering_then}
use Rattle.occurrences.specs.Order.{IsStrictOrder, Ranks}

-- from a rank, what an answer means
pub answer_means : {K : Type 0} (cmp : K → K → Ordering) (B : K → K → Type 0) → Ranks cmp B
    → (a b : K) (o : Ordering) → cmp a b ≡ o → MatchOrdering o (B a b) (a ≡ b) (B b a)
answer_means cmp B r a b o e = subst (λ o. MatchOrdering o (B a b) (a ≡ b) (B b a)) e (r a b)

-- an order by a comparison that ranks by it
module _ {K : Type 0} (cmp : K → K → Ordering) (B : K → K → Type 0) (total : IsTotalOrder cmp)
    (r : Ranks cmp B) (less : (a b : K) → B a b → cmp a b ≡ Less) where
  pub ranked_strict : IsStrictOrder B
  ranked_strict = record {
    irreflexive = λ a h. let e : Less ≡ Equal = sym (less a a h) ∙ tied_itself total a in cc;
    transitive = λ a b c h k. answer_means cmp B r a c Less (total.trans a b c (less a b h) (less b c k));
  }

-- the lesser number compares as less
pub nat_less : (x y : ℕ) → x < y → nat_cmp x y ≡ Less
nat_less x y h = sym (nat_cmp_is x y Less h)

-- two comparisons in turn tie where both do
pub then_equal : (o p : Ordering) → ordering_then o p ≡ Equal → (o ≡ Equal) × (p ≡ Equal)
then_equal Less p e = absurd cc
then_equal Equal p e = (refl, e)
then_equal Greater p e = absurd cc
