use Rattle.std.proofs.Common.{◌≡◌, true, get_or, sym, subst, ◌∙◌, Ordering}
use Rattle.std.specs.declared.cmp.Ordering.TheVariants.{Less, Equal, Greater}
use Rattle.std.specs.Ordering.{is_eq}
use Rattle.std.specs.List.Sorted.{IsStrictlySortedBy}
use Rattle.std.proofs.lemmas.Cmp.{tied_itself}
use Rattle.std.proofs.lemmas.List.Filters.{dedup_is}
use Rattle.std.proofs.lemmas.List.Kept.{Contains-dedup, Contains-from_dedup, IsStrictlySortedBy-dedup}
use Rattle.std.proofs.lemmas.List.Sorted.{Contains-permutation, IsPermutation-sym}
use Rattle.std.proofs.lemmas.Map.Keys.{Less-from_sorted}
use Rattle.plan_store.proofs.queries.put_in_order.Goals as goal

tied : (o : Ordering) → is_eq o ≡ true → o ≡ Equal
tied Less is = cc
tied Equal is = λ i. Equal
tied Greater is = cc

apart : (o : Ordering) → o ≡ Less → o ≡ Equal → ⊥
apart o less equal = cc

pub returns-clause-same : goal.returns-clause-same
returns-clause-same g c x =
    let is = dedup_is _ _ _ c.dedup.ensures.filtered in
    let moved = c.sort_unstable.ensures.permutation in (
      (λ here. Contains-permutation _ _ x (IsPermutation-sym _ _ moved) (Contains-from_dedup _ _ x (rw is at here))),
      λ here. rw is (Contains-dedup g.met.T.Eq.laws
          (λ x y same. c.requires x y (tied _ (sym (g.met.T.Ord.matches_eq x y) ∙ same))) _ x
          (Contains-permutation _ _ x moved here)),
    )

pub returns-clause-apart : goal.returns-clause-apart
returns-clause-apart g c i j d below lt same =
    let is = dedup_is _ _ _ c.dedup.ensures.filtered in
    let xs = c.dedup.new.self.items in
    let sorted : IsStrictlySortedBy g.T.Ord.cmp xs =
    rw is (IsStrictlySortedBy-dedup g.met.T.Ord.total g.met.T.Ord.matches_eq _ c.sort_unstable.ensures.sorted) in
    apart _ (Less-from_sorted g.T.Ord.cmp xs i j d sorted below lt)
    (subst (λ x. g.T.Ord.cmp (get_or xs i d) x ≡ Equal) same (tied_itself g.met.T.Ord.total (get_or xs i d)))
