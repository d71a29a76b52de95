use Rattle.std.proofs.Common.{◌≡◌, true, sym, ◌∙◌, Ordering}
use Rattle.std.specs.declared.cmp.Ordering.TheVariants.{Less, Equal, Greater}
use Rattle.std.specs.Ordering.{is_eq}
use Rattle.std.specs.List.Sorted.{IsStrictlySortedBy}
use Rattle.std.proofs.lemmas.List.Filters.{dedup_is}
use Rattle.std.proofs.lemmas.List.Kept.{Any-dedup, Contains-from_dedup, IsStrictlySortedBy-dedup}
use Rattle.std.proofs.lemmas.List.Sorted.{Contains-permutation, IsPermutation-sym}
use Rattle.std.proofs.lemmas.Map.Keys.{Less-from_sorted}
use Rattle.external_dependencies.proofs.rising.into_ordered.Goals as goal

tied : (o : Ordering) → is_eq o ≡ true → o ≡ Equal
tied Less is = cc
tied Equal is = λ i. Equal
tied Greater is = cc

pub returns-clause-rising : goal.returns-clause-rising
returns-clause-rising g c i j d below lt =
    let is = dedup_is _ _ _ c.dedup.ensures.filtered in
    let sorted : IsStrictlySortedBy g.T.Ord.cmp c.dedup.new.self.items =
    rw is (IsStrictlySortedBy-dedup g.met.T.Ord.total g.met.T.Ord.matches_eq _ c.sort_unstable.ensures.sorted) in
    Less-from_sorted _ _ i j d sorted below lt

pub returns-clause-only : goal.returns-clause-only
returns-clause-only g c x here =
    let is = dedup_is _ _ _ c.dedup.ensures.filtered in
    Contains-permutation _ _ x (IsPermutation-sym _ _ c.sort_unstable.ensures.permutation)
    (Contains-from_dedup _ _ x (rw is at here))

pub returns-clause-all : goal.returns-clause-all
returns-clause-all g c x here =
    let is = dedup_is _ _ _ c.dedup.ensures.filtered in
    let some = Any-dedup g.met.T.Eq.laws _ x (Contains-permutation _ _ x c.sort_unstable.ensures.permutation here) in
    (some.1, rw is (some.0, some.2, some.3), tied _ (sym (g.met.T.Ord.matches_eq x some.1) ∙ some.4))
