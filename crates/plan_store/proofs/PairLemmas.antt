-- Pairs after a change.
use Rattle.std.proofs.Common.{◌≡◌, ◌↔◌, ℕ, zero, suc, ◌⊎◌, Bool, true, false, not, List, [], ◌∷◌, get_or, refl, sym, ap, ap₂}
use Rattle.std.proofs.Common.{subst, ◌∙◌, inl, inr, arith, Ordering}
use Rattle.std.specs.Prelude.{filter}
use Rattle.std.specs.declared.cmp.Ordering.TheVariants.{Less, Equal, Greater}
use Rattle.std.specs.List.{Contains}
use Rattle.std.specs.Cmp.{IsTotalOrder}
use Rattle.std.specs.Ordering.{is_eq, nat_cmp, ordering_reverse}
use Rattle.std.proofs.lemmas.Cmp.{nat_cmp_total, on_total, then_total, tied_itself}
use Rattle.std.proofs.lemmas.Bool.{not-true, not_from_false}
use Rattle.std.proofs.lemmas.List.Elements.{Contains-get_or}
use Rattle.std.proofs.lemmas.List.Folds.{Any-from_list_any}
use Rattle.std.proofs.lemmas.List.Kept.{AllPairs-filter}
use Rattle.external_dependencies.specs.Pair.{pair_cmp}
use Rattle.external_dependencies.specs.Rising.{IsRising}
use Rattle.external_dependencies.specs.declared.change.PairChange.{PairChange}
use Rattle.external_dependencies.specs.declared.pairs.Pair.{Pair}
use Rattle.plan_store_lists.proofs.KeyLemmas.{contains_cases, contains_first, contains_later, contains_filter}
use Rattle.plan_store_lists.proofs.KeyLemmas.{filter_contains, holds_lacks, holds_none, nothing}
use Rattle.plan_store_lists.specs.Blocks.{items_of}
use Rattle.plan_store_lists.specs.Keyed.{holds_key}
use Rattle.plan_store_lists.specs.PairBlocks.{ArePairBlocks, groups_rise, pair_group}
use Rattle.plan_store_lists.specs.declared.blocks.Blocks.{Blocks}
use Rattle.plan_store_lists.proofs.BlockLemmas.{blocks_keyed}
use Rattle.external_dependencies.proofs.PairLemmas.{pair_ties}
use Rattle.plan_store.specs.Changes.{LeadsOn, is_among, pairs_after, placed_before, with_pair, with_pairs}

-- pairs in blocks rise
pub pairs_rise : (list : Blocks ℕ Pair) → ArePairBlocks list → IsRising pair_cmp (items_of list)
pairs_rise list are =
    blocks_keyed nat_cmp pair_cmp pair_group (λ (pair : Pair). pair) list.blocks.items are groups_rise

pub pair_total : IsTotalOrder pair_cmp
pair_total = then_total (on_total (λ (p : Pair). p.successor) nat_cmp_total)
    (on_total (λ (p : Pair). p.predecessor) nat_cmp_total)

contains_by : (p q : Pair) (qs : List Pair) (z : Pair) → Contains (with_pair p qs) z ↔ ((p ≡ z) ⊎ Contains qs z)
    → (o : Ordering) → pair_cmp p q ≡ o → Contains (placed_before o p q qs (with_pair p qs)) z
    ↔ ((p ≡ z) ⊎ Contains (q ∷ qs) z)
contains_by p q qs z tail Less is = (
  (λ there. contains_cases p z (q ∷ qs) there),
  λ either. elim either [
    | inl same ↦ subst (Contains (p ∷ q ∷ qs)) same
        (contains_first p (q ∷ qs))
    | inr there ↦ contains_later p z (q ∷ qs) there
  ],
)
contains_by p q qs z tail Equal is = (
  (λ there. inr there),
  λ either. elim either [
    | inl same ↦ subst (Contains (q ∷ qs)) (sym (pair_ties p q is) ∙ same)
        (contains_first q qs)
    | inr there ↦ there
  ],
)
contains_by p q qs z tail Greater is = (
  (λ there. elim (contains_cases q z (with_pair p qs) there) [
    | inl same ↦ inr (subst (Contains (q ∷ qs)) same (contains_first q qs))
    | inr later ↦ elim (tail.0 later) [ inl same ↦ inl same | inr rest ↦ inr (contains_later q z qs rest) ]
  ]),
  λ either. elim either [
    | inl same ↦ contains_later q z (with_pair p qs) (tail.1 (inl same))
    | inr there ↦ elim (contains_cases q z qs there) [
      | inl same ↦ subst (Contains (q ∷ with_pair p qs)) same (contains_first q (with_pair p qs))
      | inr rest ↦ contains_later q z (with_pair p qs) (tail.1 (inr rest))
    ]
  ],
)

pub with_pair_contains : (p : Pair) (pairs : List Pair) (z : Pair) → Contains (with_pair p pairs) z
    ↔ ((p ≡ z) ⊎ Contains pairs z)
with_pair_contains p [] z = (
  (λ there. contains_cases p z [] there),
  λ either.
      elim either [ inl is ↦ subst (Contains (p ∷ [])) is (contains_first p []) | inr none ↦ absurd (nothing z none) ],
)
with_pair_contains p (q ∷ qs) z = contains_by p q qs z (with_pair_contains p qs z) (pair_cmp p q) refl

less_not_equal : Less ≡ Equal → ⊥
less_not_equal is = cc

cons_rising : (p : Pair) (pairs : List Pair) → ((z : Pair) → Contains pairs z → pair_cmp p z ≡ Less)
    → IsRising pair_cmp pairs → IsRising pair_cmp (p ∷ pairs)
cons_rising p pairs below rising zero zero d lt lt_j = absurd (omega arith)
cons_rising p pairs below rising zero (suc j) d lt lt_j = below (get_or pairs j d)
    (Contains-get_or pairs j d (omega arith))
cons_rising p pairs below rising (suc i) zero d lt lt_j = absurd (omega arith)
cons_rising p pairs below rising (suc i) (suc j) d lt lt_j = rising i j d (omega arith) (omega arith)

later : (p : Pair) (pairs : List Pair) (z : Pair) → IsRising pair_cmp (p ∷ pairs) → Contains pairs z → pair_cmp p z
    ≡ Less
later p pairs z rising (k, lt, is) = subst (λ w. pair_cmp p w ≡ Less) is
    (rising zero (suc k) z (omega arith) (omega arith))

rest_rising : (p : Pair) (pairs : List Pair) → IsRising pair_cmp (p ∷ pairs) → IsRising pair_cmp pairs
rest_rising p pairs rising i j d lt in_range = rising (suc i) (suc j) d (omega arith) (omega arith)

rising_by : (p q : Pair) (qs : List Pair) → IsRising pair_cmp (q ∷ qs) → IsRising pair_cmp (with_pair p qs)
    → (o : Ordering) → pair_cmp p q ≡ o → IsRising pair_cmp (placed_before o p q qs (with_pair p qs))
rising_by p q qs rising tail Less is =
    cons_rising p (q ∷ qs) (λ z there. elim (contains_cases q z qs there) [
      | inl same ↦ subst (λ w. pair_cmp p w ≡ Less)
          same is
      | inr rest ↦ pair_total.trans p q z is (later q qs z rising rest)
    ]) rising
rising_by p q qs rising tail Equal is = rising
rising_by p q qs rising tail Greater is = cons_rising q (with_pair p qs)
    (λ z there. elim ((with_pair_contains p qs z).0 there) [
      | inl same ↦ subst (λ w. pair_cmp q w ≡ Less) same
          (pair_total.antisymm q p ∙ ap ordering_reverse is)
      | inr rest ↦ later q qs z rising rest
    ]) tail

pub with_pair_rising : (p : Pair) (pairs : List Pair) → IsRising pair_cmp pairs → IsRising pair_cmp (with_pair p pairs)
with_pair_rising p [] rising = cons_rising p [] (λ z none. absurd (nothing z none)) rising
with_pair_rising p (q ∷ qs) rising = rising_by p q qs rising (with_pair_rising p qs (rest_rising q qs rising))
    (pair_cmp p q) refl

pub with_pairs_rising : (more pairs : List Pair) → IsRising pair_cmp pairs → IsRising pair_cmp (with_pairs more pairs)
with_pairs_rising [] pairs rising = rising
with_pairs_rising (p ∷ more) pairs rising = with_pair_rising p (with_pairs more pairs)
    (with_pairs_rising more pairs rising)

pub with_pairs_contains : (more pairs : List Pair) (z : Pair) → Contains (with_pairs more pairs) z
    ↔ (Contains more z ⊎ Contains pairs z)
with_pairs_contains [] pairs z =
    ((λ there. inr there), λ either. elim either [ inl none ↦ absurd (nothing z none) | inr there ↦ there ])
with_pairs_contains (p ∷ more) pairs z = (
  (λ there. elim ((with_pair_contains p (with_pairs more pairs) z).0 there) [
    | inl same ↦ inl (subst (Contains (p ∷ more)) same (contains_first p more))
    | inr rest ↦ elim ((with_pairs_contains more pairs z).0 rest) [
      | inl new ↦ inl (contains_later p z more new)
      | inr
          old ↦ inr old
    ]
  ]),
  λ either. (with_pair_contains p (with_pairs more pairs) z).1 (elim either [
    | inl new ↦ elim (contains_cases p z more new) [
      | inl same ↦ inl same
      | inr rest ↦ inr
          ((with_pairs_contains more pairs z).1 (inl rest))
    ]
    | inr old ↦ inr ((with_pairs_contains more pairs z).1 (inr old))
  ]),
)

abbrev pub itself : Pair → Pair
itself p = p

equal_from : (o : Ordering) → is_eq o ≡ true → o ≡ Equal
equal_from Less is = cc
equal_from Equal is = refl
equal_from Greater is = cc

-- a test for a pair
pub held_pair : (pairs : List Pair) (pair : Pair) → holds_key pair_cmp itself pairs pair ≡ true → Contains pairs pair
held_pair pairs pair is =
    let (k, p, lt, at, same) = Any-from_list_any (λ (p : Pair). is_eq (pair_cmp p pair)) pairs is in
    subst (Contains pairs) (pair_ties p pair (equal_from (pair_cmp p pair) same)) (k, lt, at)

abbrev pub is_new : List Pair → Pair → Bool
is_new pairs pair = not (holds_key pair_cmp (λ (p : Pair). p) pairs pair)

-- the pairs after a change
pub pairs_after_rising : (change : PairChange) (pairs : List Pair) → IsRising pair_cmp pairs
    → IsRising pair_cmp (pairs_after change pairs)
pairs_after_rising change pairs rising =
    with_pairs_rising change.added (filter (λ p. not (is_among change.removed p)) pairs)
    (AllPairs-filter (λ x y. pair_cmp x y ≡ Less) (λ p. not (is_among change.removed p)) pairs rising)

pub pairs_after_contains : (change : PairChange) (pairs : List Pair) (z : Pair) → Contains (pairs_after change pairs) z
    ↔ (Contains change.added z ⊎ (Contains pairs z × (Contains change.removed z → ⊥)))
pairs_after_contains change pairs z =
    let both = with_pairs_contains change.added (filter (λ p. not (is_among change.removed p)) pairs) z in (
      (λ there. elim (both.0 there) [
        | inl new ↦ inl new
        | inr old ↦
            let is = contains_filter (λ p. not (is_among change.removed p)) pairs z old in
            inr (is.0, λ gone. holds_lacks pair_total pair_ties itself change.removed z (not-true _ is.1) z gone refl)
      ]),
      λ either. both.1 (elim either [
        | inl new ↦ inl new
        | inr old ↦ inr (filter_contains (λ p. not (is_among change.removed p)) pairs z old.0
            (not_from_false _ (holds_none pair_total pair_ties itself change.removed z
            (λ y there same. old.1 (subst (Contains change.removed) same there)))))
      ]),
    )

-- a change that removes pairs that stood, and adds such as did not stand
pub leads_on : (change : PairChange) (pairs : List Pair) → ((p : Pair) → Contains change.removed p → Contains pairs p)
    → ((p : Pair) → Contains change.added p → Contains pairs p → ⊥) → LeadsOn pairs change
leads_on change pairs stood lacked = record {
  removed = λ p. (
    (λ gone. (
      stood p gone,
      λ there. elim ((pairs_after_contains change pairs p).0 there) [
        | inl new ↦ lacked p new (stood p gone)
        | inr old ↦ old.1 gone
      ],
    )),
    λ is. elim (is_among change.removed p) as (λ b. is_among change.removed p ≡ b → Contains change.removed p) [
      | true ↦ λ held. held_pair change.removed p held
      | false ↦ λ held. absurd (is.1 ((pairs_after_contains change pairs p).1
          (inr (is.0, λ gone. holds_lacks pair_total pair_ties itself change.removed p held p gone refl))))
    ] refl,
  );
  added = λ p. (
    (λ new. ((pairs_after_contains change pairs p).1 (inl new), lacked p new)),
    λ is. elim ((pairs_after_contains change pairs p).0 is.0) [
      | inl new ↦ new
      | inr old ↦ absurd (is.1 old.0)
    ],
  );
}

-- no pair goes or comes
pub leads_nowhere : (change : PairChange) (pairs : List Pair) → change.removed ≡ [] → change.added ≡ []
    → LeadsOn pairs change
leads_nowhere change pairs none_gone none_new =
    leads_on change pairs (λ p gone. absurd (nothing p (subst (λ (l : List Pair). Contains l p) none_gone gone)))
    (λ p new there. nothing p (subst (λ (l : List Pair). Contains l p) none_new new))

-- pairs in rising order are told by what they contain
not_both : (x y : Pair) → pair_cmp x y ≡ Less → pair_cmp y x ≡ Less → ⊥
not_both x y below above = less_not_equal (sym (pair_total.trans x y x below above) ∙ tied_itself pair_total x)

rest_has : (x y : Pair) (xs ys : List Pair) → IsRising pair_cmp (x ∷ xs) → x ≡ y
    → ((z : Pair) → Contains (x ∷ xs) z → Contains (y ∷ ys) z) → (z : Pair) → Contains xs z → Contains ys z
rest_has x y xs ys rising same has z there = elim (contains_cases y z ys (has z (contains_later x z xs there))) [
  | inl is ↦ absurd (less_not_equal (sym (later x xs z rising there) ∙ subst (λ w. pair_cmp x w ≡ Equal) (same ∙ is)
      (tied_itself pair_total x)))
  | inr found ↦ found
]

pub same_pairs : (xs ys : List Pair) → IsRising pair_cmp xs → IsRising pair_cmp ys
    → ((z : Pair) → Contains xs z ↔ Contains ys z) → xs ≡ ys
same_pairs [] [] a b same = refl
same_pairs [] (y ∷ ys) a b same = absurd (nothing y ((same y).1 (contains_first y ys)))
same_pairs (x ∷ xs) [] a b same = absurd (nothing x ((same x).0 (contains_first x xs)))
same_pairs (x ∷ xs) (y ∷ ys) a b same =
    ap₂ (λ h t. h ∷ t) first
    (same_pairs xs ys (rest_rising x xs a) (rest_rising y ys b) (λ z. (
      rest_has x y xs ys a first (λ w. (same w).0) z,
      rest_has y x ys xs b (sym first) (λ w. (same w).1) z,
    )))
  where
    first : x ≡ y
    first = elim (contains_cases y x ys ((same x).0 (contains_first x xs))) [
      | inl is ↦ sym is
      | inr there ↦ elim (contains_cases x y xs ((same y).1 (contains_first y ys))) [
        | inl is ↦ is
        | inr back ↦ absurd (not_both x y (later x xs y a back) (later y ys x b there))
      ]
    ]
