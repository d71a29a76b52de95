-- Orders of names and links, and lists in rising order.
use Rattle.std.proofs.Common.{◌≡◌, ◌↔◌, ℕ, ◌+◌, ◌-◌, ◌<◌, ◌≤◌, ◌⊎◌, Bool, true, false, List, length, get_or, take}
use Rattle.std.proofs.Common.{drop, refl, sym, ap, subst, ◌∙◌, inl, inr, arith, None, Ordering}
use Rattle.std.specs.declared.cmp.Ordering.TheVariants.{Less, Equal, Greater}
use Rattle.std.specs.List.{Contains}
use Rattle.std.specs.List.Sorted.{IsPartitionPoint, IsNonDecreasingBy}
use Rattle.std.specs.Cmp.{IsTotalOrder}
use Rattle.std.specs.Cmp.Lexicographic.{slice_cmp}
use Rattle.std.specs.Ordering.{nat_cmp, ordering_then, ordering_index, is_lt, is_le, ordering_reverse}
use Rattle.std.specs.FinMap.{IsAntisymmetric, nat_cmp-IsAntisymmetric, slice_cmp-IsAntisymmetric}
use Rattle.std.proofs.lemmas.Cmp.{nat_list_cmp_total, tied_itself, alike_right}
use Rattle.std.proofs.lemmas.List.{get_or_default, get_or-take, get_or-drop, length-drop, length-take-le}
use Rattle.std.proofs.lemmas.List.Sorted.{searchable_from_sorted}
use Rattle.std.proofs.lemmas.Bool.{cases_lt, cases_order, false≢true}
use Rattle.external_dependencies.specs.Link.{link_cmp, AreNamedOnce, HaveSameNames, KeepsNames}
use Rattle.external_dependencies.specs.Rising.{IsRising}
use Rattle.external_dependencies.specs.declared.links.Link.{Link}

-- only equal names tie
pub name_ties : IsAntisymmetric (slice_cmp nat_cmp)
name_ties = slice_cmp-IsAntisymmetric nat_cmp-IsAntisymmetric

-- the answers of a comparison differ
pub less_not_equal : Less ≡ Equal → ⊥
less_not_equal is = cc

pub equal_not_greater : Equal ≡ Greater → ⊥
equal_not_greater is = cc

-- both parts tie
pub then_equal : (o p : Ordering) → ordering_then o p ≡ Equal → (o ≡ Equal) × (p ≡ Equal)
then_equal Less p is = cc
then_equal Equal p is = (refl, is)
then_equal Greater p is = cc

-- the first part decides, or it ties
pub then_less : (o p : Ordering) → ordering_then o p ≡ Less → (o ≡ Less) ⊎ ((o ≡ Equal) × (p ≡ Less))
then_less Less p is = inl refl
then_less Equal p is = inr (refl, is)
then_less Greater p is = cc

-- links that tie have the same names
pub link_ties : (x y : Link) → link_cmp x y ≡ Equal → HaveSameNames x y
link_ties x y is =
    let both = then_equal _ _ is in
    (name_ties x.app y.app both.0, name_ties x.predecessor y.predecessor both.1)

-- and links of the same names tie
pub names_tie : (x y : Link) → HaveSameNames x y → link_cmp x y ≡ Equal
names_tie x y (apps, predecessors) =
    let first : slice_cmp nat_cmp x.app y.app ≡ Equal =
    subst (λ n. slice_cmp nat_cmp x.app n ≡ Equal) apps (tied_itself nat_list_cmp_total x.app) in
    let second : slice_cmp nat_cmp x.predecessor y.predecessor ≡ Equal =
    subst (λ n. slice_cmp nat_cmp x.predecessor n ≡ Equal) predecessors
    (tied_itself nat_list_cmp_total x.predecessor) in
    ap (λ o. ordering_then o (slice_cmp nat_cmp x.predecessor y.predecessor)) first ∙ second

-- no two links of a rising list have the same names
pub named_once : (links : List Link) → IsRising link_cmp links → AreNamedOnce links
named_once links rising a b (i, lt_i, at_a) (j, lt_j, at_b) same = elim (cases_order i j) [
  | inl one ↦ sym at_a ∙ ap (λ n. get_or links n a) one ∙ get_or_default links j a b lt_j ∙ at_b
  | inr (inl below) ↦
      let less : link_cmp a b ≡ Less = subst (λ l. link_cmp l b ≡ Less) at_a
      (subst (λ l. link_cmp (get_or links i a) l ≡ Less) (get_or_default links j a b lt_j ∙ at_b)
      (rising i j a below lt_j)) in
      absurd (less_not_equal (sym less ∙ names_tie a b same))
  | inr (inr above) ↦
      let less : link_cmp b a ≡ Less = subst (λ l. link_cmp l a ≡ Less) at_b
      (subst (λ l. link_cmp (get_or links j b) l ≡ Less) (get_or_default links i b a lt_i ∙ at_a)
      (rising j i b above lt_i)) in
      absurd (less_not_equal (sym less ∙ names_tie b a (sym same.0, sym same.1)))
]

-- links without a limit are told by their names
pub unlimited_once : (links : List Link) → ((link : Link) → Contains links link → link.within ≡ None)
    → AreNamedOnce links
unlimited_once links none a b at_a at_b same =
    let withins : a.within ≡ b.within = none a at_a ∙ sym (none b at_b) in
    λ i. record { app = same.0 i; predecessor = same.1 i; within = withins i }

pub names_kept : (links kept : List Link) → ((link : Link) → Contains kept link → Contains links link)
    → ((link : Link) → Contains links link → (stays : Link) × Contains kept stays × (link_cmp link stays ≡ Equal))
    → KeepsNames links kept
names_kept links kept only all = record {
  only = only;
  all = λ link here. let stays = all link here in (stays.0, stays.1, link_ties link stays.0 stays.2);
}

-- where no two have the same names, all stay
pub keeps_all : (links kept : List Link) → AreNamedOnce links → KeepsNames links kept → (link : Link)
    → Contains kept link ↔ Contains links link
keeps_all links kept once keeps link = (keeps.only link, λ here. there here (keeps.all link here))
  where
    there : Contains links link → (stays : Link) × Contains kept stays × HaveSameNames link stays → Contains kept link
    there here (stays, in_kept, same) = subst (Contains kept) (sym (once link stays here (keeps.only stays in_kept) same)) in_kept

module _ {K : Type 0} {R : K → K → Ordering} (o : IsTotalOrder R) where
  -- at most
  abbrev pub AtMost : K → K → Type 0
  AtMost x y = (R x y ≡ Less) ⊎ (R x y ≡ Equal)

  pub less_after : (x y z : K) → AtMost x y → R y z ≡ Less → R x z ≡ Less
  less_after x y z (inl less) is = o.trans x y z less is
  less_after x y z (inr same) is = o.congr x y z same ∙ is

  pub at_most_after : (x y z : K) → AtMost x y → AtMost y z → AtMost x z
  at_most_after x y z below (inl less) = inl (less_after x y z below less)
  at_most_after x y z (inl less) (inr same) = inl (sym (alike_right o y z x same) ∙ less)
  at_most_after x y z (inr tied) (inr same) = inr (o.congr x y z tied ∙ same)

  -- from the answer of a comparison
  pub at_most_from : (x y : K) → is_le (R x y) ≡ true → AtMost x y
  at_most_from x y is = elim (R x y) as (λ r. is_le r ≡ true → (r ≡ Less) ⊎ (r ≡ Equal)) [
    | Less ↦ λ _. inl refl
    | Equal ↦ λ _. inr refl
    | Greater ↦ λ is. absurd (false≢true is)
  ] is

  pub not_less_then : (x y : K) → is_lt (R x y) ≡ false → is_le (R x y) ≡ true → R x y ≡ Equal
  not_less_then x y not_lt is = elim (R x y) as (λ r. is_lt r ≡ false → is_le r ≡ true → r ≡ Equal) [
    | Less ↦ λ not_lt _. cc
    | Equal ↦ λ _ _. refl
    | Greater ↦ λ _ is. cc
  ] not_lt is

  -- what a rising list says of two places
  pub rising_at_most : (xs : List K) → IsRising R xs → (i j : ℕ) (d : K) → i ≤ j → j < length xs
      → AtMost (get_or xs i d) (get_or xs j d)
  rising_at_most xs rising i j d le lt = elim (cases_order i j) [
    | inl same ↦ inr (subst (λ k. R (get_or xs i d) (get_or xs k d) ≡ Equal) same (tied_itself o (get_or xs i d)))
    | inr (inl below) ↦ inl (rising i j d below lt)
    | inr (inr above) ↦ absurd (omega arith)
  ]

  -- a rising list serves a binary search
  pub rising_searchable : (xs : List K) → IsRising R xs → (x : K) → IsNonDecreasingBy (λ y. ordering_index (R y x)) xs
  rising_searchable xs rising x = searchable_from_sorted o (λ (y : K). y) xs x
      (λ k d _ lt. ap is_lt (o.antisymm (get_or xs (k + 1) d) (get_or xs k d)
      ∙ ap ordering_reverse (rising k (k + 1) d (omega arith) lt)))

  -- each element stands at one place
  pub rising_once : (xs : List K) → IsRising R xs → (i j : ℕ) (d : K) → i < length xs → j < length xs
      → get_or xs i d ≡ get_or xs j d → i ≡ j
  rising_once xs rising i j d lt_i lt_j same = elim (cases_order i j) [
    | inl is ↦ is
    | inr (inl below) ↦ absurd (apart (sym (rising i j d below lt_j) ∙ ap (λ y. R (get_or xs i d) y) (sym same)
        ∙ tied_itself o (get_or xs i d)))
    | inr (inr above) ↦ absurd (apart (sym (rising j i d above lt_i) ∙ ap (λ y. R (get_or xs j d) y) same
        ∙ tied_itself o (get_or xs j d)))
  ]
    where
      apart : Less ≡ Equal → ⊥
      apart is = cc

-- a link at the place where a search found one of its names: it is there exactly with the limit that stands there
module _ (total : IsTotalOrder link_cmp) (links : List Link) (rising : IsRising link_cmp links) (link : Link) (place : ℕ)
    (lt : place < length links) (tied : link_cmp (get_or links place link) link ≡ Equal) where
  pub found_link : (get_or links place link).within ≡ link.within → Contains links link
  found_link same =
      let names = link_ties (get_or links place link) link tied in
      (place, lt, λ i. record { app = names.0 i; predecessor = names.1 i; within = same i })

  pub found_limit : Contains links link → (get_or links place link).within ≡ link.within
  found_limit (k, in_range, is) = elim (cases_order k place) [
    | inl same ↦ ap (λ (l : Link). l.within) (ap (λ n. get_or links n link) (sym same) ∙ is)
    | inr (inl below) ↦ absurd (less_not_equal (sym (rising k place link below lt)
        ∙ ap (λ l. link_cmp l (get_or links place link)) is
        ∙ total.antisymm link (get_or links place link) ∙ ap ordering_reverse tied))
    | inr (inr above) ↦ absurd (less_not_equal (sym (rising place k link above in_range)
        ∙ ap (λ l. link_cmp (get_or links place link) l) is ∙ tied))
  ]

-- the part of a list between two tests, where each rules a front of the list
pub between_is : {X : Type 0} (xs : List X) (below upto : X → Bool) (start count : ℕ) → start ≤ length xs
    → IsPartitionPoint (λ x. below x ≡ true) (λ x. below x ≡ false) xs start → count ≤ length (drop start xs)
    → IsPartitionPoint (λ x. upto x ≡ true) (λ x. upto x ≡ false) (drop start xs) count → (x : X)
    → Contains (take count (drop start xs)) x ↔ (Contains xs x × (below x ≡ false) × (upto x ≡ true))
between_is {X} xs below upto start count in_range point in_rest point' x = (forward, backward)
  where
    forward : Contains (take count (drop start xs)) x → Contains xs x × (below x ≡ false) × (upto x ≡ true)
    forward (k, lt, at) =
        let short : k < count = omega (arith, length-take-le count (drop start xs) in_rest) in
        let long : start + k < length xs = omega (arith, length-drop start xs) in
        let in_rest_at : get_or (drop start xs) k x ≡ x = sym (get_or-take count (drop start xs) k x short) ∙ at in
        let in_all : get_or xs (start + k) x ≡ x = sym (get_or-drop start xs k x) ∙ in_rest_at in (
          (start + k, long, in_all),
          subst (λ y. below y ≡ false) in_all (point.1 (start + k) x (omega arith) long),
          subst (λ y. upto y ≡ true) in_rest_at (point'.0 k x (omega arith) short),
        )

    backward : Contains xs x × (below x ≡ false) × (upto x ≡ true) → Contains (take count (drop start xs)) x
    backward ((k, lt, at), not_below, is_upto) = elim (cases_lt k start) [
      | inl front ↦ absurd (false≢true (sym (subst (λ y. below y ≡ false) refl not_below)
          ∙ subst (λ y. below y ≡ true) at (point.0 k x (omega arith) front)))
      | inr back ↦
          let there : start + (k - start) ≡ k = omega arith in
          let at_rest : get_or (drop start xs) (k - start) x ≡ x =
          get_or-drop start xs (k - start) x ∙ ap (λ n. get_or xs n x) there ∙ at in
          let long : k - start < length (drop start xs) = omega (arith, length-drop start xs) in
          elim (cases_lt (k - start) count) [
            | inl short ↦ (
              k - start,
              omega (arith, length-take-le count (drop start xs) in_rest),
              get_or-take count (drop start xs) (k - start) x short ∙ at_rest,
            )
            | inr far ↦ absurd (false≢true (sym (subst (λ y. upto y ≡ false) at_rest
                (point'.1 (k - start) x far long)) ∙ is_upto))
          ]
    ]
