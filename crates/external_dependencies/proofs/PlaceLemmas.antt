-- Places of predecessors among names, and the graph that they make.
use Rattle.std.proofs.Common.{◌≡◌, ◌↔◌, ℕ, ◌<◌, List, [], ◌∷◌, ◌++◌, length, get_or, refl, sym, ap, subst, ◌∙◌, inl}
use Rattle.std.proofs.Common.{inr, arith, Ok, Err, Ordering, Result}
use Rattle.std.specs.Bool.{IsTrue}
use Rattle.std.specs.Result.{is_ok}
use Rattle.std.specs.Cmp.{IsTotalOrder}
use Rattle.std.specs.FinMap.{IsAntisymmetric}
use Rattle.std.specs.declared.cmp.Ordering.TheVariants.{Equal}
use Rattle.std.specs.List.{Contains}
use Rattle.std.specs.List.Sorted.{IsBinarySearchResult, IsSearchInRange}
use Rattle.std.specs.Cmp.Lexicographic.{slice_cmp}
use Rattle.std.specs.Ordering.{nat_cmp}
use Rattle.std.proofs.lemmas.Cmp.{nat_list_cmp_total, tied_itself}
use Rattle.std.proofs.lemmas.List.Elements.{Contains-push, Contains-push_cases, Contains-append_left}
use Rattle.std.proofs.lemmas.Bool.{cases_lt, false≢true}
use Rattle.external_dependencies.specs.declared.links.Link.{Link}
use Rattle.external_dependencies.specs.Rising.{IsRising}
use Rattle.external_dependencies.specs.Places.{ArePlaces}
use Rattle.external_dependencies.proofs.OrderLemmas.{equal_not_greater, less_not_equal, rising_once}
use Rattle.external_dependencies.proofs.OrderLemmas.{rising_searchable, name_ties}

module _ (names : List (List ℕ)) (rising : IsRising (slice_cmp nat_cmp) names) (list : List Link) (found : List ℕ)
    (so_far : ArePlaces names list found) (link : Link) where
  -- the place of one more predecessor
  pub places_found : (at : ℕ) → at < length names → link.predecessor ≡ get_or names at []
      → ArePlaces names (list ++ link ∷ []) (found ++ at ∷ [])
  places_found at in_range is place = (forward, backward)
    where
      forward : Contains (found ++ at ∷ []) place → (place < length names)
          × ((l : Link) × Contains (list ++ link ∷ []) l × (l.predecessor ≡ get_or names place []))
      forward here = elim (Contains-push_cases found at place here) [
        | inl old ↦ let facts = (so_far place).0 old in
            (facts.0, (facts.1.0, Contains-append_left list (link ∷ []) facts.1.0 facts.1.1, facts.1.2))
        | inr same ↦ (
          subst (λ p. p < length names) same in_range,
          (link, Contains-push list link, subst (λ p. link.predecessor ≡ get_or names p []) same is),
        )
      ]

      backward : (place < length names) × ((l : Link) × Contains (list ++ link ∷ []) l
          × (l.predecessor ≡ get_or names place [])) → Contains (found ++ at ∷ []) place
      backward (lt, (l, here, named)) = elim (Contains-push_cases list link l here) [
        | inl old ↦ Contains-append_left found (at ∷ []) place ((so_far place).1 (lt, (l, old, named)))
        | inr same ↦
            let names_same : get_or names at [] ≡ get_or names place [] =
            sym is ∙ ap (λ (x : Link). x.predecessor) same ∙ named in
            let same_place : at ≡ place =
            rising_once nat_list_cmp_total names rising at place [] in_range lt names_same in
            subst (Contains (found ++ at ∷ [])) same_place (Contains-push found at)
      ]

  -- a predecessor without a place
  pub places_absent : ((place : ℕ) → place < length names → link.predecessor ≡ get_or names place [] → ⊥)
      → ArePlaces names (list ++ link ∷ []) found
  places_absent absent place = (forward, backward)
    where
      forward : Contains found place → (place < length names)
          × ((l : Link) × Contains (list ++ link ∷ []) l × (l.predecessor ≡ get_or names place []))
      forward here = let facts = (so_far place).0 here in
          (facts.0, (facts.1.0, Contains-append_left list (link ∷ []) facts.1.0 facts.1.1, facts.1.2))

      backward : (place < length names) × ((l : Link) × Contains (list ++ link ∷ []) l
          × (l.predecessor ≡ get_or names place [])) → Contains found place
      backward (lt, (l, here, named)) = elim (Contains-push_cases list link l here) [
        | inl old ↦ (so_far place).1 (lt, (l, old, named))
        | inr same ↦ absurd (absent place lt (ap (λ (x : Link). x.predecessor) same ∙ named))
      ]

module _ (names : List (List ℕ)) (rising : IsRising (slice_cmp nat_cmp) names) (name : List ℕ) where
  -- a binary search that finds a name tells its place
  pub search_finds : (at : ℕ) → IsBinarySearchResult (λ y. slice_cmp nat_cmp y name) names (Ok at)
      → name ≡ get_or names at []
  search_finds at is = sym (name_ties (get_or names at []) name (is []))

  -- one that does not find it tells that it is not there
  pub search_misses : (at : ℕ) → IsBinarySearchResult (λ y. slice_cmp nat_cmp y name) names (Err at) → (place : ℕ)
      → place < length names → name ≡ get_or names place [] → ⊥
  search_misses at parted place lt is =
      let point = parted (rising_searchable nat_list_cmp_total names rising name) in
      let tied : slice_cmp nat_cmp (get_or names place []) name ≡ Equal =
      subst (λ n. slice_cmp nat_cmp n name ≡ Equal) is (tied_itself nat_list_cmp_total name) in
      elim (cases_lt place at) [
        | inl below ↦ less_not_equal (sym (point.0 place [] (omega arith) below) ∙ tied)
        | inr above ↦ equal_not_greater (sym tied ∙ point.1 place [] above lt)
      ]

-- a binary search of a list in rising order tells whether it has an element
module _ {X : Type 0} {R : X → X → Ordering} (total : IsTotalOrder R) (xs : List X) (rising : IsRising R xs)
    (x : X) where
  pub search_absent : (at : ℕ) → IsBinarySearchResult (λ y. R y x) xs (Err at) → Contains xs x → ⊥
  search_absent at parted (place, lt, is) =
      let point = parted (rising_searchable total xs rising x) in
      let tied : R (get_or xs place x) x ≡ Equal = subst (λ y. R y x ≡ Equal) (sym is) (tied_itself total x) in
      elim (cases_lt place at) [
        | inl below ↦ less_not_equal (sym (point.0 place x (omega arith) below) ∙ tied)
        | inr above ↦ equal_not_greater (sym tied ∙ point.1 place x above lt)
      ]

module _ {X : Type 0} {R : X → X → Ordering} (total : IsTotalOrder R) (ties : IsAntisymmetric R) (xs : List X)
    (rising : IsRising R xs) (x : X) where
  pub search_tells : (r : Result ℕ ℕ) → IsSearchInRange r (length xs) → IsBinarySearchResult (λ y. R y x) xs r
      → IsTrue (is_ok r) ↔ Contains xs x
  search_tells (Ok at) bound is = ((λ _. (at, bound, ties (get_or xs at x) x (is x))), λ _. refl)
  search_tells (Err at) bound parted =
      ((λ no. absurd (false≢true no)), λ here. absurd (search_absent total xs rising x at parted here))
