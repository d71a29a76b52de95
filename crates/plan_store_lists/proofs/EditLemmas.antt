-- Edits of lists in the order of a key.
use Rattle.std.proofs.Common.{◌≡◌, ◌≢◌, ◌↔◌, ℕ, ◌+◌, ◌-◌, ◌<◌, ◌≤◌, ◌⊎◌, Bool, not, List, [], ◌∷◌, ◌++◌, length, get_or}
use Rattle.std.proofs.Common.{set, take, refl, sym, ap, subst, ◌∙◌, inl, inr, arith, Ordering}
use Rattle.std.specs.declared.cmp.Ordering.TheVariants.{Less, Greater}
use Rattle.std.specs.List.{Contains, HoldsAt, insert, swap, filter}
use Rattle.std.specs.List.Sorted.{IsPartitionPoint, IsPermutation, IsSortedBy}
use Rattle.std.specs.Cmp.{IsTotalOrder}
use Rattle.std.specs.FinMap.{IsAntisymmetric}
use Rattle.std.specs.Ordering.{is_lt, ordering_reverse}
use Rattle.std.proofs.lemmas.Bool.{cases_order, cases_eq, not-true, not_from_false}
use Rattle.std.proofs.lemmas.List.{get_or-set_same, get_or-set_other, length-set, get_or_default, get_or-take}
use Rattle.std.proofs.lemmas.List.{length-take-le}
use Rattle.std.proofs.lemmas.List.Edits.{length-insert, get_or-insert_below, get_or-insert_at, get_or-insert_above}
use Rattle.std.proofs.lemmas.List.Edits.{Swapped}
use Rattle.std.proofs.lemmas.List.Edits.{swapped_from_swap, length-swap}
use Rattle.std.proofs.lemmas.List.Elements.{Contains-append_cases, Contains-append_left, Contains-append_right}
use Rattle.std.proofs.lemmas.List.Sorted.{IsPermutation-insert, IsPermutation-keeps, Contains-permutation}
use Rattle.std.proofs.lemmas.List.Sorted.{IsPermutation-sym, sorted_far, ranks_by}
use Rattle.std.proofs.lemmas.List.Kept.{AllPairs-filter}
use Rattle.plan_store_lists.specs.Keyed.{IsKeyed, AreApart, HasKey, LacksKey, holds_key}
use Rattle.plan_store_lists.proofs.KeyLemmas.{less_from, one_place, one_is, contains_cases, contains_first, contains_later}
use Rattle.plan_store_lists.proofs.KeyLemmas.{contains_filter, filter_contains, holds_lacks, holds_none}

module _ {X K : Type 0} {cmp : K → K → Ordering} (total : IsTotalOrder cmp) (ties : IsAntisymmetric cmp) (key : X → K)
  where
    -- written in place
    module _ (xs : List X) (keyed : IsKeyed cmp key xs) (item : X) (i : ℕ) (lt : i < length xs)
        (holds : HoldsAt (λ x. key x ≡ key item) xs i) where
      set_key : (k : ℕ) (d : X) → key (get_or (set xs i item) k d) ≡ key (get_or xs k d)
      set_key k d = elim (cases_eq k i) [
        | inl here ↦ subst (λ n. key (get_or (set xs i item) n d) ≡ key (get_or xs n d)) (sym here)
            (ap key (get_or-set_same xs i item d lt) ∙ sym (holds d))
        | inr other ↦ ap key (get_or-set_other xs i k item d other)
      ]

      pub set_keyed : IsKeyed cmp key (set xs i item)
      set_keyed k j d below lt_j = rw (set_key k d, set_key j d)
          (keyed k j d below (omega (arith, length-set xs i item)))

      pub set_has : (s : K) → HasKey key xs s → HasKey key (set xs i item) s
      set_has s (x, (k, lt_k, at), same) =
          let d = get_or (set xs i item) k x in (
            d,
            (
              k,
              omega (arith, length-set xs i item),
              get_or_default (set xs i item) k d x
                  (omega (arith, length-set xs i item)),
            ),
            set_key k x ∙ ap key at ∙ same,
          )

      pub set_contains : (z : X) → Contains (set xs i item) z ↔ ((item ≡ z) ⊎ (Contains xs z × (key z ≢ key item)))
      set_contains z = (forward, backward)
        where
          forward : Contains (set xs i item) z → (item ≡ z) ⊎ (Contains xs z × (key z ≢ key item))
          forward (k, lt_k, at) = elim (cases_eq k i) [
            | inl here ↦
                let at_i : get_or (set xs i item) i z ≡ z = subst (λ n. get_or (set xs i item) n z ≡ z) here at in
                inl (sym (get_or-set_same xs i item z lt) ∙ at_i)
            | inr other ↦
                let long : k < length xs = omega (arith, length-set xs i item) in
                let was : get_or xs k z ≡ z = sym (get_or-set_other xs i k item z other) ∙ at in
                inr (
                  (k, long, was),
                  λ same. other (one_place total ties key xs keyed k i z long lt
                      (ap key was ∙ same ∙ sym (holds z))),
                )
          ]

          backward : (item ≡ z) ⊎ (Contains xs z × (key z ≢ key item)) → Contains (set xs i item) z
          backward (inl is) = subst (Contains (set xs i item)) is (
            i,
            omega (arith, length-set xs i item),
            get_or-set_same
                xs i item item lt,
          )
          backward (inr ((k, lt_k, at), apart)) =
              let other : k ≢ i = λ here. apart (ap key (sym (subst (λ n. get_or xs n z ≡ z) here at)) ∙ holds z) in
              (k, omega (arith, length-set xs i item), get_or-set_other xs i k item z other ∙ at)

    -- put in where its key is missing
    module _ (xs : List X) (keyed : IsKeyed cmp key xs) (item : X) (i : ℕ) (le : i ≤ length xs)
        (point : IsPartitionPoint (λ x. cmp (key x) (key item) ≡ Less) (λ x. cmp (key x) (key item) ≡ Greater) xs i)
      where
        long : length (insert xs i item) ≡ length xs + 1
        long = length-insert xs i item le

        pub insert_keyed : IsKeyed cmp key (insert xs i item)
        insert_keyed k j d below lt_j = elim (cases_order j i) [
          | inl at_j ↦
              let low : k < i = omega arith in
              rw (
                get_or-insert_below xs i item d k low le,
                ap (λ n. get_or (insert xs i item) n d) at_j,
                get_or-insert_at
                    xs i item d le,
              ) (point.0 k d (omega arith) low)
          | inr (inl low_j) ↦
              rw (get_or-insert_below xs i item d k (omega arith) le, get_or-insert_below xs i item d j low_j le)
              (keyed k j d below (omega arith))
          | inr (inr high_j) ↦
              let back : j - 1 + 1 ≡ j = omega arith in
              let in_xs : j - 1 < length xs = omega (arith, long) in
              let at_j : get_or (insert xs i item) j d ≡ get_or xs (j - 1) d = ap (λ n. get_or (insert xs i item) n d)
              (sym back) ∙ get_or-insert_above xs i item d (j - 1) (omega arith) le in
              elim (cases_order k i) [
                | inl at_k ↦
                    let above : cmp (key (get_or xs (j - 1) d)) (key item) ≡ Greater = point.1 (j - 1) d (omega arith)
                    in_xs in
                    rw (at_j, ap (λ n. get_or (insert xs i item) n d) at_k, get_or-insert_at xs i item d le)
                    (total.antisymm (key item) (key (get_or xs (j - 1) d)) ∙ ap ordering_reverse above)
                | inr (inl low_k) ↦ rw (at_j, get_or-insert_below xs i item d k low_k le)
                    (keyed k (j - 1) d (omega arith) in_xs)
                | inr (inr high_k) ↦
                    let back_k : k - 1 + 1 ≡ k = omega arith in
                    let at_k : get_or (insert xs i item) k d ≡ get_or xs (k - 1) d =
                    ap (λ n. get_or (insert xs i item) n d)
                    (sym back_k) ∙ get_or-insert_above xs i item d (k - 1) (omega arith) le in
                    rw (at_j, at_k) (keyed (k - 1) (j - 1) d (omega arith) in_xs)
              ]
        ]

    pub insert_contains : (xs : List X) (i : ℕ) (item z : X) → Contains (insert xs i item) z
        ↔ ((item ≡ z) ⊎ Contains xs z)
    insert_contains xs i item z = (forward, backward)
      where
        forward : Contains (insert xs i item) z → (item ≡ z) ⊎ Contains xs z
        forward there = contains_cases item z xs (Contains-permutation (insert xs i item) (item ∷ xs) z
            (IsPermutation-sym (item ∷ xs) (insert xs i item) (IsPermutation-insert xs i item)) there)

        backward : (item ≡ z) ⊎ Contains xs z → Contains (insert xs i item) z
        backward (inl is) = Contains-permutation (item ∷ xs) (insert xs i item) z (IsPermutation-insert xs i item)
            (subst (Contains (item ∷ xs)) is (contains_first item xs))
        backward (inr there) = Contains-permutation (item ∷ xs) (insert xs i item) z (IsPermutation-insert xs i item)
            (contains_later item z xs there)

    -- the place that an element came from
    abbrev From : ℕ → ℕ → ℕ → ℕ → Type 0
    From a b i p = ((i ≡ a) × (p ≡ b)) ⊎ (((i ≡ b) × (p ≡ a) × (i ≢ a)) ⊎ ((p ≡ i) × (i ≢ a) × (i ≢ b)))

    apart_places : (a b i j p q : ℕ) → i < j → From a b i p → From a b j q → p ≡ q → ⊥
    apart_places a b i j p q below (inl (ia, pb)) (inl (ja, qb)) pq = omega arith
    apart_places a b i j p q below (inl (ia, pb)) (inr (inl (jb, qa, not_a))) pq = omega arith
    apart_places a b i j p q below (inl (ia, pb)) (inr (inr (qj, not_a, not_b))) pq = omega arith
    apart_places a b i j p q below (inr (inl (ib, pa, not_a))) (inl (ja, qb)) pq = omega arith
    apart_places a b i j p q below (inr (inl (ib, pa, not_a))) (inr (inl (jb, qa, not_a'))) pq = omega arith
    apart_places a b i j p q below (inr (inl (ib, pa, not_a))) (inr (inr (qj, not_a', not_b))) pq = omega arith
    apart_places a b i j p q below (inr (inr (pi, not_a, not_b))) (inl (ja, qb)) pq = omega arith
    apart_places a b i j p q below (inr (inr (pi, not_a, not_b))) (inr (inl (jb, qa, not_a'))) pq = omega arith
    apart_places a b i j p q below (inr (inr (pi, not_a, not_b))) (inr (inr (qj, not_a', not_b'))) pq = omega arith

    from : (xs : List X) (a b : ℕ) (d : X) → a < length xs → b < length xs → (i : ℕ) → i < length xs → (p : ℕ)
        × (get_or (swap xs a b) i d ≡ get_or xs p d) × From a b i p × (p < length xs)
    from xs a b d lt_a lt_b i lt =
        let at : Swapped (λ i. get_or xs i d) (λ i. get_or (swap xs a b) i d) a b = swapped_from_swap xs (swap xs a b) a
        b
        d lt_a lt_b refl in
        elim (cases_eq i a) [
          | inl is_a ↦ (
            b,
            subst (λ n. get_or (swap xs a b) n d ≡ get_or xs b d) (sym is_a) at.0,
            inl (is_a, refl),
            lt_b,
          )
          | inr not_a ↦ elim (cases_eq i b) [
            | inl is_b ↦ (
              a,
              subst (λ n. get_or (swap xs a b) n d ≡ get_or xs a d) (sym is_b) at.1,
              inr
                  (inl (is_b, refl, not_a)),
              lt_a,
            )
            | inr not_b ↦ (i, at.2 i not_a not_b, inr (inr (refl, not_a, not_b)), lt)
          ]
        ]

    apart_swap : (xs : List X) (a b : ℕ) → a < length xs → b < length xs → AreApart key xs → AreApart key (swap xs a b)
    apart_swap xs a b lt_a lt_b apart i j d below lt_j same =
        let long : length (swap xs a b) ≡ length xs = length-swap xs a b in
        let from_i = from xs a b d lt_a lt_b i (omega arith) in
        let from_j = from xs a b d lt_a lt_b j (omega arith) in
        let one : key (get_or xs from_i.0 d) ≡ key (get_or xs from_j.0 d) = ap key (sym from_i.1) ∙ same
        ∙ ap key from_j.1 in
        elim (cases_order from_i.0 from_j.0) [
          | inl pq ↦ apart_places a b i j from_i.0 from_j.0 below from_i.2 from_j.2 pq
          | inr (inl lt) ↦ apart from_i.0 from_j.0 d lt from_j.3 one
          | inr (inr gt) ↦ apart from_j.0 from_i.0 d gt from_i.3 (sym one)
        ]

    -- sorted
    pub sorted_keyed : (xs ys : List X) → AreApart key xs → IsPermutation xs ys
        → IsSortedBy (λ x y. is_lt (cmp (key x) (key y))) ys → IsKeyed cmp key ys
    sorted_keyed xs ys distinct moves sorted i j d below lt_j =
        let apart : AreApart key ys = IsPermutation-keeps xs (λ l. AreApart key l) distinct
        (λ l i j lt_i lt_j h. apart_swap l i j lt_i lt_j h) ys moves in
        less_from total ties key (key (get_or ys i d)) (key (get_or ys j d))
        (sorted_far (λ x y. is_lt (cmp (key x) (key y))) (ranks_by total key) ys sorted i j d (omega arith) lt_j)
        (apart i j d below lt_j)

    -- what is left without the keys of others
    abbrev pub stays_beside : List X → X → Bool
    stays_beside others x = not (holds_key cmp key others (key x))

    pub rest_keyed : (others xs : List X) → IsKeyed cmp key xs → IsKeyed cmp key (filter (stays_beside others) xs)
    rest_keyed others xs keyed = AllPairs-filter (λ x y. cmp (key x) (key y) ≡ Less) (stays_beside others) xs keyed

    pub rest_contains : (others xs : List X) (z : X) → Contains (filter (stays_beside others) xs) z
        ↔ (Contains xs z × LacksKey key others (key z))
    rest_contains others xs z = (
      (λ there. let is = contains_filter (stays_beside others) xs z there in
          (is.0, holds_lacks total ties key others (key z) (not-true _ is.1))),
      λ both. filter_contains (stays_beside others) xs z both.0
          (not_from_false _ (holds_none total ties key others (key z) both.1)),
    )

    -- one more item is written
    pub replaced_more : (xs ys zs fs : List X) (item : X) → LacksKey key fs (key item)
        → ((x : X) → Contains ys x ↔ (Contains fs x ⊎ (Contains xs x × LacksKey key fs (key x))))
        → ((x : X) → Contains zs x ↔ ((item ≡ x) ⊎ (Contains ys x × (key x ≢ key item))))
        → (x : X) → Contains zs x ↔ (Contains (fs ++ item ∷ []) x
        ⊎ (Contains xs x × LacksKey key (fs ++ item ∷ []) (key x)))
    replaced_more xs ys zs fs item lacks before now x = (forward, backward)
      where
        forward : Contains zs x → Contains (fs ++ item ∷ []) x
            ⊎ (Contains xs x × LacksKey key (fs ++ item ∷ []) (key x))
        forward there = elim ((now x).0 there) [
          | inl is ↦ inl (Contains-append_right fs (item ∷ []) x
              (subst (Contains (item ∷ [])) is (contains_first item [])))
          | inr old ↦ elim ((before x).0 old.0) [
            | inl front ↦ inl (Contains-append_left fs (item ∷ []) x front)
            | inr stays ↦ inr (
              stays.0,
              λ y at_y same. elim (Contains-append_cases fs (item ∷ []) y at_y) [
                | inl front ↦ stays.1 y front same
                | inr last ↦ old.1 (sym same ∙ ap key (sym (one_is item y last)))
              ],
            )
          ]
        ]

        backward : Contains (fs ++ item ∷ []) x ⊎ (Contains xs x × LacksKey key (fs ++ item ∷ []) (key x))
            → Contains zs x
        backward (inl there) = elim (Contains-append_cases fs (item ∷ []) x there) [
          | inl front ↦ (now x).1 (inr ((before x).1 (inl front), lacks x front))
          | inr last ↦ (now x).1 (inl (one_is item x last))
        ]
        backward (inr both) = (now x).1 (inr (
          (before x).1 (inr (both.0, λ y at_y. both.1 y (Contains-append_left fs (item ∷ []) y at_y))),
          λ same. both.1 item (Contains-append_right fs (item ∷ []) item (contains_first item [])) (sym same),
        ))

    -- a key at a place stands nowhere in front
    pub lacks_front : (xs : List X) → AreApart key xs → (i : ℕ) (d : X) → i < length xs → LacksKey key (take i xs)
        (key (get_or xs i d))
    lacks_front xs apart i d lt y (k, lt_k, at) same =
        let short : k < i = omega (arith, length-take-le i xs (omega arith)) in
        let at_y : get_or xs k y ≡ y = sym (get_or-take i xs k y short) ∙ at in
        let at_i : get_or xs i y ≡ get_or xs i d = get_or_default xs i y d lt in
        apart k i y short lt (ap key at_y ∙ same ∙ ap key (sym at_i))
