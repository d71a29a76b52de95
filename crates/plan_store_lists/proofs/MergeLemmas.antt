-- A merge of two lists in the order of a key, from the end on.
use Rattle.std.proofs.Common.{◌≡◌, ◌↔◌, ℕ, zero, suc, ◌+◌, ◌-◌, ◌<◌, ◌≤◌, ◌⊎◌, List, [], ◌∷◌, ◌++◌, length}
use Rattle.std.proofs.Common.{get_or, set, take, drop, refl, sym, ap, subst, ◌∙◌, inl, inr, arith, Ordering}
use Rattle.std.proofs.Common.{length-append, length-drop, add-one}
use Rattle.std.specs.declared.cmp.Ordering.TheVariants.{Less}
use Rattle.std.specs.List.{Contains}
use Rattle.std.specs.Cmp.{IsTotalOrder}
use Rattle.std.specs.FinMap.{IsAntisymmetric}
use Rattle.std.proofs.Math.Seq.{drop-cons}
use Rattle.std.proofs.lemmas.Bool.{cases_lt}
use Rattle.std.proofs.lemmas.List.{length-set, get_or-take, get_or-drop, length-take-le, take_more, drop-set}
use Rattle.std.proofs.lemmas.List.{take-set-le, take-append-drop, take-take, drop-take}
use Rattle.std.proofs.lemmas.List.{drop-append-le}
use Rattle.std.proofs.lemmas.List.{get_or_append_left, get_or-append_right, get_or_default}
use Rattle.std.proofs.lemmas.List.Elements.{Contains-append_cases, Contains-append_left, Contains-append_right}
use Rattle.std.proofs.lemmas.List.Elements.{Contains-get_or}
use Rattle.plan_store_lists.specs.Keyed.{IsKeyed}
use Rattle.plan_store_lists.proofs.SliceLemmas.{drop_keyed}
use Rattle.plan_store_lists.proofs.KeyLemmas.{contains_cases, contains_first, contains_later, one_is}

module _ {X : Type 0} where
  -- the last of a front
  pub front_cases : (xs : List X) (i : ℕ) (d z : X) → i < length xs → Contains (take (i + 1) xs) z
      → Contains (take i xs) z ⊎ (get_or xs i d ≡ z)
  front_cases xs i d z lt there =
      elim (Contains-append_cases (take i xs) (get_or xs i d ∷ []) z (subst (λ l. Contains l z) (take_more xs i d lt)
      there)) [
        | inl front ↦ inl front
        | inr last ↦ inr (one_is (get_or xs i d) z last)
      ]

  pub front_later : (xs : List X) (i : ℕ) (d z : X) → i < length xs → Contains (take i xs) z
      → Contains (take (i + 1) xs) z
  front_later xs i d z lt there = subst (λ l. Contains l z) (sym (take_more xs i d lt))
      (Contains-append_left (take i xs) (get_or xs i d ∷ []) z there)

  pub front_last : (xs : List X) (i : ℕ) (d : X) → i < length xs → Contains (take (i + 1) xs) (get_or xs i d)
  front_last xs i d lt = subst (λ l. Contains l (get_or xs i d)) (sym (take_more xs i d lt))
      (Contains-append_right (take i xs) (get_or xs i d ∷ []) (get_or xs i d) (contains_first (get_or xs i d) []))

  back_is : (xs : List X) (i : ℕ) (d : X) → i < length xs → drop i xs ≡ get_or xs i d ∷ drop (i + 1) xs
  back_is xs i d lt = rw add-one (drop-cons xs i d lt)

  pub back_cases : (xs : List X) (i : ℕ) (d z : X) → i < length xs → Contains (drop i xs) z → (get_or xs i d ≡ z)
      ⊎ Contains (drop (i + 1) xs) z
  back_cases xs i d z lt there = contains_cases (get_or xs i d) z (drop (i + 1) xs)
      (subst (λ l. Contains l z) (back_is xs i d lt) there)

  pub back_first : (xs : List X) (i : ℕ) (d : X) → i < length xs → Contains (drop i xs) (get_or xs i d)
  back_first xs i d lt = subst (λ l. Contains l (get_or xs i d)) (sym (back_is xs i d lt))
      (contains_first (get_or xs i d) (drop (i + 1) xs))

  pub back_later : (xs : List X) (i : ℕ) (d z : X) → i < length xs → Contains (drop (i + 1) xs) z → Contains (drop i xs)
      z
  back_later xs i d z lt there = subst (λ l. Contains l z) (sym (back_is xs i d lt))
      (contains_later (get_or xs i d) z (drop (i + 1) xs) there)

  pub halves : (xs : List X) (i : ℕ) (z : X) → Contains xs z ↔ (Contains (take i xs) z ⊎ Contains (drop i xs) z)
  halves xs i z = (
    (λ there. Contains-append_cases (take i xs) (drop i xs) z (subst (λ l. Contains l z) (sym (take-append-drop i xs))
        there)),
    λ either. subst (λ l. Contains l z) (take-append-drop i xs)
        (elim either [
          | inl front ↦ Contains-append_left (take i xs) (drop i xs) z front
          | inr back ↦
              Contains-append_right (take i xs) (drop i xs) z back
        ]),
  )

  back_parts : (xs : List X) (at end : ℕ) → at ≤ end → end ≤ length xs → drop at xs ≡ drop at (take end xs)
      ++ drop end xs
  back_parts xs at end le within = ap (drop at) (sym (take-append-drop end xs))
      ∙ drop-append-le at (take end xs) (drop end xs) (omega (arith, length-take-le end xs within))

  -- up to a place behind, or from there on
  pub between_cases : (xs : List X) (at end : ℕ) (z : X) → at ≤ end → end ≤ length xs → Contains (drop at xs) z
      → Contains (drop at (take end xs)) z ⊎ Contains (drop end xs) z
  between_cases xs at end z le within there = Contains-append_cases (drop at (take end xs)) (drop end xs) z
      (subst (λ l. Contains l z) (back_parts xs at end le within) there)

module _ {X K : Type 0} {cmp : K → K → Ordering} (total : IsTotalOrder cmp) (ties : IsAntisymmetric cmp) (key : X → K)
  where
    abbrev pub Below : List X → List X → Type 0
    Below xs ys = (x y : X) → Contains xs x → Contains ys y → cmp (key x) (key y) ≡ Less

    pub halves_below : (xs : List X) → IsKeyed cmp key xs → (i : ℕ) → i ≤ length xs → Below (take i xs) (drop i xs)
    halves_below xs keyed i le x y (a, lt_a, at_a) (b, lt_b, at_b) =
        let short : a < i = omega (arith, length-take-le i xs le) in
        let long : i + b < length xs = omega (arith, length-drop i xs) in
        let at_x : get_or xs a x ≡ x = sym (get_or-take i xs a x short) ∙ at_a in
        let at_y : get_or xs (i + b) x ≡ y = get_or_default xs (i + b) x y long ∙ sym (get_or-drop i xs b y) ∙ at_b in
        rw (sym at_x, sym at_y) (keyed a (i + b) x (omega arith) long)

    pub cons_keyed : (x : X) (xs : List X) → ((y : X) → Contains xs y → cmp (key x) (key y) ≡ Less) → IsKeyed cmp key xs
        → IsKeyed cmp key (x ∷ xs)
    cons_keyed x xs below keyed zero zero d lt lt_j = absurd (omega arith)
    cons_keyed x xs below keyed zero (suc j) d lt lt_j = below (get_or xs j d) (Contains-get_or xs j d (omega arith))
    cons_keyed x xs below keyed (suc i) zero d lt lt_j = absurd (omega arith)
    cons_keyed x xs below keyed (suc i) (suc j) d lt lt_j = keyed i j d (omega arith) (omega arith)

    pub append_keyed : (xs ys : List X) → IsKeyed cmp key xs → IsKeyed cmp key ys → Below xs ys
        → IsKeyed cmp key (xs ++ ys)
    append_keyed xs ys keyed keyed' below i j d lt lt_j = elim (cases_lt j (length xs)) [
      | inl left ↦ rw (get_or_append_left xs ys d i (omega arith), get_or_append_left xs ys d j left)
          (keyed i j d lt left)
      | inr right ↦
          let short : j - length xs < length ys = omega (arith, length-append xs ys) in
          let at_j = get_or-append_right xs ys (length xs) j d refl right in
          elim (cases_lt i (length xs)) [
            | inl left ↦ rw (get_or_append_left xs ys d i left, at_j)
                (below (get_or xs i d) (get_or ys (j - length xs) d)
                (Contains-get_or xs i d left) (Contains-get_or ys (j - length xs) d short))
            | inr both ↦ rw (get_or-append_right xs ys (length xs) i d refl both, at_j)
                (keyed' (i - length xs) (j - length xs) d (omega arith) short)
          ]
    ]

    pub take_keyed : (xs : List X) → IsKeyed cmp key xs → (i : ℕ) → i ≤ length xs → IsKeyed cmp key (take i xs)
    take_keyed xs keyed i le a b d lt lt_b =
        let short : b < i = omega (arith, length-take-le i xs le) in
        rw (get_or-take i xs a d (omega arith), get_or-take i xs b d short) (keyed a b d lt (omega arith))

    -- the first `left` of one list and the first `right` of the other are still to be merged; the rest stands merged
    -- behind them
    pub record Merging (xs ys zs : List X) (left right : ℕ) : Type 0 where
      pub left_in : left ≤ length xs
      pub right_in : right ≤ length ys
      pub same_length : length zs ≡ length xs + length ys
      pub front : take left zs ≡ take left xs
      pub back_keyed : IsKeyed cmp key (drop (left + right) zs)
      pub back : (z : X) → Contains (drop (left + right) zs) z
          ↔ (Contains (drop left xs) z ⊎ Contains (drop right ys) z)
      pub lefts_low : Below (take left xs) (drop right ys)
      pub rights_low : Below (take right ys) (drop left xs)

    module _ (xs ys zs : List X) (keyed : IsKeyed cmp key xs) (keyed' : IsKeyed cmp key ys) where
      -- those of the first list above the last of the second, and that one before them
      merges_block : (zs' : List X) (left right at : ℕ) (p : X) → Merging xs ys zs left (right + 1)
          → p ≡ get_or ys right p → at ≤ left
          → ((x : X) → Contains (take at (take left xs)) x → cmp (key x) (key p) ≡ Less)
          → ((x : X) → Contains (drop at (take left xs)) x → cmp (key p) (key x) ≡ Less)
          → length zs' ≡ length zs → take at zs' ≡ take at zs
          → drop (at + right) zs' ≡ p ∷ take (left - at) (drop at zs) ++ drop (left + (right + 1)) zs
          → Merging xs ys zs' at right
      merges_block zs' left right at p m at_p le low high same_length unmoved moved =
          let lt_r : right < length ys = omega (arith, m.right_in) in
          let ls = take left xs in
          let mid = drop at ls in
          let far = drop (left + (right + 1)) zs in
          let split : drop at xs ≡ mid ++ drop left xs = back_parts xs at left le m.left_in in
          let step : at + (left - at) ≡ left = omega arith in
          let block : take (left - at) (drop at zs) ≡ mid = sym (drop-take at (left - at) zs)
          ∙ ap (λ n. drop at (take n zs)) step ∙ ap (drop at) m.front in
          let back' : drop (at + right) zs' ≡ p ∷ mid ++ far = moved ∙ ap (λ l. p ∷ l ++ far) block in
          let p_front : Contains (take (right + 1) ys) p = subst (Contains (take (right + 1) ys)) (sym at_p)
          (front_last ys right p lt_r) in
          let p_back : Contains (drop right ys) p = subst (Contains (drop right ys)) (sym at_p)
          (back_first ys right p lt_r) in
          let mid_in : (x : X) → Contains mid x → Contains ls x = λ x there. (halves ls at x).1 (inr there) in
          let keyed_mid : IsKeyed cmp key mid = drop_keyed cmp key ls (take_keyed xs keyed left m.left_in) at in
          let below_p : (y : X) → Contains (mid ++ far) y → cmp (key p) (key y) ≡ Less =
          λ y there. elim (Contains-append_cases mid far y there) [
            | inl in_mid ↦ high y in_mid
            | inr in_far ↦ elim ((m.back y).0 in_far) [
              | inl in_xs ↦ m.rights_low p y p_front in_xs
              | inr in_ys ↦ halves_below ys keyed' (right + 1) (omega arith) p y p_front in_ys
            ]
          ] in
          let below_mid : Below mid far = λ x y at_x at_y. elim ((m.back y).0 at_y) [
            | inl in_xs ↦ halves_below xs keyed left m.left_in x y (mid_in x at_x) in_xs
            | inr in_ys ↦ m.lefts_low x y (mid_in x at_x) in_ys
          ] in
          record {
            left_in = omega (arith, m.left_in);
            right_in = omega (arith, m.right_in);
            same_length = same_length ∙ m.same_length;
            front = unmoved ∙ sym (take-take at left zs le) ∙ ap (take at) m.front ∙ take-take at left xs le;
            back_keyed = rw back' (cons_keyed p (mid ++ far) below_p
                (append_keyed mid far keyed_mid m.back_keyed below_mid));
            back = λ z. rw (back', split) (
              (λ there. elim (contains_cases p z (mid ++ far) there) [
                | inl is ↦ inr (subst (Contains (drop right ys)) is p_back)
                | inr rest ↦ elim (Contains-append_cases mid far z rest) [
                  | inl in_mid ↦ inl (Contains-append_left mid (drop left xs) z in_mid)
                  | inr in_far ↦ elim ((m.back z).0 in_far) [
                    | inl in_xs ↦ inl (Contains-append_right mid (drop left xs) z in_xs)
                    | inr in_ys ↦ inr (back_later ys right p z lt_r in_ys)
                  ]
                ]
              ]),
              λ either. elim either [
                | inl in_xs ↦ contains_later p z (mid ++ far) (elim (Contains-append_cases mid (drop left xs) z in_xs) [
                  | inl in_mid ↦ Contains-append_left mid far z in_mid
                  | inr behind ↦ Contains-append_right mid far z ((m.back z).1 (inl behind))
                ])
                | inr in_ys ↦ elim (back_cases ys right p z lt_r in_ys) [
                  | inl is ↦ subst (Contains (p ∷ mid ++ far)) (at_p ∙ is) (contains_first p (mid ++ far))
                  | inr later ↦ contains_later p z (mid ++ far) (Contains-append_right mid far z
                      ((m.back z).1 (inr later)))
                ]
              ],
            );
            lefts_low = λ x y at_x at_y.
                let there : Contains (take at ls) x = subst (λ l. Contains l x) (sym (take-take at left xs le)) at_x in
                elim (back_cases ys right p y lt_r at_y) [
                  | inl is ↦ subst (λ z. cmp (key x) (key z) ≡ Less) (at_p ∙ is) (low x there)
                  | inr later ↦ m.lefts_low x y ((halves ls at x).1 (inl there)) later
                ];
            rights_low = λ x y at_x at_y.
                elim (Contains-append_cases mid (drop left xs) y (subst (λ l. Contains l y) split at_y)) [
                  | inl in_mid ↦ total.trans (key x) (key p) (key y)
                      (halves_below ys keyed' right (omega arith) x p at_x p_back) (high y in_mid)
                  | inr behind ↦ m.rights_low x y (front_later ys right p x lt_r at_x) behind
                ];
          }

      merges_block_at : (zs' : List X) (left r right at : ℕ) (p : X) → right + 1 ≡ r → Merging xs ys zs left r
          → p ≡ get_or ys right p → at ≤ left
          → ((x : X) → Contains (take at (take left xs)) x → cmp (key x) (key p) ≡ Less)
          → ((x : X) → Contains (drop at (take left xs)) x → cmp (key p) (key x) ≡ Less)
          → length zs' ≡ length zs → take at zs' ≡ take at zs
          → drop (at + right) zs' ≡ p ∷ take (left - at) (drop at zs) ++ drop (left + r) zs
          → Merging xs ys zs' at right
      merges_block_at zs' left r right at p is_r m at_p le low high same_length unmoved moved =
          merges_block zs' left right at p (subst (λ n. Merging xs ys zs left n) (sym is_r) m) at_p le low high
          same_length unmoved (moved ∙ ap (λ n. p ∷ take (left - at) (drop at zs) ++ drop (left + n) zs) (sym is_r))

      pub merges_moved : (us : List X) (left r right at : ℕ) (p : X) → right + 1 ≡ r → Merging xs ys zs left r
          → p ≡ get_or ys right p → at ≤ left
          → ((x : X) → Contains (take at (take left xs)) x → cmp (key x) (key p) ≡ Less)
          → ((x : X) → Contains (drop at (take left xs)) x → cmp (key p) (key x) ≡ Less)
          → length us ≡ length zs → take at us ≡ take at zs
          → drop (at + r) us ≡ take (left - at) (drop at zs) ++ drop (at + (left - at) + r) zs
          → Merging xs ys (set us (at + r - 1) p) at right
      merges_moved us left r right at p is_r m at_p le low high same_length unmoved moved =
          let here : at + right ≡ at + r - 1 = omega (arith, is_r) in
          let next : at + r - 1 + 1 ≡ at + r = omega (arith, is_r) in
          let last : at + (left - at) + r ≡ left + r = omega (arith, le) in
          let within : at + r - 1 < length us = omega (
            arith,
            is_r,
            le,
            same_length,
            m.left_in,
            m.right_in,
            m.same_length,
          ) in
          merges_block_at (set us (at + r - 1) p) left r right at p is_r m at_p le low high
          (length-set us (at + r - 1) p ∙ same_length)
          (take-set-le at us (at + r - 1) p (omega (arith, is_r)) ∙ unmoved)
          (ap (λ n. drop n (set us (at + r - 1) p)) here ∙ drop-set us (at + r - 1) p within
          ∙ ap (λ n. p ∷ drop n us) next ∙ ap (λ l. p ∷ l) moved
          ∙ ap (λ n. p ∷ take (left - at) (drop at zs) ++ drop n zs) last)

      -- nothing of the second list is left
      pub merged : (left : ℕ) → Merging xs ys zs left 0 → IsKeyed cmp key zs
          × ((z : X) → Contains zs z ↔ (Contains ys z ⊎ Contains xs z))
      merged left m =
          let same : left + 0 ≡ left = omega arith in
          let keyed_back : IsKeyed cmp key (drop left zs) = subst (λ n. IsKeyed cmp key (drop n zs)) same
          m.back_keyed in
          let back : (z : X) → Contains (drop left zs) z ↔ (Contains (drop left xs) z ⊎ Contains ys z) =
          λ z. subst (λ n. Contains (drop n zs) z ↔ (Contains (drop left xs) z ⊎ Contains ys z)) same (m.back z) in
          let below : Below (take left zs) (drop left zs) = λ x y at_x at_y.
          let in_front : Contains (take left xs) x = subst (λ l. Contains l x) m.front at_x in
          elim ((back y).0 at_y) [
            | inl in_xs ↦ halves_below xs keyed left m.left_in x y in_front in_xs
            | inr in_ys ↦ m.lefts_low x y in_front in_ys
          ] in
          let keyed_front : IsKeyed cmp key (take left zs) = rw m.front (take_keyed xs keyed left m.left_in) in (
            subst (IsKeyed cmp key) (take-append-drop left zs) (append_keyed (take left zs) (drop left zs) keyed_front
                keyed_back below),
            λ z. (
              (λ there. elim ((halves zs left z).0 there) [
                | inl front ↦ inr ((halves xs left z).1 (inl (subst (λ l. Contains l z) m.front front)))
                | inr behind ↦ elim ((back z).0 behind) [
                  | inl in_xs ↦ inr ((halves xs left z).1 (inr in_xs))
                  | inr in_ys ↦
                      inl in_ys
                ]
              ]),
              λ either. (halves zs left z).1 (elim either [
                | inl in_ys ↦ inr ((back z).1 (inr in_ys))
                | inr in_xs ↦ elim ((halves xs left z).0 in_xs) [
                  | inl front ↦ inl (subst (λ l. Contains l z) (sym m.front) front)
                  | inr behind ↦ inr ((back z).1 (inl behind))
                ]
              ]),
            ),
          )
