-- Items taken out of a list in the order of a key, block by block.
use Rattle.std.proofs.Common.{◌≡◌, ℕ, ◌+◌, ◌-◌, ◌<◌, ◌≤◌, Bool, true, false, not, cond, List, [], ◌∷◌, ◌++◌}
use Rattle.std.proofs.Common.{length, get_or, take, drop, refl, sym, ap, subst, ◌∙◌, inl, inr, arith, Ordering}
use Rattle.std.proofs.Common.{length-drop, take-append-drop, take-take, drop-drop, take-add, take_all}
use Rattle.std.specs.declared.cmp.Ordering.TheVariants.{Less}
use Rattle.std.specs.List.{Contains, filter}
use Rattle.std.specs.Cmp.{IsTotalOrder}
use Rattle.std.specs.FinMap.{IsAntisymmetric}
use Rattle.std.proofs.lemmas.List.{append-nil}
use Rattle.std.proofs.lemmas.List.Elements.{filter-append}
use Rattle.plan_store_lists.specs.Keyed.{IsKeyed, LacksKey, holds_key}
use Rattle.plan_store_lists.proofs.KeyLemmas.{contains_first, contains_later, less_apart, holds_none, holds_has}
use Rattle.plan_store_lists.proofs.EditLemmas.{stays_beside}
use Rattle.plan_store_lists.proofs.MergeLemmas.{front_cases, front_last, back_cases, back_first, halves, halves_below, Below}

module _ {X : Type 0} (p : X → Bool) where
  filter_whole : (xs : List X) → ((x : X) → Contains xs x → p x ≡ true) → filter p xs ≡ xs
  filter_whole [] all = refl
  filter_whole (x ∷ xs) all =
      let later : filter p xs ≡ xs = filter_whole xs (λ y there. all y (contains_later x y xs there)) in
      ap (λ b. cond b (x ∷ filter p xs) (filter p xs)) (all x (contains_first x xs)) ∙ ap (λ l. x ∷ l) later

  filter_empty : (xs : List X) → ((x : X) → Contains xs x → p x ≡ false) → filter p xs ≡ []
  filter_empty [] none = refl
  filter_empty (x ∷ xs) none =
      ap (λ b. cond b (x ∷ filter p xs) (filter p xs)) (none x (contains_first x xs))
      ∙ filter_empty xs (λ y there. none y (contains_later x y xs there))

module _ {X K : Type 0} {cmp : K → K → Ordering} (total : IsTotalOrder cmp) (ties : IsAntisymmetric cmp) (key : X → K)
  where
    -- up to `read` those with the keys of the first `index` items are out, and what stays stands in the first `kept`
    -- places
    pub record Thinning (xs ys zs : List X) (kept read index : ℕ) : Type 0 where
      pub kept_in : kept ≤ read
      pub read_in : read ≤ length xs
      pub same_length : length zs ≡ length xs
      pub front : take kept zs ≡ filter (stays_beside total ties key ys) (take read xs)
      pub rest : drop read zs ≡ drop read xs
      pub above : Below total ties key (take index ys) (drop read xs)

    stays_if : (ys : List X) (y : X) → LacksKey key ys (key y) → stays_beside total ties key ys y ≡ true
    stays_if ys y lacks = ap not (holds_none total ties key ys (key y) lacks)

    module _ (xs ys zs : List X) (keyed : IsKeyed cmp key ys) where
      pub thins : (zs' : List X) (kept read index a b : ℕ) (p : X) → Thinning xs ys zs kept read index
          → index < length ys → p ≡ get_or ys index p → a ≤ b → b ≤ length (drop read xs)
          → ((y : X) → Contains (take a (drop read xs)) y → cmp (key y) (key p) ≡ Less)
          → ((y : X) → Contains (drop a (take b (drop read xs))) y → key y ≡ key p)
          → ((y : X) → Contains (drop b (drop read xs)) y → cmp (key p) (key y) ≡ Less)
          → length zs' ≡ length zs → take (kept + a) zs' ≡ take kept zs ++ take a (drop read zs)
          → drop (read + a) zs' ≡ drop (read + a) zs → Thinning xs ys zs' (kept + a) (read + b) (index + 1)
      thins zs' kept read index a b p m lt at_p le long low same high same_length moved unmoved =
          let stays = stays_beside total ties key ys in
          let rs = drop read xs in
          let p_first : Contains (drop index ys) p = subst (Contains (drop index ys)) (sym at_p)
          (back_first ys index p lt) in
          let p_in : Contains ys p = (halves ys index p).1 (inr p_first) in
          let block : filter stays (take a rs) ≡ take a rs = filter_whole stays (take a rs) (λ y there. stays_if ys y
          (λ w at_w is. elim ((halves ys index w).0 at_w) [
            | inl earlier ↦ less_apart total ties key (key w) (key y)
                (m.above w y earlier ((halves rs a y).1 (inl there))) is
            | inr later ↦ elim (back_cases ys index p w lt later) [
              | inl here ↦ less_apart total ties key (key y) (key p) (low y there) (sym is ∙ ap key (sym (at_p ∙ here)))
              | inr after ↦ less_apart total ties key (key y) (key w) (total.trans (key y) (key p) (key w) (low y there)
                  (halves_below total ties key ys keyed (index + 1) (omega arith) p w
                  (subst (Contains (take (index + 1) ys)) (sym at_p) (last_of ys index p lt)) after)) (sym is)
            ]
          ])) in
          let gone : filter stays (drop a (take b rs)) ≡ [] = filter_empty stays (drop a (take b rs)) (λ y there. ap not
          (subst (λ k. holds_key cmp key ys k ≡ true) (sym (same y there)) (holds_has total ties key ys p p_in))) in
          let parts : take b rs ≡ take a rs ++ drop a (take b rs) = sym (take-append-drop a (take b rs))
          ∙ ap (λ l. l ++ drop a (take b rs)) (take-take a b rs le) in
          let kept_now : filter stays (take b rs) ≡ take a rs = ap (filter stays) parts
          ∙ filter-append stays (take a rs) (drop a (take b rs)) ∙ ap (λ l. l ++ filter stays (drop a (take b rs))) block
          ∙ ap (λ l. take a rs ++ l) gone ∙ append-nil (take a rs) in
          let all_now : filter stays (take (read + b) xs) ≡ take kept zs ++ take a rs =
          ap (filter stays) (take-add read b xs) ∙ filter-append stays (take read xs) (take b rs)
          ∙ ap (λ l. filter stays (take read xs) ++ l) kept_now ∙ ap (λ l. l ++ take a rs) (sym m.front) in
          let step : read + a + (b - a) ≡ read + b = omega arith in
          let far : (ls : List X) → drop (b - a) (drop (read + a) ls) ≡ drop (read + b) ls =
          λ ls. drop-drop (b - a) (read + a) ls ∙ ap (λ n. drop n ls) step in
          let deep : (ls : List X) → drop b (drop read ls) ≡ drop (read + b) ls = λ ls. drop-drop b read ls in
          record {
            kept_in = omega (arith, m.kept_in);
            read_in = omega (arith, m.read_in, length-drop read xs);
            same_length = same_length ∙ m.same_length;
            front = moved ∙ ap (λ l. take kept zs ++ take a l) m.rest ∙ sym all_now;
            rest = sym (far zs') ∙ ap (drop (b - a)) unmoved ∙ far zs ∙ sym (deep zs) ∙ ap (drop b) m.rest ∙ deep xs;
            above = λ x y at_x at_y.
                let there : Contains (drop b rs) y = subst (λ l. Contains l y) (sym (deep xs)) at_y in
                elim (front_cases ys index p x lt at_x) [
                  | inl earlier ↦ m.above x y earlier ((halves rs b y).1 (inr there))
                  | inr last ↦ subst (λ z. cmp (key z) (key y) ≡ Less) (at_p ∙ last) (high y there)
                ];
          }
        where
          last_of : (ls : List X) (i : ℕ) (d : X) → i < length ls → Contains (take (i + 1) ls) (get_or ls i d)
          last_of ls i d lt = front_last ls i d lt

      -- all keys are out
      pub thinned : (zs' : List X) (kept read count : ℕ) → Thinning xs ys zs kept read (length ys)
          → read + count ≡ length zs → take (kept + count) zs' ≡ take kept zs ++ take count (drop read zs)
          → take (kept + count) zs' ≡ filter (stays_beside total ties key ys) xs
      thinned zs' kept read count m whole moved =
          let stays = stays_beside total ties key ys in
          let rs = drop read xs in
          let all_ys : take (length ys) ys ≡ ys = take_all (length ys) ys (omega arith) in
          let rest : filter stays rs ≡ rs = filter_whole stays rs (λ y there. stays_if ys y (λ w at_w is.
          less_apart total ties key (key w) (key y) (m.above w y (subst (λ l. Contains l w) (sym all_ys) at_w) there) is))
          in
          let taken : take count (drop read zs) ≡ rs = ap (take count) m.rest
          ∙ take_all count rs (omega (arith, length-drop read xs, m.same_length, m.read_in)) in
          let split : filter stays xs ≡ take kept zs ++ rs = ap (filter stays) (sym (take-append-drop read xs))
          ∙ filter-append stays (take read xs) rs ∙ ap (λ l. filter stays (take read xs) ++ l) rest
          ∙ ap (λ l. l ++ rs) (sym m.front) in
          moved ∙ ap (λ l. take kept zs ++ l) taken ∙ sym split
