-- What stands at places, and its rows.
use Rattle.std.proofs.Common.{◌≡◌, ◌⊎◌, inl, inr, ℕ, zero, suc, ◌+◌, ◌<◌, ◌≤◌, List, [], ◌∷◌, ◌++◌, Option, Some, None}
use Rattle.std.proofs.Common.{cond, length, refl, sym, ap, ◌∙◌, subst, arith, length-append}
use Rattle.std.specs.Prelude.{slice_get, IsSome}
use Rattle.std.specs.Cmp.{nat_cmp_total, unsigned_ties}
use Rattle.std.specs.FinMap as map
use Rattle.std.specs.FinMap.{get-empty, get-insert}
use Rattle.std.specs.Ordering.{nat_cmp}
use Rattle.std.proofs.Math.Dec.{eqb}
use Rattle.std.proofs.lemmas.Bool.{cases_eq, cases_lt, eq-eqb, false≢true, ne_eqb}
use Rattle.std.proofs.lemmas.Option.{slice_get_past, slice_get_within}
use Rattle.sqlite.specs.Order.{Row as Values}
use Rattle.plan_tables_definitions.specs.Gathering.{Alike, Joins}
use Rattle.plan_tables_definitions.specs.Placed.{HoldsPlaces, ByPlace, EndsAt, IsRowOfList, IsPlaced}

pub some_is : {X : Type 0} (a b : X) → Some a ≡ Some b → a ≡ b
some_is a b e = cc

pub none_is_some : {X : Type 0} (o : Option X) (x : X) → o ≡ None → o ≡ Some x → ⊥
none_is_some o x e h = let k : ⊥ = cc in k

-- the same elements at the same places
pub same_list : {X : Type 0} (xs ys : List X) → ((k : ℕ) → slice_get xs k ≡ slice_get ys k) → xs ≡ ys
same_list [] [] h = refl
same_list [] (y ∷ ys) h = absurd (let e = h 0 in let k : ⊥ = cc in k)
same_list (x ∷ xs) [] h = absurd (let e = h 0 in let k : ⊥ = cc in k)
same_list (x ∷ xs) (y ∷ ys) h =
    λ i. some_is x y (h 0) i ∷ same_list xs ys (λ k. h (suc k)) i

-- ---- what stands at places

module _ {X : Type 0} where
  got : (m : ByPlace X) (k : ℕ) (x : X) (q : ℕ) → map.get (map.insert m k x) q ≡ cond (eqb q k) (Some x) (map.get m q)
  got m k x q = get-insert nat_cmp_total m k x q ∙ ap (λ b. cond b (Some x) (map.get m q)) (sym (unsigned_ties q k))

  pub got_same : (m : ByPlace X) (k : ℕ) (x : X) → map.get (map.insert m k x) k ≡ Some x
  got_same m k x = got m k x k ∙ ap (λ b. cond b (Some x) (map.get m k)) (eq-eqb k k refl)

  pub got_other : (m : ByPlace X) (k : ℕ) (x : X) (q : ℕ) → (q ≡ k → ⊥) → map.get (map.insert m k x) q ≡ map.get m q
  got_other m k x q apart = got m k x q ∙ ap (λ b. cond b (Some x) (map.get m q)) (ne_eqb q k apart)

  pub ends_empty : (m : ByPlace X) → m ≡ map.empty → EndsAt m 0
  ends_empty m empty = record {
    below = λ place x is. absurd (none_is_some (map.get m place) x (ap (λ l. map.get l place) empty
        ∙ get-empty nat_cmp place) is);
    last = λ place is. absurd (omega (arith, is));
  }

  pub ends_later : (m : ByPlace X) (end place next : ℕ) (x : X) → EndsAt m end
      → ((place < end) × (next ≡ end)) ⊎ ((end ≤ place) × (next ≡ place + 1)) → EndsAt (map.insert m place x) next
  ends_later m end place next x h (inl (under, is)) = record {
    below = λ q y at. elim (cases_eq q place) [
      | inl same ↦ omega (arith, same, under, is)
      | inr apart ↦ let less : q < end = h.below q y (sym (got_other m place x q apart) ∙ at) in
          omega (arith, less, is)
    ];
    last = λ q at. elim (cases_eq q place) [
      | inl same ↦ subst IsSome (sym (ap (map.get (map.insert m place x)) same ∙ got_same m place x)) refl
      | inr apart ↦ subst IsSome (sym (got_other m place x q apart)) (h.last q (sym is ∙ at))
    ];
  }
  ends_later m end place next x h (inr (past, is)) = record {
    below = λ q y at. elim (cases_eq q place) [
      | inl same ↦ omega (arith, same, is)
      | inr apart ↦ let less : q < end = h.below q y (sym (got_other m place x q apart) ∙ at) in
          omega (arith, less, is, past)
    ];
    last = λ q at. let same : q ≡ place = omega (arith, at, is) in
        subst IsSome (sym (ap (map.get (map.insert m place x)) same ∙ got_same m place x)) refl;
  }

  -- ---- listed one after another

  get_left : (xs ys : List X) (k : ℕ) → k < length xs → slice_get (xs ++ ys) k ≡ slice_get xs k
  get_left [] ys k less = absurd (omega (arith, less))
  get_left (x ∷ xs) ys zero less = refl
  get_left (x ∷ xs) ys (suc k) less = get_left xs ys k (omega (arith, less))

  get_last : (xs : List X) (x : X) → slice_get (xs ++ x ∷ []) (length xs) ≡ Some x
  get_last [] x = refl
  get_last (y ∷ xs) x = get_last xs x

  -- the list has what stands at the first places
  pub record AreFirst (xs : List X) (n : ℕ) (m : ByPlace X) : Type 0 where
    pub long : length xs ≡ n
    pub first : (k : ℕ) → k < n → slice_get xs k ≡ map.get m k

  pub first_more : (xs : List X) (n : ℕ) (m : ByPlace X) (x : X) → AreFirst xs n m → map.get m n ≡ Some x
      → AreFirst (xs ++ x ∷ []) (n + 1) m
  first_more xs n m x h at = record {
    long = length-append xs (x ∷ []) ∙ ap (λ k. k + 1) h.long;
    first = λ k less. elim (cases_eq k n) [
      | inl same ↦ ap (slice_get (xs ++ x ∷ [])) (same ∙ sym h.long) ∙ get_last xs x ∙ sym at ∙ ap (map.get m) (sym
          same)
      | inr apart ↦ let under : k < n = omega (arith, less, apart) in
          get_left xs (x ∷ []) k (subst (λ l. k < l) (sym h.long) under) ∙ h.first k under
    ];
  }

  not_there : (o : Option X) → ((x : X) → o ≡ Some x → ⊥) → None ≡ o
  not_there None none = refl
  not_there (Some x) none = absurd (none x refl)

  pub first_all : (xs : List X) (n : ℕ) (m : ByPlace X) → AreFirst xs n m → EndsAt m n → HoldsPlaces xs m
  first_all xs n m h ends k = elim (cases_lt k n) [
    | inl less ↦ h.first k less
    | inr past ↦ slice_get_past xs k (subst (λ l. l ≤ k) (sym h.long) past)
        ∙ not_there (map.get m k) (λ x is. let less : k < n = ends.below k x is in absurd (omega (arith, less, past)))
  ]

  is_some_of : (o : Option X) → IsSome o → (x : X) × (o ≡ Some x)
  is_some_of None some = absurd (false≢true some)
  is_some_of (Some x) some = (x, refl)

  within : (xs : List X) (k : ℕ) → k < length xs → IsSome (slice_get xs k)
  within [] k less = absurd (omega (arith, less))
  within (x ∷ xs) zero less = refl
  within (x ∷ xs) (suc k) less = within xs k (omega (arith, less))

  -- no place is left out below the end
  pub none_left_out : (xs : List X) (end : ℕ) (m : ByPlace X) (place : ℕ) → EndsAt m end → HoldsPlaces xs m
      → place < end → map.get m place ≡ None → ⊥
  none_left_out xs zero m place ends order less none = absurd (omega (arith, less))
  none_left_out xs (suc end) m place ends order less none =
      let (x, at) = is_some_of (map.get m end) (ends.last end (omega arith)) in
      let long : end < length xs = slice_get_within xs end x (order end ∙ at) in
      let (y, here) = is_some_of (slice_get xs place) (within xs place (omega (arith, less, long))) in
      none_is_some (map.get m place) y none (sym (order place) ∙ here)

-- ---- their rows

same_option : {X : Type 0} (o p : Option X) → ((x : X) → o ≡ Some x → p ≡ Some x)
    → ((x : X) → p ≡ Some x → o ≡ Some x) → o ≡ p
same_option None None to from = refl
same_option None (Some y) to from = from y refl
same_option (Some x) p to from = sym (to x refl)

pub none_placed : {X : Type 0} (values_of : ℕ → X → Values) (m : ByPlace X) (v : Values) → m ≡ map.empty
    → IsPlaced values_of m v → ⊥
none_placed values_of m v empty (place, x, at, is) = none_is_some (map.get m place) x (ap (λ l. map.get l place) empty
    ∙ get-empty nat_cmp place) at

module _ {X : Type 0} (values_of : ℕ → X → Values)
    (back : (k l : ℕ) (x y : X) → values_of k x ≡ values_of l y → (k ≡ l) × (x ≡ y)) where
  pub placed_gets : (m : ByPlace X) (k : ℕ) (x : X) → map.get m k ≡ None
      → Joins (IsPlaced values_of m) (values_of k x) (IsPlaced values_of (map.insert m k x))
  placed_gets m k x none v = (
    λ (q, y, at, is). elim (cases_eq q k) [
      | inl same ↦ let got_it : y ≡ x = some_is y x (sym at ∙ ap (map.get (map.insert m k x)) same ∙ got_same m k x) in
          inr (is ∙ (λ i. values_of (same i) (got_it i)))
      | inr apart ↦ inl (q, y, sym (got_other m k x q apart) ∙ at, is)
    ],
    λ some. elim some [
      | inl (q, y, at, is) ↦ (
        q,
        y,
        got_other m k x q (λ same. none_is_some (map.get m k) y none (ap (map.get m) (sym same) ∙ at)) ∙ at,
        is,
      )
      | inr is ↦ (k, x, got_same m k x, is)
    ],
  )

  pub listed_at : (xs : List X) (k : ℕ) (x : X) → IsRowOfList values_of xs (values_of k x) → slice_get xs k ≡ Some x
  listed_at xs k x (q, y, at, is) = let (same, it) = back k q x y is in
      ap (slice_get xs) same ∙ at ∙ ap Some (sym it)

  pub placed_at : (m : ByPlace X) (k : ℕ) (x : X) → IsPlaced values_of m (values_of k x) → map.get m k ≡ Some x
  placed_at m k x (q, y, at, is) = let (same, it) = back k q x y is in ap (map.get m) same ∙ at ∙ ap Some (sym it)

  pub listed_in_order : (xs : List X) (m : ByPlace X) → Alike (IsRowOfList values_of xs) (IsPlaced values_of m)
      → HoldsPlaces xs m
  listed_in_order xs m alike k = same_option (slice_get xs k) (map.get m k)
      (λ x at. placed_at m k x ((alike (values_of k x)).0 (k, x, at, refl)))
      (λ x at. listed_at xs k x ((alike (values_of k x)).1 (k, x, at, refl)))

  pub in_order_listed : (xs : List X) (m : ByPlace X) → HoldsPlaces xs m
      → Alike (IsRowOfList values_of xs) (IsPlaced values_of m)
  in_order_listed xs m order v = (
    λ (k, x, at, is). (k, x, sym (order k) ∙ at, is),
    λ (k, x, at, is). (k, x, order k ∙ at, is),
  )

  -- of one place there is one row
  pub one_at : (xs : List X) (m : ByPlace X) (k : ℕ) (x y : X) → map.get m k ≡ Some y
      → IsRowOfList values_of xs (values_of k x)
      → ((v : Values) → IsPlaced values_of m v → IsRowOfList values_of xs v) → y ≡ x
  one_at xs m k x y at is all = some_is y x (sym (listed_at xs k y (all (values_of k y) (k, y, at, refl)))
      ∙ listed_at xs k x is)
