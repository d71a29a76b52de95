-- Rows that are put behind others, one after another.
use Rattle.std.proofs.Common.{◌≡◌, ◌≢◌, ◌↔◌, ◌⊎◌, inl, inr, ℕ, ◌<◌, ◌+◌, List, [], ◌∷◌, ◌++◌, Some, length}
use Rattle.std.proofs.Common.{zero, suc, refl, sym, ap, ◌∙◌, subst, arith, get_or}
use Rattle.std.specs.Prelude.{slice_get, Contains, take}
use Rattle.std.proofs.lemmas.Bool.{cases_lt}
use Rattle.std.proofs.lemmas.List.Elements.{Contains-append_left, Contains-get_or, Contains-push, Contains-push_cases}
use Rattle.std.proofs.lemmas.List.Quantifiers.{all_pairs_push}
use Rattle.std.proofs.lemmas.Option.{get_or_from_slice_get, slice_get-get_or}
use Rattle.std.specs.Prelude.{IsSome}
use Rattle.std.specs.FinMap as map
use Rattle.sqlite.specs.Order.{Row as Values, column}
use Rattle.sqlite.specs.declared.types.Value.TheVariants.{Text}
use Rattle.app_definition_records.specs.ByName.{AreNamesOf}
use Rattle.plan_tables_content.specs.Content.{ByName, IsOfSome}
use Rattle.plan_tables_definitions.specs.Adding.{Adds, AreApart, HaveOwnKeys, IsOfName, IsOfPlace, IsUpTo}

module _ (cells : ℕ) where
  pub adds_as : (P Q : Values → Type 0) (a b : List Values) → ((v : Values) → P v ↔ Q v) → Adds cells P a b
      → Adds cells Q a b
  adds_as P Q a b same h = record {
    rows = λ v. (
      λ has. elim ((h.rows v).0 has) [ inl old ↦ inl old | inr is ↦ inr ((same v).0 is) ],
      λ is. (h.rows v).1 (elim is [ inl old ↦ inl old | inr it ↦ inr ((same v).1 it) ]),
    );
    keys = λ own far. h.keys own (λ v w has is. far v w has ((same w).0 is));
  }

  pub adds_both : (P Q : Values → Type 0) (a b c : List Values)
      → ((v w : Values) → P v → Q w → AreApart cells v w) → Adds cells P a b → Adds cells Q b c
      → Adds cells (λ v. P v ⊎ Q v) a c
  adds_both P Q a b c apart first then = record {
    rows = λ v. (
      λ has. elim ((then.rows v).0 has) [
        | inl mid ↦ elim ((first.rows v).0 mid) [ inl old ↦ inl old | inr p ↦ inr (inl p) ]
        | inr q ↦ inr (inr q)
      ],
      λ is. (then.rows v).1 (elim is [
        | inl old ↦ inl ((first.rows v).1 (inl old))
        | inr new ↦ elim new [ inl p ↦ inl ((first.rows v).1 (inr p)) | inr q ↦ inr q ]
      ]),
    );
    keys = λ own far. then.keys (first.keys own (λ v w has p. far v w has (inl p)))
        (λ v w has q. elim ((first.rows v).0 has) [
          | inl old ↦ far v w old (inr q)
          | inr p ↦ apart v w p q
        ]);
  }

  pub adds_one : (row : Values) (a : List Values) → Adds cells (λ v. v ≡ row) a (a ++ row ∷ [])
  adds_one row a = record {
    rows = λ v. (
      λ has. elim (Contains-push_cases a row v has) [ inl old ↦ inl old | inr is ↦ inr (sym is) ],
      λ is. elim is [
        | inl old ↦ Contains-append_left a (row ∷ []) v old
        | inr it ↦ subst (Contains (a ++ row ∷ [])) (sym it) (Contains-push a row)
      ],
    );
    keys = λ own far. all_pairs_push (AreApart cells) a row own
        (λ k d under. far (get_or a k d) row (Contains-get_or a k d under) refl);
  }

  -- a row that has these values
  pub row_added : (values row : Values) (a b : List Values) → row ≡ values → b ≡ a ++ row ∷ []
      → Adds cells (λ v. v ≡ values) a b
  row_added values row a b is pushed = subst (Adds cells (λ v. v ≡ values) a)
      (ap (λ r. a ++ r ∷ []) (sym is) ∙ sym pushed) (adds_one values a)

is_some : {X : Type 0} (a b : X) → Some a ≡ Some b → a ≡ b
is_some a b e = cc

module _ (cells : ℕ) {X : Type 0} (IsAt : ℕ → X → Values → Type 0) (xs : List X) where
  step_to : (n : ℕ) (x : X) → slice_get xs n ≡ Some x → (v : Values) → IsOfPlace IsAt xs n v ⊎ IsAt n x v
      → IsOfPlace IsAt xs (n + 1) v
  step_to n x at v (inl (place, y, under, there, is)) = (place, y, omega (arith, under), there, is)
  step_to n x at v (inr is) = (n, x, omega arith, at, is)

  step_from : (n : ℕ) (x : X) → slice_get xs n ≡ Some x → (v : Values) → IsOfPlace IsAt xs (n + 1) v
      → IsOfPlace IsAt xs n v ⊎ IsAt n x v
  step_from n x at v (place, y, under, there, is) = elim (cases_lt place n) [
    | inl less ↦ inl (place, y, less, there, is)
    | inr more ↦
        let one : place ≡ n = omega (arith, under, more) in
        let same : y ≡ x = is_some y x (sym there ∙ ap (slice_get xs) one ∙ at) in
        inr (subst (λ k. IsAt k x v) one (subst (λ z. IsAt place z v) same is))
  ]

  -- the rows of what stands at a place differ from those of what stands before it
  abbrev pub IsApartAt : ℕ → X → Type 0
  IsApartAt n x = (place : ℕ) (y : X) → place < n → slice_get xs place ≡ Some y → (v w : Values) → IsAt place y v
      → IsAt n x w → AreApart cells v w

  pub adds_step : (n : ℕ) (x : X) (a b c : List Values) → slice_get xs n ≡ Some x → IsApartAt n x
      → Adds cells (IsOfPlace IsAt xs n) a b → Adds cells (IsAt n x) b c → Adds cells (IsOfPlace IsAt xs (n + 1)) a c
  adds_step n x a b c at apart first then =
      adds_as cells (λ v. IsOfPlace IsAt xs n v ⊎ IsAt n x v) (IsOfPlace IsAt xs (n + 1)) a c
      (λ v. (step_to n x at v, step_from n x at v)) (adds_both cells (IsOfPlace IsAt xs n) (IsAt n x) a b c
      (λ v w (place, y, under, there, is) it. apart place y under there v w is it) first then)

-- the element at a place
pub get_at : {X : Type 0} (xs : List X) (n : ℕ) (x : X) → n < length xs → x ≡ get_or xs n x → slice_get xs n ≡ Some x
get_at xs n x under is = slice_get-get_or xs n x under ∙ ap Some (sym is)

-- the rows of the definition of a name
pub adds_named : (cells : ℕ) {D : Type 0} (IsRow : List ℕ → D → Values → Type 0) (all : ByName D) (name : List ℕ)
    (d : D) (a b : List Values) → map.get all name ≡ Some d → Adds cells (IsRow name d) a b
    → Adds cells (IsOfName IsRow all name) a b
adds_named cells {D} IsRow all name d a b at h = adds_as cells (IsRow name d) (IsOfName IsRow all name) a b
    (λ v. (λ is. (d, at, is), λ (e, got, is). subst (λ z. IsRow name z v) (is_some e d (sym got ∙ at)) is)) h

-- the rows of the definitions of all names are those of all definitions
pub adds_all : (cells : ℕ) {D : Type 0} (IsRow : List ℕ → D → Values → Type 0) (all : ByName D) (names : List (List ℕ))
    (old rows : List Values) → AreNamesOf names all → old ≡ []
    → Adds cells (IsOfPlace (λ _. IsOfName IsRow all) names (length names)) old rows
    → (v : Values) → Contains rows v ↔ IsOfSome IsRow all v
adds_all cells {D} IsRow all names old rows are empty h v = (
  λ has. elim ((h.rows v).0 has) [
    | inl before ↦ absurd (none (subst (λ l. Contains l v) empty before))
    | inr is ↦ to is
  ],
  λ is. (h.rows v).1 (inr (from is)),
)
  where
    none : Contains {X = Values} [] v → ⊥
    none (k, under, is) = omega (arith, under)

    to : IsOfPlace (λ _. IsOfName IsRow all) names (length names) v → IsOfSome IsRow all v
    to (place, name, under, at, (d, got, is)) = (name, d, got, is)

    from : IsOfSome IsRow all v → IsOfPlace (λ _. IsOfName IsRow all) names (length names) v
    from (name, d, got, is) = let (k, under, at) = (are.exactly name).1 (subst IsSome (sym got) refl) in
        (k, name, under, slice_get-get_or names k name under ∙ ap Some at, (d, got, is))

-- no two of them have one key
pub own_all : (cells : ℕ) (Is : Values → Type 0) (old rows : List Values) → old ≡ [] → Adds cells Is old rows
    → HaveOwnKeys cells rows
own_all cells Is old rows empty h = h.keys (λ i j d lt under. absurd (none j (subst (λ l. j < length l) empty under)))
    (λ v w (k, under, is). absurd (none k (subst (λ l. k < length l) empty under)))
  where
    none : (k : ℕ) → k < length {A = Values} [] → ⊥
    none k under = omega (arith, under)

texts : (a b : List ℕ) → Text a ≡ Text b → a ≡ b
texts a b e = cc

column_taken : (cells : ℕ) (v w : Values) → take (suc cells) v ≡ take (suc cells) w → column v 0 ≡ column w 0
column_taken cells [] [] same = refl
column_taken cells [] (y ∷ ys) same = absurd (let h : ⊥ = cc in h)
column_taken cells (x ∷ xs) [] same = absurd (let h : ⊥ = cc in h)
column_taken cells (x ∷ xs) (y ∷ ys) same = cc

-- rows that begin with different names
pub named_apart : (cells : ℕ) (a b : List ℕ) (v w : Values) → a ≢ b → column v 0 ≡ Text a → column w 0 ≡ Text b
    → AreApart (suc cells) v w
named_apart cells a b v w other is it same = other (texts a b (sym is ∙ column_taken cells v w same ∙ it))

-- ---- rows of a list

pub under_get : {X : Type 0} (xs : List X) (n : ℕ) (x : X) → slice_get xs n ≡ Some x → n < length xs
under_get [] n x at = absurd (let h : ⊥ = cc in h)
under_get (y ∷ ys) zero x at = omega arith
under_get (y ∷ ys) (suc n) x at = let less : n < length ys = under_get ys n x at in omega (arith, less)

-- a row of some element, at whatever place
pub of_list : {X : Type 0} (Is : X → Values → Type 0) (xs : List X) (v : Values)
    → IsOfPlace (λ _. Is) xs (length xs) v ↔ ((x : X) × Contains xs x × Is x v)
of_list {X} Is xs v = (
  λ (place, x, under, at, is). (x, (place, under, get_or_from_slice_get xs place x x at), is),
  λ (x, (place, under, reads), is). (place, x, under, slice_get-get_or xs place x under ∙ ap Some reads, is),
)

-- a row of some element at its place
pub of_places : {X : Type 0} (IsAt : ℕ → X → Values → Type 0) (xs : List X) (v : Values)
    → IsOfPlace IsAt xs (length xs) v
    ↔ ((place : ℕ) × (x : X) × (slice_get xs place ≡ Some x) × IsAt place x v)
of_places {X} IsAt xs v = (
  λ (place, x, under, at, is). (place, x, at, is),
  λ (place, x, at, is). (place, x, under_get xs place x at, at, is),
)

-- ---- rows of the first numbers

module _ (cells : ℕ) (Is : ℕ → Values → Type 0) where
  more_to : (n : ℕ) (v : Values) → IsUpTo Is n v ⊎ Is n v → IsUpTo Is (n + 1) v
  more_to n v (inl (k, under, is)) = (k, omega (arith, under), is)
  more_to n v (inr is) = (n, omega arith, is)

  more_from : (n : ℕ) (v : Values) → IsUpTo Is (n + 1) v → IsUpTo Is n v ⊎ Is n v
  more_from n v (k, under, is) = elim (cases_lt k n) [
    | inl less ↦ inl (k, less, is)
    | inr more ↦ let one : k ≡ n = omega (arith, under, more) in inr (subst (λ j. Is j v) one is)
  ]

  pub first_more : (n : ℕ) (a b c : List Values)
      → ((k : ℕ) → k < n → (v w : Values) → Is k v → Is n w → AreApart cells v w)
      → Adds cells (IsUpTo Is n) a b → Adds cells (Is n) b c → Adds cells (IsUpTo Is (n + 1)) a c
  first_more n a b c apart first then = adds_as cells (λ v. IsUpTo Is n v ⊎ Is n v) (IsUpTo Is (n + 1)) a c
      (λ v. (more_to n v, more_from n v))
      (adds_both cells (IsUpTo Is n) (Is n) a b c (λ v w (k, under, is). apart k under v w is) first then)
