-- Lists of a set that pass a test, and what is made of each.
use Rattle.std.proofs.Common.{◌≡◌, ◌≢◌, ◌↔◌, ℕ, zero, suc, ◌≤◌, ◌⊎◌, Bool, true, false, List, [], ◌∷◌, length, get_or}
use Rattle.std.proofs.Common.{map, refl, sym, ap, subst, ◌∙◌, inl, inr, arith, Option, Some, None}
use Rattle.std.specs.Prelude.{nat_eq, cond, option_map, filter, if◌then◌else◌}
use Rattle.std.specs.List.{Contains}
use Rattle.std.specs.declared.cmp.Ordering.TheVariants.{Less}
use Rattle.std.proofs.lemmas.List.Elements.{Contains-get_or}
use Rattle.std.proofs.lemmas.List.Kept.{AllPairs-filter}
use Rattle.occurrences.specs.declared.row.Row.{Row}
use Rattle.external_dependencies.specs.Arrival.{arrival_cmp}
use Rattle.external_dependencies.specs.Nearest.{arrival_of}
use Rattle.planner_machine.specs.Moves.{keep, size}
use Rattle.plan_store_lists.specs.Rows.{HasEachOnce, look_up}
use Rattle.plan_store.specs.Views.{IsAny, ListsSet}
use Rattle.plan_store_lists.proofs.LookLemmas.{look_some, look_none}
use Rattle.plan_store.proofs.ViewLemmas.{once_from_rows, size_listed, size_same}

module _ {X : Type 0} where
  pub nothing : (x : X) → Contains [] x → ⊥
  nothing x (k, lt, at) = omega arith

  contains_first : (x : X) (xs : List X) → Contains (x ∷ xs) x
  contains_first x xs = (zero, omega arith, refl)

  contains_later : (x y : X) (xs : List X) → Contains xs y → Contains (x ∷ xs) y
  contains_later x y xs (k, lt, at) = (suc k, omega arith, at)

  contains_cases : (x z : X) (xs : List X) → Contains (x ∷ xs) z → (x ≡ z) ⊎ Contains xs z
  contains_cases x z xs (zero, lt, at) = inl at
  contains_cases x z xs (suc k, lt, at) = inr (k, omega arith, at)

  pub contains_filter : (p : X → Bool) (xs : List X) (x : X) → Contains (filter p xs) x → Contains xs x × (p x ≡ true)
  contains_filter p [] x there = absurd (nothing x there)
  contains_filter p (y ∷ ys) x there = elim (p y) as
      (λ b. p y ≡ b → Contains (cond b (y ∷ filter p ys) (filter p ys)) x → Contains (y ∷ ys) x × (p x ≡ true)) [
        | true ↦ λ is at. elim (contains_cases y x (filter p ys) at) [
          | inl same ↦ (subst (Contains (y ∷ ys)) same (contains_first y ys), subst (λ z. p z ≡ true) same is)
          | inr rest ↦ let both = contains_filter p ys x rest in (contains_later y x ys both.0, both.1)
        ]
        | false ↦ λ _ at. let both = contains_filter p ys x at in (contains_later y x ys both.0, both.1)
      ] refl there

  pub filter_contains : (p : X → Bool) (xs : List X) (x : X) → Contains xs x → p x ≡ true → Contains (filter p xs) x
  filter_contains p [] x there passes = absurd (nothing x there)
  filter_contains p (y ∷ ys) x there passes = elim (contains_cases y x ys there) [
    | inl same ↦ let is : p y ≡ true = ap p same
        ∙ passes in rw is (subst (Contains (y ∷ filter p ys)) same (contains_first y (filter p ys)))
    | inr rest ↦ elim (p y) as (λ b. Contains (cond b (y ∷ filter p ys) (filter p ys)) x) [
      | true ↦ contains_later y x (filter p ys) (filter_contains p ys x rest passes)
      | false ↦ filter_contains p ys x rest passes
    ]
  ]

  pub filter_everything : (p : X → Bool) (xs : List X) → ((x : X) → p x ≡ true) → filter p xs ≡ xs
  filter_everything p [] all = refl
  filter_everything p (y ∷ ys) all = let is : p y ≡ true = all y in rw is
      (ap (λ l. y ∷ l) (filter_everything p ys all))

module _ {X : Type 0} (row_of : X → Row) where
  abbrev serial_of : X → ℕ
  serial_of x = (row_of x).serial

  once_later : (x : X) (xs : List X) → HasEachOnce row_of (x ∷ xs) → HasEachOnce row_of xs
  once_later x xs once i j d below lt = once (suc i) (suc j) d (omega arith) (omega arith)

  once_first : (x : X) (xs : List X) → HasEachOnce row_of (x ∷ xs) → (y : X) → Contains xs y
      → serial_of x ≢ serial_of y
  once_first x xs once y (k, lt, at) same = once zero (suc k) y (omega arith) (omega arith)
      (same ∙ ap serial_of (sym at))

  pub once_nothing : HasEachOnce row_of []
  once_nothing i j d below lt same = omega arith

  pub once_one : (x : X) → HasEachOnce row_of (x ∷ [])
  once_one x i j d below lt same = omega arith

  module _ (set : ℕ → Option X) (P : X → Type 0) (p : X → Bool) (xs : List X) (lists : ListsSet row_of set P xs)
      (is : (x : X) → P x ↔ (p x ≡ true)) (numbered : (serial : ℕ) (x : X) → set serial ≡ Some x
      → serial_of x ≡ serial) where
    by_test : (serial : ℕ) → look_up serial_of xs serial ≡ None → (x : X) → set serial ≡ Some x → (b : Bool)
        → p x ≡ b → None ≡ (if b then Some x else None)
    by_test serial e x at false fails = refl
    by_test serial e x at true passes =
        let own : serial_of x ≡ serial = numbered serial x at in
        absurd (look_none serial_of xs serial e x
        ((lists.exactly x).1 (subst (λ n. set n ≡ Some x) (sym own) at, (is x).1 passes)) own)

    by_set : (serial : ℕ) → look_up serial_of xs serial ≡ None → (o : Option X) → set serial ≡ o → None ≡ keep p o
    by_set serial e None at = refl
    by_set serial e (Some x) at = by_test serial e x at (p x) refl

    -- the look-up of a list of those of a set that pass a test
    pub look_listed : (serial : ℕ) → look_up serial_of xs serial ≡ keep p (set serial)
    look_listed serial = elim (look_up serial_of xs serial) as
        (λ o. look_up serial_of xs serial ≡ o → o ≡ keep p (set serial)) [
          | Some x ↦ λ e.
              let there = look_some serial_of xs serial x e in
              let both = (lists.exactly x).0 there.0 in
              let at : set serial ≡ Some x = subst (λ n. set n ≡ Some x) there.1 both.0 in
              let passes : p x ≡ true = (is x).0 both.1 in
              rw (at, passes) refl
          | None ↦ λ e. by_set serial e (set serial) refl
        ] refl

  -- those of a whole set that pass a test
  module _ (set : ℕ → Option X) (p : X → Bool) (xs : List X) (lists : ListsSet row_of set IsAny xs) where
    abbrev pub Passes : X → Type 0
    Passes x = p x ≡ true

    pub filter_lists : ListsSet row_of set Passes (filter p xs)
    filter_lists = record {
      rows = record {
        keyed = AllPairs-filter (λ x y. arrival_cmp (arrival_of (row_of x))
            (arrival_of (row_of y)) ≡ Less) p xs lists.rows.keyed;
        one_each = λ x y at_x at_y same. lists.rows.one_each x y (contains_filter p xs x at_x).0
            (contains_filter p xs y at_y).0 same;
      };
      exactly = λ x. (
        (λ there. let both = contains_filter p xs x there in (((lists.exactly x).0 both.0).0, both.1)),
        λ both. filter_contains p xs x ((lists.exactly x).1 (both.0, tt)) both.1,
      );
    }

    module _ (numbered : (serial : ℕ) (x : X) → set serial ≡ Some x → serial_of x ≡ serial) where
      pub look_filter : (serial : ℕ) → look_up serial_of (filter p xs) serial ≡ keep p (set serial)
      look_filter = look_listed set Passes p (filter p xs) filter_lists (λ x. ((λ h. h), λ h. h)) numbered

      -- how many they are
      pub count_filter : (n : ℕ) → ((serial : ℕ) (x : X) → set serial ≡ Some x → (1 ≤ serial) × (serial ≤ n))
          → length (filter p xs) ≡ size (λ serial. keep p (set serial)) n
      count_filter n within =
          size_listed row_of n (filter p xs) (once_from_rows row_of (filter p xs) filter_lists.rows)
          (λ x there. within (serial_of x) x ((filter_lists.exactly x).0 there).0)
          ∙ size_same (look_up serial_of (filter p xs)) (λ serial. keep p (set serial)) n
          (λ serial le. look_filter serial)

module _ {X Y : Type 0} (of_x : X → Row) (of_y : Y → Row) (f : X → Y)
    (same : (x : X) → (of_y (f x)).serial ≡ (of_x x).serial) where
  pub look_map : (xs : List X) (serial : ℕ) → look_up (λ y. (of_y y).serial) (map f xs) serial ≡ option_map f
      (look_up (λ x. (of_x x).serial) xs serial)
  look_map [] serial = refl
  look_map (x ∷ xs) serial = rw (same x) (elim (nat_eq (of_x x).serial serial) as (λ b. cond b (Some (f x)) (look_up
      (λ y. (of_y y).serial) (map f xs) serial) ≡ option_map f
      (cond b (Some x) (look_up (λ z. (of_x z).serial) xs serial))) [ true ↦ refl | false ↦ look_map xs serial ])

  pub contains_map : (xs : List X) (y : Y) → Contains (map f xs) y → (x : X) × Contains xs x × (f x ≡ y)
  contains_map [] y there = absurd (nothing y there)
  contains_map (x ∷ xs) y there = elim (contains_cases (f x) y (map f xs) there) [
    | inl at ↦ (x, contains_first x xs, at)
    | inr rest ↦ let (z, is, at) = contains_map xs y rest in (z, contains_later x z xs is, at)
  ]

  pub once_map : (xs : List X) → HasEachOnce of_x xs → HasEachOnce of_y (map f xs)
  once_map [] once i j d below lt is = omega arith
  once_map (x ∷ xs) once zero zero d below lt is = omega arith
  once_map (x ∷ xs) once (suc i) zero d below lt is = omega arith
  once_map (x ∷ xs) once zero (suc j) d below lt is =
      let (z, there, at) = contains_map xs (get_or (map f xs) j d) (Contains-get_or (map f xs) j d (omega arith)) in
      once_first of_x x xs once z there (sym (same x) ∙ is ∙ ap (λ y. (of_y y).serial) (sym at) ∙ same z)
  once_map (x ∷ xs) once (suc i) (suc j) d below lt is = once_map xs (once_later of_x x xs once) i j d (omega arith)
      (omega arith) is
