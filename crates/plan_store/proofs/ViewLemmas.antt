-- Lists of rows as parts of a set.
use Rattle.std.proofs.Common.{◌≡◌, ◌≢◌, ◌↔◌, ℕ, zero, suc, ◌+◌, ◌<◌, ◌≤◌, true, false, Bool, List, [], ◌∷◌, length}
use Rattle.std.proofs.Common.{get_or, refl, sym, ap, ap₂, subst, ◌∙◌, inl, inr, arith, Some, None, Option}
use Rattle.std.specs.Prelude.{nat_eq, if◌then◌else◌, filter, is_some, MatchOption}
use Rattle.std.specs.List.{Contains}
use Rattle.std.specs.declared.cmp.Ordering.TheVariants.{Less, Equal}
use Rattle.std.proofs.lemmas.Bool.{cases_lt, cases_eq, eq-eqb, ne_eqb}
use Rattle.std.proofs.lemmas.Cmp.{tied_itself}
use Rattle.std.proofs.lemmas.List.Kept.{AllPairs-filter}
use Rattle.plan_store_lists.proofs.KeyLemmas.{contains_filter, filter_contains}
use Rattle.occurrences.specs.declared.key.Key.{Key}
use Rattle.occurrences.specs.declared.status.Status.TheVariants.{D}
use Rattle.std.proofs.lemmas.List.Elements.{Contains-get_or}
use Rattle.occurrences.specs.declared.row.Row.{Row}
use Rattle.external_dependencies.specs.Arrival.{arrival_cmp}
use Rattle.external_dependencies.specs.Nearest.{arrival_of}
use Rattle.occurrences.specs.declared.place.CurrentRow.{CurrentRow}
use Rattle.planner_machine.specs.Content.{Seat, Sets, empty_seat, seat}
use Rattle.planner_machine.specs.Moves.{bit, keep, size}
use Rattle.planner_machine.specs.Sound.{AreNumbered}
use Rattle.plan_store_lists.specs.Keyed.{IsKeyed}
use Rattle.plan_store_lists.specs.Rows.{AreRows, HasEachOnce, OneEach, look_up, of_current, of_row}
use Rattle.plan_store.specs.Views.{IsAny, IsCurrentRow, IsPlannedRow, ListsSet}
use Rattle.plan_store_lists.proofs.LookLemmas.{look_some, look_none, look_lacks, look_has, look_at}
use Rattle.plan_store.proofs.OrderLemmas.{arrival_total}

-- how many serials a set has
size_none : (X : Type 0) (n : ℕ) → size (λ (_ : ℕ). let o : Option X = None in o) n ≡ 0
size_none X zero = refl
size_none X (suc n) = let rest = size_none X n in omega arith

module _ {X : Type 0} where
  pub size_same : (f g : ℕ → Option X) (n : ℕ) → ((serial : ℕ) → serial ≤ n → f serial ≡ g serial) → size f n ≡ size g n
  size_same f g zero same = refl
  size_same f g (suc n) same = ap₂ (λ x y. x + bit y) (size_same f g n (λ serial le. same serial (omega arith)))
      (same (suc n) (omega arith))

  abbrev with_one : ℕ → X → (ℕ → Option X) → ℕ → Option X
  with_one at x f serial = if nat_eq at serial then Some x else f serial

  size_past : (at : ℕ) (x : X) (f : ℕ → Option X) (n : ℕ) → n < at → size (with_one at x f) n ≡ size f n
  size_past at x f n past = size_same (with_one at x f) f n (λ serial le. let other : nat_eq at serial ≡ false =
      ne_eqb at serial (λ same. omega arith) in rw other refl)

  size_with : (at : ℕ) (x : X) (f : ℕ → Option X) (n : ℕ) → 1 ≤ at → at ≤ n → f at ≡ None → size (with_one at x f) n
      ≡ size f n + 1
  size_with at x f zero above below none = absurd (omega arith)
  size_with at x f (suc n) above below none = elim (cases_eq at (suc n)) [
    | inl here ↦
        let same : nat_eq at (suc n) ≡ true = eq-eqb at (suc n) here in
        let before = size_past at x f n (omega arith) in
        let now : bit (with_one at x f (suc n)) ≡ 1 = rw same refl in
        let was : bit (f (suc n)) ≡ 0 = ap bit (subst (λ k. f k ≡ None) here none) in
        omega arith
    | inr other ↦
        let apart : nat_eq at (suc n) ≡ false = ne_eqb at (suc n) other in
        let before = size_with at x f n above (omega arith) none in
        let now : bit (with_one at x f (suc n)) ≡ bit (f (suc n)) = rw apart refl in
        omega arith
  ]

module _ {X : Type 0} (row_of : X → Row) where
  abbrev serial_of : X → ℕ
  serial_of x = (row_of x).serial

  -- a row stands at one place
  pub once_from_rows : (xs : List X) → AreRows row_of xs → HasEachOnce row_of xs
  once_from_rows xs rows i j d below lt same =
      let one : get_or xs i d ≡ get_or xs j d = rows.one_each (get_or xs i d) (get_or xs j d)
      (Contains-get_or xs i d (omega arith)) (Contains-get_or xs j d lt) same in
      let less : arrival_cmp (arrival_of (row_of (get_or xs i d))) (arrival_of (row_of (get_or xs j d))) ≡ Less =
      rows.keyed i j d below lt in
      let tied : arrival_cmp (arrival_of (row_of (get_or xs i d))) (arrival_of (row_of (get_or xs j d))) ≡ Equal =
      subst (λ (y : X). arrival_cmp (arrival_of (row_of (get_or xs i d))) (arrival_of (row_of y)) ≡ Equal) one
      (tied_itself arrival_total (arrival_of (row_of (get_or xs i d)))) in
      not_both (sym less ∙ tied)
    where
      not_both : Less ≡ Equal → ⊥
      not_both is = cc

  once_later : (x : X) (xs : List X) → HasEachOnce row_of (x ∷ xs) → HasEachOnce row_of xs
  once_later x xs once i j d below lt = once (suc i) (suc j) d (omega arith) (omega arith)

  once_first : (x : X) (xs : List X) → HasEachOnce row_of (x ∷ xs) → (y : X) → Contains xs y → serial_of y ≢ serial_of x
  once_first x xs once y (k, lt, at) same = once zero (suc k) y (omega arith) (omega arith)
      (sym same ∙ ap serial_of (sym at))

  -- the length of a list with each serial once, all from 1 to n
  pub size_listed : (n : ℕ) (xs : List X) → HasEachOnce row_of xs → ((x : X) → Contains xs x → (1 ≤ serial_of x)
      × (serial_of x ≤ n)) → length xs ≡ size (look_up serial_of xs) n
  size_listed n [] once within = sym (size_none X n)
  size_listed n (x ∷ xs) once within =
      let here = within x (zero, omega arith, refl) in
      let rest = size_listed n xs (once_later x xs once) (λ y (k, lt, at). within y (suc k, omega arith, at)) in
      let more = size_with (serial_of x) x (look_up serial_of xs) n here.0 here.1
      (look_lacks serial_of xs (serial_of x) (once_first x xs once)) in
      omega arith

  -- what is found of a serial tells whether the set has it
  pub found_is : (xs : List X) → OneEach serial_of xs → (serial : ℕ) (o : Option X)
      → MatchOption o ((x : X) → Contains xs x → serial_of x ≢ serial) (λ x. Contains xs x × (serial_of x ≡ serial))
      → is_some o ≡ is_some (look_up serial_of xs serial)
  found_is xs one serial None lacks = rw (look_lacks serial_of xs serial lacks) refl
  found_is xs one serial (Some x) is = rw (look_at serial_of xs one x serial is.0 is.1) refl

  -- all rows of a set
  pub lists_all : (xs : List X) → AreRows row_of xs → ListsSet row_of (look_up serial_of xs) IsAny xs
  lists_all xs rows = record {
    rows = rows;
    exactly = λ x. (
      (λ there. (look_has serial_of xs rows.one_each x there, tt)),
      λ both.
          (look_some serial_of xs (serial_of x) x both.0).0,
    );
  }

  -- some of them
  pub lists_part : (P : X → Type 0) (xs part : List X) → AreRows row_of xs → IsKeyed arrival_cmp
      (λ x. arrival_of (row_of x)) part → ((x : X) → Contains part x ↔ (Contains xs x × P x))
      → ListsSet row_of (look_up serial_of xs) P part
  lists_part P xs part rows keyed is = record {
    rows = record {
      keyed = keyed;
      one_each = λ x y at_x at_y same. rows.one_each x y ((is x).0 at_x).0
          ((is y).0 at_y).0 same;
    };
    exactly = λ x. (
      (λ there. let both = (is x).0 there in (look_has serial_of xs rows.one_each x both.0, both.1)),
      λ both. (is x).1 ((look_some serial_of xs (serial_of x) x both.0).0, both.1),
    );
  }

-- each row of a set has a serial that was issued
module _ (s : Sets) (numbered : AreNumbered s) where
  pub issued_from : (serial : ℕ) → (seat s serial ≡ empty_seat → ⊥) → (1 ≤ serial) × (serial ≤ s.issued)
  issued_from serial there = elim (cases_lt 0 serial) [
    | inl above ↦ elim (cases_lt s.issued serial) [
      | inl past ↦ absurd (there (numbered.unissued serial (inr past)))
      | inr within ↦ (omega arith, within)
    ]
    | inr zero' ↦ absurd (there (numbered.unissued serial (inl (omega arith))))
  ]

  some_none : {X : Type 0} (o : Option X) (x : X) → o ≡ Some x → o ≡ None → ⊥
  some_none o x some none = cc

  pub within_ltp : (rows : List Row) → AreRows of_row rows
      → ((serial : ℕ) → look_up (λ (row : Row). row.serial) rows serial ≡ s.ltp serial) → (row : Row)
      → Contains rows row → (1 ≤ row.serial) × (row.serial ≤ s.issued)
  within_ltp rows are same row there = issued_from row.serial (λ empty. some_none (s.ltp row.serial) row
      (sym (same row.serial) ∙ look_has (λ (row : Row). row.serial) rows are.one_each row there)
      (ap (λ (at : Seat). at.ltp) empty))

  pub within_cp : (rows : List CurrentRow) → AreRows of_current rows
      → ((serial : ℕ) → look_up (λ (current : CurrentRow). current.row.serial) rows serial ≡ s.cp serial)
      → (current : CurrentRow) → Contains rows current → (1 ≤ current.row.serial) × (current.row.serial ≤ s.issued)
  within_cp rows are same current there = issued_from current.row.serial (λ empty. some_none (s.cp current.row.serial)
      current (sym (same current.row.serial) ∙ look_has (λ (current : CurrentRow). current.row.serial) rows are.one_each
      current there) (ap (λ (at : Seat). at.cp) empty))

-- answers of the calls of a window
module _ (key : Key) where
  pub planned_row : (rows part : List Row) → AreRows of_row rows
      → ((row : Row) → Contains part row ↔ (Contains rows row × (row.key ≡ key))) → (answer : Option Row)
      → MatchOption answer ((row : Row) → Contains part row → ⊥) (λ row. Contains part row) → (s : Sets)
      → ((serial : ℕ) → look_up (λ (row : Row). row.serial) rows serial ≡ s.ltp serial) → IsPlannedRow s key answer
  planned_row rows part are is (Some row) there s same = let both = (is row).0 there in
      (sym (same row.serial) ∙ look_has (λ (row : Row). row.serial) rows are.one_each row both.0, both.1)
  planned_row rows part are is None none s same = λ serial row stands keyed. none row
      ((is row).1 ((look_some (λ (row : Row). row.serial) rows serial row (same serial ∙ stands)).0, keyed))

  pub current_row : (rows part : List CurrentRow) → AreRows of_current rows
      → ((current : CurrentRow) → Contains part current ↔ (Contains rows current × (current.row.key ≡ key)))
      → (answer : Option CurrentRow) → MatchOption answer ((current : CurrentRow) → Contains part current
      → current.status ≡ D) (λ current. Contains part current × (current.status ≢ D)) → (s : Sets)
      → ((serial : ℕ) → look_up (λ (current : CurrentRow). current.row.serial) rows serial ≡ s.cp serial)
      → IsCurrentRow s key answer
  current_row rows part are is (Some current) there s same = let both = (is current).0 there.0 in (
    sym (same current.row.serial) ∙ look_has (λ (current : CurrentRow). current.row.serial) rows are.one_each current
        both.0,
    both.1,
    there.1,
  )
  current_row rows part are is None none s same = λ serial current stands keyed live. live
      (none current ((is current).1 (
        (look_some (λ (current : CurrentRow). current.row.serial) rows serial current
            (same serial ∙ stands)).0,
        keyed,
      )))

module _ {X : Type 0} (row_of : X → Row) (p : X → Bool) (xs : List X) (rows : AreRows row_of xs) where
  pub filter_rows : AreRows row_of (filter p xs)
  filter_rows = record {
    keyed = AllPairs-filter (λ x y. arrival_cmp (arrival_of (row_of x)) (arrival_of (row_of y)) ≡ Less) p xs rows.keyed;
    one_each = λ x y at_x at_y same. rows.one_each x y (contains_filter p xs x at_x).0 (contains_filter p xs y at_y).0
        same;
  }

  -- the look-up of what passes
  pub look_filter : (serial : ℕ) → look_up (λ x. (row_of x).serial) (filter p xs) serial
      ≡ keep p (look_up (λ x. (row_of x).serial) xs serial)
  look_filter serial = elim (look_up (λ x. (row_of x).serial) xs serial) as (λ o. look_up (λ x. (row_of x).serial) xs
      serial ≡ o → look_up (λ x. (row_of x).serial) (filter p xs) serial ≡ keep p o) [
        | None ↦ λ e. look_lacks (λ x. (row_of x).serial) (filter p xs) serial
            (λ z there. look_none (λ x. (row_of x).serial) xs serial e z (contains_filter p xs z there).0)
        | Some x ↦ λ e.
            let is = look_some (λ x. (row_of x).serial) xs serial x e in
            elim (p x) as (λ b. p x ≡ b → look_up (λ x. (row_of x).serial) (filter p xs) serial
            ≡ (if b then Some x else None)) [
              | true ↦ λ passes. look_at (λ x. (row_of x).serial) (filter p xs) filter_rows.one_each x serial
                  (filter_contains p xs x is.0 passes) is.1
              | false ↦ λ fails. look_lacks (λ x. (row_of x).serial) (filter p xs) serial (λ z there same.
                  let from = contains_filter p xs z there in
                  let one : z ≡ x = rows.one_each z x from.0 is.0 (same ∙ sym is.1) in
                  both (p x) fails (subst (λ y. p y ≡ true) one from.1))
            ] refl
      ] refl
    where
      both : (b : Bool) → b ≡ false → b ≡ true → ⊥
      both b f t = cc
