-- Lists that have a part of history and of the deletions.
use Rattle.std.proofs.Common.{◌≡◌, ◌≢◌, ◌↔◌, ◌⊎◌, ℕ, ◌<◌, ◌≤◌, Bool, true, false, List, [], ◌∷◌, length, get_or, map}
use Rattle.std.proofs.Common.{refl, sym, ap, subst, ◌∙◌, inl, inr, arith, Option, Some, None, Result, Ok, Err, OnOk, OnErr}
use Rattle.std.proofs.Common.{MatchResult}
use Rattle.std.specs.Prelude.{◌&&◌, ◌||◌, filter, if◌then◌else◌, nat_eq}
use Rattle.std.specs.List.{Contains, list_any}
use Rattle.std.specs.List.Sorted.{IsBinarySearchResult, IsNonDecreasing}
use Rattle.std.specs.Ordering.{nat_cmp}
use Rattle.std.specs.Result.{is_ok}
use Rattle.std.proofs.lemmas.Bool.{and_from, cases_lt, eq-eqb, eqb-false, eqb-true, ne_eqb}
use Rattle.std.proofs.lemmas.List.{get_or_default}
use Rattle.std.proofs.lemmas.List.Folds.{list_any_at, list_any_none}
use Rattle.std.proofs.lemmas.List.Sorted.{searched}
use Rattle.occurrences.specs.declared.row.Row.{Row}
use Rattle.external_dependencies.specs.Nearest.{arrival_of}
use Rattle.external_dependencies.specs.declared.live.Arrival.{Arrival}
use Rattle.external_dependencies.specs.declared.pairs.Pair.{Pair}
use Rattle.planner_machine.specs.Content.{Content}
use Rattle.planner_machine.specs.Moves.{or_else}
use Rattle.plan_store_lists.specs.Keyed.{LacksKey}
use Rattle.plan_store_lists.specs.Rows.{OneEach, look_up}
use Rattle.plan_store_lists.specs.Seats.{HasSeats}
use Rattle.plan_store_lists.specs.declared.seats.Seat.{Seat}
use Rattle.plan_store_lists.proofs.KeyLemmas.{contains_first, one_is}
use Rattle.plan_store_lists.proofs.LookLemmas.{look_at, look_has, look_lacks, look_none, look_some}
use Rattle.plan_store.specs.Parts.{IsPartOf, followed_alone, is_followed, is_planned, or_this, rest_of}
use Rattle.plan_store.specs.Room.{no_jobs, with_job_set}
use Rattle.plan_store.specs.Views.{bars}
use Rattle.plan_store.proofs.WindowLemmas.{is_kept, kept_is}

module _ {X : Type 0} (row_of : X → Row) where
  abbrev pub serial_of : X → ℕ
  serial_of x = (row_of x).serial

  pub new_key : (old : List X) (x : X) → look_up serial_of old (serial_of x) ≡ None
      → LacksKey (λ y. arrival_of (row_of y)) old (arrival_of (row_of x))
  new_key old x free y there same = look_none serial_of old (serial_of x) free y there
      (ap (λ (a : Arrival). a.serial) same)

  -- a row of a new serial is put in
  module _ (old new : List X) (x : X) (one : OneEach serial_of old) (free : look_up serial_of old (serial_of x) ≡ None)
      (is : (y : X) → Contains new y ↔ (Contains (x ∷ []) y ⊎ Contains old y)) where
    pub comes : (y : X) → Contains new y → (x ≡ y) ⊎ Contains old y
    comes y there = elim ((is y).0 there) [ inl this ↦ inl (one_is x y this) | inr was ↦ inr was ]

    apart : (y : X) → Contains old y → serial_of y ≢ serial_of x
    apart = look_none serial_of old (serial_of x) free

    pub one_put : OneEach serial_of new
    one_put y z at_y at_z same = elim (comes y at_y) [
      | inl this_y ↦ elim (comes z at_z) [
        | inl this_z ↦ sym this_y ∙ this_z
        | inr was ↦ absurd (apart z was (sym (ap serial_of this_y ∙ same)))
      ]
      | inr was_y ↦ elim (comes z at_z) [
        | inl this_z ↦ absurd (apart y was_y (same ∙ sym (ap serial_of this_z)))
        | inr was ↦ one y z was_y was same
      ]
    ]

    pub look_put : (serial : ℕ) → look_up serial_of new serial ≡ or_this (look_up serial_of old) (serial_of x) x serial
    look_put serial = elim (look_up serial_of old serial) as (λ o. look_up serial_of old serial ≡ o
        → look_up serial_of new serial ≡ or_else o (if nat_eq (serial_of x) serial then Some x else None)) [
          | Some y ↦ λ e.
              let there = look_some serial_of old serial y e in
              look_at serial_of new one_put y serial ((is y).1 (inr there.0)) there.1
          | None ↦ λ e. elim (nat_eq (serial_of x) serial) as (λ b. nat_eq (serial_of x) serial ≡ b
              → look_up serial_of new serial ≡ (if b then Some x else None)) [
                | true ↦ λ t. look_at serial_of new one_put x serial ((is x).1 (inl (contains_first x [])))
                    (eqb-true (serial_of x) serial t)
                | false ↦ λ f. look_lacks serial_of new serial (λ y there same. elim (comes y there) [
                  | inl this ↦ eqb-false (serial_of x) serial f (ap serial_of this ∙ same)
                  | inr was ↦ look_none serial_of old serial e y was same
                ])
              ] refl
        ] refl

  -- the seats of what was there, and that of a row that comes
  pub seats_put : (old new : List X) (x : X) (seats : List Seat) → HasSeats row_of old seats
      → HasSeats row_of (x ∷ []) seats → ((y : X) → Contains new y → (x ≡ y) ⊎ Contains old y)
      → HasSeats row_of new seats
  seats_put old new x seats had noted come y there = elim (come y there) [
    | inl this ↦ noted y (subst (Contains (x ∷ [])) this (contains_first x []))
    | inr was ↦ had y was
  ]

-- rows of a key, as a set has them
pub rows_of_key : {K : Type 0} (key : Row → K) (k : K) (rows found : List Row) → OneEach (λ (row : Row). row.serial) rows
    → ((row : Row) → Contains found row ↔ (Contains rows row × (key row ≡ k))) → (row : Row)
    → Contains found row ↔ ((look_up (λ (row : Row). row.serial) rows row.serial ≡ Some row) × (key row ≡ k))
rows_of_key key k rows found one is row = (
  (λ there.
      let both = (is row).0 there in
      (look_has (λ (row : Row). row.serial) rows one row both.0, both.1)),
  λ both. (is row).1 ((look_some (λ (row : Row). row.serial) rows row.serial row both.0).0, both.1),
)

-- a search among numbers that don't fall
pub among : (xs : List ℕ) (x : ℕ) (r : Result ℕ ℕ) → IsBinarySearchResult (λ y. nat_cmp y x) xs r → IsNonDecreasing xs
    → is_ok r ≡ list_any (λ n. nat_eq n x) xs
among xs x r is rises = from r (searched xs x r is (λ i j le lt. rises i j 0 le lt))
  where
    from : (r : Result ℕ ℕ) → MatchResult r (λ i. (i < length xs) × (get_or xs i 0 ≡ x))
        (λ i. (i ≤ length xs) × ((k : ℕ) → k < i → get_or xs k 0 < x)
        × ((k : ℕ) → i ≤ k → k < length xs → x < get_or xs k 0)) → is_ok r ≡ list_any (λ n. nat_eq n x) xs
    from (Ok i) (lt, at) = sym (list_any_at (λ n. nat_eq n x) xs i 0 lt (eq-eqb (get_or xs i 0) x at))
    from (Err i) (le, below, above) = sym (list_any_none (λ n. nat_eq n x) xs (λ k d lt. ne_eqb (get_or xs k d) x
        (λ same. elim (cases_lt k i) as (λ _. ⊥) [
          | inl low ↦ omega (arith, below k low, same, default k d lt)
          | inr high ↦ omega (arith, above k high lt, same, default k d lt)
        ])))
      where
        default : (k d : ℕ) → k < length xs → get_or xs k d ≡ get_or xs k 0
        default k d lt = get_or_default xs k d 0 lt

-- what passes a test, one by one
any_kept : {X : Type 0} (p : X → Bool) (f : X → ℕ) (n : ℕ) (xs : List X) → list_any (λ m. nat_eq m n) (map f (filter p xs))
    ≡ list_any (λ x. p x && nat_eq (f x) n) xs
any_kept p f n [] = refl
any_kept p f n (x ∷ xs) = elim (p x) as (λ b. list_any (λ m. nat_eq m n) (map f (if b then x ∷ filter p xs else filter p xs))
    ≡ ((b && nat_eq (f x) n) || list_any (λ x. p x && nat_eq (f x) n) xs)) [
      | true ↦ ap (λ b. nat_eq (f x) n || b) (any_kept p f n xs)
      | false ↦ any_kept p f n xs
    ]

-- the look-up of the rows whose serial passes
pub look_passing : {X : Type 0} (number_of : X → ℕ) (q : ℕ → Bool) (xs : List X) (n : ℕ)
    → look_up number_of (filter (λ x. q (number_of x)) xs) n ≡ (if q n then look_up number_of xs n else None)
look_passing {X} number_of q [] n =
    let none : Option X = None in
    elim (q n) as (λ b. none ≡ (if b then none else none)) [ true ↦ refl | false ↦ refl ]
look_passing {X} number_of q (x ∷ xs) n =
    let rest : look_up number_of (filter (λ x. q (number_of x)) xs) n ≡ (if q n then look_up number_of xs n else None) =
    look_passing number_of q xs n in
    elim (q (number_of x)) as (λ b. q (number_of x) ≡ b
    → look_up number_of (if b then x ∷ filter (λ x. q (number_of x)) xs else filter (λ x. q (number_of x)) xs) n
    ≡ (if q n then (if nat_eq (number_of x) n then Some x else look_up number_of xs n) else None)) [
      | true ↦ λ passes. elim (nat_eq (number_of x) n) as (λ b. nat_eq (number_of x) n ≡ b
          → (if b then Some x else look_up number_of (filter (λ x. q (number_of x)) xs) n)
          ≡ (if q n then (if b then Some x else look_up number_of xs n) else None)) [
            | true ↦ λ same.
                let here : q n ≡ true = subst (λ m. q m ≡ true) (eqb-true (number_of x) n same) passes in
                rw here refl
            | false ↦ λ _. rest
          ] refl
      | false ↦ λ fails. elim (nat_eq (number_of x) n) as (λ b. nat_eq (number_of x) n ≡ b
          → look_up number_of (filter (λ x. q (number_of x)) xs) n
          ≡ (if q n then (if b then Some x else look_up number_of xs n) else None)) [
            | true ↦ λ same.
                let here : q n ≡ false = subst (λ m. q m ≡ false) (eqb-true (number_of x) n same) fails in
                rest ∙ ap (λ b. if b then look_up number_of xs n else None) here
                ∙ sym (ap (λ b. if b then Some x else None) here)
            | false ↦ λ _. rest
          ] refl
    ] refl

-- the predecessors of what is planned
pub planned_followed : (c : Content) (serial : ℕ) → list_any (λ n. nat_eq n serial)
    (map (λ (pair : Pair). pair.predecessor) (filter (λ (pair : Pair). is_planned c.sets pair.successor) c.pairs))
    ≡ is_followed c serial
planned_followed c serial = any_kept (λ (pair : Pair). is_planned c.sets pair.successor)
    (λ (pair : Pair). pair.predecessor) serial c.pairs

followed_one : (c : Content) (pair : Pair) → Contains c.pairs pair → is_planned c.sets pair.successor ≡ true
    → is_followed c pair.predecessor ≡ true
followed_one c pair (k, lt, at) planned = list_any_at
    (λ (p : Pair). is_planned c.sets p.successor && nat_eq p.predecessor pair.predecessor) c.pairs k pair lt
    (subst (λ (p : Pair). (is_planned c.sets p.successor && nat_eq p.predecessor pair.predecessor) ≡ true) (sym at)
    (and_from (is_planned c.sets pair.successor) (nat_eq pair.predecessor pair.predecessor) planned
    (eq-eqb pair.predecessor pair.predecessor refl)))

-- what is followed alone, and all, are parts
part_followed : (c : Content) → IsPartOf (rest_of c) (followed_alone c)
part_followed c = record {
  history = λ serial row is. elim (is_followed c serial) as (λ b. (if b then c.sets.history serial else None) ≡ Some row
      → c.sets.history serial ≡ Some row) [ true ↦ λ there. there | false ↦ λ no. cc ] is;
  deletions = λ serial deletion is. (kept_is (bars c.sets.bounds) (c.sets.deletions serial) deletion is).0;
  named = λ pair there planned. ap (λ b. if b then c.sets.history pair.predecessor else None)
      (followed_one c pair there planned);
  bars = λ serial deletion is barred. is_kept (bars c.sets.bounds) (c.sets.deletions serial) deletion is barred;
}

part_whole : (c : Content) → IsPartOf (rest_of c) c
part_whole c = record {
  history = λ serial row is. is;
  deletions = λ serial deletion is. is;
  named = λ pair there planned. refl;
  bars = λ serial deletion is barred. is;
}

-- what is kept of a content whose jobs were let go
pub kept_part : {T E : Type 0} (r : Result T E) (c less new : Content) → less ≡ with_job_set no_jobs c
    → OnOk r (new ≡ followed_alone less) → OnErr r (new ≡ less) → IsPartOf (rest_of c) new
kept_part (Ok x) c less new is ok err =
    let done : new ≡ followed_alone (with_job_set no_jobs c) = ok ∙ ap followed_alone is in
    subst (IsPartOf (rest_of c)) (sym done) (
    let part = part_followed c in
    record { history = part.history; deletions = part.deletions; named = part.named; bars = part.bars }
    )
kept_part (Err e) c less new is ok err =
    let done : new ≡ with_job_set no_jobs c = err ∙ is in
    subst (IsPartOf (rest_of c)) (sym done) (
    let part = part_whole c in
    record { history = part.history; deletions = part.deletions; named = part.named; bars = part.bars }
    )

pub kept_jobs : {T E : Type 0} (r : Result T E) (c less new : Content) → less ≡ with_job_set no_jobs c
    → OnOk r (new ≡ followed_alone less) → OnErr r (new ≡ less) → new.jobs ≡ no_jobs
kept_jobs (Ok x) c less new is ok err = ap (λ (k : Content). k.jobs) (ok ∙ ap followed_alone is)
kept_jobs (Err e) c less new is ok err = ap (λ (k : Content). k.jobs) (err ∙ is)
