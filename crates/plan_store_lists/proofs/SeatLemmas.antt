-- Seats of rows.
use Rattle.std.proofs.Common.{◌≡◌, ◌≢◌, ℕ, ◌<◌, Bool, true, false, not, List, [], ◌∷◌, ◌++◌, map, length, get_or, refl, sym}
use Rattle.std.proofs.Common.{ap, subst, ◌∙◌, inl, inr, arith, Ordering}
use Rattle.std.specs.declared.cmp.Ordering.TheVariants.{Less, Equal, Greater}
use Rattle.std.specs.Prelude.{filter}
use Rattle.std.specs.List.{Contains}
use Rattle.std.specs.Cmp.{IsTotalOrder}
use Rattle.std.specs.Cmp.Lexicographic.{slice_cmp}
use Rattle.std.specs.Ordering.{is_eq, nat_cmp, ordering_then}
use Rattle.std.proofs.lemmas.Bool.{cases_order, not-true, not_from_false}
use Rattle.std.proofs.lemmas.Cmp.{nat_list_cmp_total, nat_cmp_total, on_total, then_total, tied_itself}
use Rattle.std.proofs.lemmas.List.{get_or-map, length-map}
use Rattle.std.proofs.lemmas.List.Elements.{Contains-append_cases}
use Rattle.std.proofs.lemmas.List.Folds.{Any-from_list_any}
use Rattle.std.proofs.lemmas.List.Kept.{AllPairs-filter}
use Rattle.occurrences.specs.declared.row.Row.{Row}
use Rattle.plan_store_lists.specs.Keyed.{AreApart, LacksKey, holds_key}
use Rattle.plan_store_lists.specs.Rows.{HasEachOnce}
use Rattle.plan_store_lists.specs.Seats.{AreSeats, HasSeats, seat_cmp, seat_of, seat_ties}
use Rattle.plan_store_lists.specs.declared.seats.Seat.{Seat}
use Rattle.plan_store_lists.proofs.KeyLemmas.{contains_filter, filter_contains, holds_has, holds_lacks}
use Rattle.plan_store_lists.proofs.SliceLemmas.{Rises, then_less}

pub seat_total : IsTotalOrder seat_cmp
seat_total =
    then_total (on_total (λ (a : Seat). a.serial) nat_cmp_total)
    (then_total (on_total (λ (a : Seat). a.ia) nat_cmp_total) (on_total (λ (a : Seat). a.app) nat_list_cmp_total))

pub equal_from : (o : Ordering) → is_eq o ≡ true → o ≡ Equal
equal_from Less is = cc
equal_from Equal is = refl
equal_from Greater is = cc

abbrev pub itself : Seat → Seat
itself seat = seat

abbrev pub serial_of : Seat → ℕ
serial_of seat = seat.serial

-- a test for a seat
pub seat_held : (seats : List Seat) (seat : Seat) → holds_key seat_cmp itself seats seat ≡ true → Contains seats seat
seat_held seats seat is =
    let (k, s, lt, at, same) = Any-from_list_any (λ (s : Seat). is_eq (seat_cmp s seat)) seats is in
    subst (Contains seats) (seat_ties s seat (equal_from (seat_cmp s seat) same)) (k, lt, at)

pub holds_seat : (seats : List Seat) (seat : Seat) → Contains seats seat → holds_key seat_cmp itself seats seat ≡ true
holds_seat seats seat there = holds_has seat_total seat_ties itself seats seat there

-- serials don't fall along seats
pub serials_rise : (seats : List Seat) → AreSeats seats → Rises nat_cmp_total serial_of seats
serials_rise seats are i j d le lt = elim (cases_order i j) [
  | inl same ↦ inr (subst (λ n. nat_cmp (get_or seats i d).serial (get_or seats n d).serial ≡ Equal) same
      (tied_itself nat_cmp_total (get_or seats i d).serial))
  | inr (inl below) ↦ elim (then_less (nat_cmp (get_or seats i d).serial (get_or seats j d).serial)
      (ordering_then (nat_cmp (get_or seats i d).ia (get_or seats j d).ia) (slice_cmp nat_cmp (get_or seats i d).app
      (get_or seats j d).app)) (are i j d below lt)) [ inl less ↦ inl less | inr tied ↦ inr tied.0 ]
  | inr (inr above) ↦ absurd (omega arith)
]

module _ {X : Type 0} (row_of : X → Row) where
  abbrev pub seat_at : X → Seat
  seat_at x = seat_of (row_of x)

  -- rows of different serials have different seats
  apart_seats : (xs : List X) → HasEachOnce row_of xs → AreApart itself (map seat_at xs)
  apart_seats [] once i j d below lt same = absurd (omega arith)
  apart_seats (x ∷ xs) once i j d below lt same =
      let long : j < length (x ∷ xs) = omega (arith, length-map (x ∷ xs) seat_at) in
      let at_i : get_or (map seat_at (x ∷ xs)) i d ≡ seat_at (get_or (x ∷ xs) i x) = get_or-map seat_at (x ∷ xs) i x d
      (omega arith) in
      let at_j : get_or (map seat_at (x ∷ xs)) j d ≡ seat_at (get_or (x ∷ xs) j x) = get_or-map seat_at (x ∷ xs) j x d
      long in
      once i j x below long (ap serial_of (sym at_i ∙ same ∙ at_j))

  contains_map : (xs : List X) (x : X) → Contains xs x → Contains (map seat_at xs) (seat_at x)
  contains_map xs x (k, lt, at) = (
    k,
    omega (arith, length-map xs seat_at),
    get_or-map seat_at xs k x (seat_at x) lt
        ∙ ap seat_at at,
  )

  module _ (seats : List Seat) (xs : List X) where
    abbrev pub is_missing : Seat → Bool
    is_missing seat = not (holds_key seat_cmp (λ (s : Seat). s) seats seat)

    pub missing_apart : HasEachOnce row_of xs → AreApart itself (filter is_missing (map seat_at xs))
    missing_apart once = AllPairs-filter (λ (x y : Seat). x ≢ y) is_missing (map seat_at xs) (apart_seats xs once)

    pub missing_new : (seat : Seat) → Contains (filter is_missing (map seat_at xs)) seat → LacksKey itself seats seat
    missing_new seat there = holds_lacks seat_total seat_ties itself seats seat
        (not-true _ (contains_filter is_missing (map seat_at xs) seat there).1)

    -- the seat of each row is among them, or was there
    pub noted : (all : List Seat) → ((s : Seat) → Contains (filter is_missing (map seat_at xs)) s → Contains all s)
        → ((s : Seat) → Contains seats s → Contains all s) → HasSeats row_of xs all
    noted all new old x there = elim (holds_key seat_cmp itself seats (seat_at x)) as
        (λ b. holds_key seat_cmp itself seats (seat_at x) ≡ b → holds_key seat_cmp itself all (seat_at x) ≡ true) [
          | true ↦ λ is. holds_seat all (seat_at x) (old (seat_at x) (seat_held seats (seat_at x) is))
          | false ↦ λ is. holds_seat all (seat_at x)
              (new (seat_at x) (filter_contains is_missing (map seat_at xs) (seat_at x) (contains_map xs x there)
              (not_from_false _ is)))
        ] refl

  -- where more seats are noted, those of the rows are still there
  pub seats_stay : (xs : List X) (seats all : List Seat) → HasSeats row_of xs seats
      → ((s : Seat) → Contains seats s → Contains all s) → HasSeats row_of xs all
  seats_stay xs seats all has stay x there = holds_seat all (seat_at x)
      (stay (seat_at x) (seat_held seats (seat_at x) (has x there)))

  -- the seats of two lists
  pub seats_both : (xs ys : List X) (all : List Seat) → HasSeats row_of xs all → HasSeats row_of ys all
      → HasSeats row_of (xs ++ ys) all
  seats_both xs ys all first second x there = elim (Contains-append_cases xs ys x there) [
    | inl here ↦ first x here
    | inr later ↦ second x later
  ]
