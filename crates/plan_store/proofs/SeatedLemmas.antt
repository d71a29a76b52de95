-- The seats of the rows of a set after a change.
use Rattle.std.proofs.Common.{◌≡◌, ℕ, List, true, false, refl, sym, subst, ◌∙◌, Some, None, Option}
use Rattle.std.specs.Prelude.{is_some, if◌then◌else◌}
use Rattle.occurrences.specs.declared.row.Row.{Row}
use Rattle.external_dependencies.specs.Nearest.{arrival_of}
use Rattle.planner_machine.specs.Moves.{or_else}
use Rattle.plan_store_lists.specs.Keyed.{holds_key}
use Rattle.plan_store_lists.specs.Rows.{AreRows, look_up}
use Rattle.plan_store_lists.specs.Seats.{HasSeats, seat_cmp, seat_of}
use Rattle.plan_store_lists.specs.declared.seats.Seat.{Seat}
use Rattle.plan_store.specs.Changes.{FitsSet, moved_set}
use Rattle.plan_store.specs.declared.changes.Moves.{Moves}
use Rattle.plan_store_lists.proofs.LookLemmas.{look_some, look_has}

module _ {X : Type 0} (row_of : X → Row) (moves : Moves X) (old new : List X) (seats : List Seat) where
  abbrev serial_of : X → ℕ
  serial_of x = (row_of x).serial

  abbrev IsSeated : X → Type 0
  IsSeated x = holds_key seat_cmp (λ (seat : Seat). seat) seats (seat_of (row_of x)) ≡ true

  same_seat : (x y : X) → arrival_of (row_of x) ≡ arrival_of (row_of y) → IsSeated x → IsSeated y
  same_seat x y same seated =
      let seat : seat_of (row_of x) ≡ seat_of (row_of y) = λ i. record {
        serial = (same i).serial;
        ia =
            (same i).ia;
        app = (same i).app;
      } in
      subst (λ s. holds_key seat_cmp (λ (seat : Seat). seat) seats s ≡ true) seat seated

  some_is : (x y : X) → let o : Option X = Some x in o ≡ Some y → x ≡ y
  some_is x y is = cc

  pub seats_after : AreRows row_of new → ((serial : ℕ) → look_up serial_of new serial ≡ moved_set row_of moves
      (look_up serial_of old) serial) → FitsSet row_of moves (look_up serial_of old) → HasSeats row_of old seats
      → HasSeats row_of moves.put.items seats → HasSeats row_of new seats
  seats_after rows moved fits had put x there =
      from_put (sym (moved (serial_of x)) ∙ look_has serial_of new rows.one_each x there)
    where
      from_old : (if is_some (look_up serial_of moves.gone.items (serial_of x)) then None else look_up serial_of old
          (serial_of x)) ≡ Some x → IsSeated x
      from_old is = elim (is_some (look_up serial_of moves.gone.items (serial_of x))) as
          (λ b. (if b then None else look_up serial_of old (serial_of x)) ≡ Some x → IsSeated x) [
            | true ↦ λ is. cc
            | false ↦ λ is. had x (look_some serial_of old (serial_of x) x is).0
          ] is

      from_changed : or_else (look_up serial_of moves.changed.items (serial_of x))
          (if is_some (look_up serial_of moves.gone.items (serial_of x)) then None else look_up serial_of old
          (serial_of x)) ≡ Some x → IsSeated x
      from_changed is = elim (look_up serial_of moves.changed.items (serial_of x)) as
          (λ o. look_up serial_of moves.changed.items (serial_of x) ≡ o
          → or_else o (if is_some (look_up serial_of moves.gone.items (serial_of x)) then None else look_up serial_of
          old (serial_of x)) ≡ Some x → IsSeated x) [
            | Some y ↦ λ e is.
                let at = look_some serial_of moves.changed.items (serial_of x) y e in
                let was = fits.changes y at.0 in
                let seated : IsSeated y = same_seat was.0 y was.2
                (had was.0 (look_some serial_of old (serial_of y) was.0 was.1).0) in
                subst IsSeated (some_is y x is) seated
            | None ↦ λ _ is. from_old is
          ] refl is

      from_put : moved_set row_of moves (look_up serial_of old) (serial_of x) ≡ Some x → IsSeated x
      from_put is = elim (look_up serial_of moves.put.items (serial_of x)) as
          (λ o. look_up serial_of moves.put.items (serial_of x) ≡ o
          → or_else o (or_else (look_up serial_of moves.changed.items (serial_of x))
          (if is_some (look_up serial_of moves.gone.items (serial_of x)) then None else look_up serial_of old
          (serial_of x))) ≡ Some x → IsSeated x) [
            | Some y ↦ λ e is. subst IsSeated (some_is y x is)
                (put y (look_some serial_of moves.put.items (serial_of x) y e).0)
            | None ↦ λ _ is. from_changed is
          ] refl is
