-- Serials, and the keys of the rows that have them.
use Rattle.std.specs.Prelude.{◌≡◌, ℕ, true, List, Contains}
use Rattle.std.proofs.Common.{ap}
use Rattle.std.specs.Cmp.Lexicographic.{slice_cmp}
use Rattle.std.specs.FinMap.{IsAntisymmetric, nat_cmp-IsAntisymmetric, slice_cmp-IsAntisymmetric}
use Rattle.std.specs.Ordering.{nat_cmp, ordering_then}
use Rattle.std.specs.declared.cmp.Ordering.{Ordering}
use Rattle.std.specs.declared.cmp.Ordering.TheVariants.{Less}
use Rattle.occurrences.specs.declared.row.Row.{Row}
use Rattle.external_dependencies.proofs.OrderLemmas.{then_equal}
use Rattle.plan_store_lists.specs.Groups.{group_below, serial_group}
use Rattle.plan_store_lists.specs.Keyed.{IsKeyed, holds_key}
use Rattle.plan_store_lists.specs.declared.seats.Seat.{Seat}

-- by serial, then by input arrival and application
abbrev pub seat_cmp : Seat → Seat → Ordering
seat_cmp a b = ordering_then (nat_cmp a.serial b.serial)
    (ordering_then (nat_cmp a.ia b.ia) (slice_cmp nat_cmp a.app b.app))

-- the serial and the key of a row
abbrev pub seat_of : Row → Seat
seat_of row = record { serial = row.serial; ia = row.key.ia; app = row.key.app }

-- in rising order, each once
abbrev pub AreSeats : List Seat → Type 0
AreSeats seats = IsKeyed seat_cmp (λ seat. seat) seats

-- the seat of each row is among these
abbrev pub HasSeats : {X : Type 0} → (X → Row) → List X → List Seat → Type 0
HasSeats {X} row_of xs seats = (x : X) → Contains xs x → holds_key seat_cmp (λ (seat : Seat). seat) seats
    (seat_of (row_of x)) ≡ true

-- only equal seats compare as equal
pub seat_ties : IsAntisymmetric seat_cmp
seat_ties a b is =
    let one = then_equal (nat_cmp a.serial b.serial) (ordering_then (nat_cmp a.ia b.ia) (slice_cmp nat_cmp a.app b.app))
    is in
    let two = then_equal (nat_cmp a.ia b.ia) (slice_cmp nat_cmp a.app b.app) one.1 in
    let serial : a.serial ≡ b.serial = nat_cmp-IsAntisymmetric a.serial b.serial one.0 in
    let ia : a.ia ≡ b.ia = nat_cmp-IsAntisymmetric a.ia b.ia two.0 in
    let app : a.app ≡ b.app = slice_cmp-IsAntisymmetric nat_cmp-IsAntisymmetric a.app b.app two.1 in
    λ i. record { serial = serial i; ia = ia i; app = app i }

-- the block of a seat
abbrev pub seat_group : Seat → ℕ
seat_group seat = serial_group seat.serial

-- blocks rise with seats
pub seat_groups_rise : (x y : Seat) → nat_cmp (seat_group x) (seat_group y) ≡ Less → seat_cmp x y ≡ Less
seat_groups_rise x y less =
    ap (λ o. ordering_then o (ordering_then (nat_cmp x.ia y.ia) (slice_cmp nat_cmp x.app y.app)))
    (group_below x.serial y.serial less)
