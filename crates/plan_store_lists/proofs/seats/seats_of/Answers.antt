use Rattle.std.proofs.Common.{◌≡◌, ◌↔◌, ◌-◌, ◌≤◌, ◌∙◌, length, take, drop, true, false, subst, ap, arith, rules, sym, List}
use Rattle.std.specs.List.{Contains}
use Rattle.std.specs.List.Sorted.{IsPartitionedBy, IsPartitionPoint}
use Rattle.std.proofs.lemmas.List.{take_all, length-drop}
use Rattle.std.proofs.lemmas.List.Sorted.{IsPartitionPoint-from_clause}
use Rattle.std.proofs.lemmas.Cmp.{nat_cmp_total}
use Rattle.std.specs.FinMap.{nat_cmp-IsAntisymmetric}
use Rattle.std.specs.Ordering.{nat_cmp, is_lt, is_le}
use Rattle.plan_store_lists.specs.Groups.{serial_group}
use Rattle.plan_store_lists.specs.declared.seats.Seat.{Seat}
use Rattle.plan_store_lists.proofs.SeatLemmas.{serial_of, serials_rise}
use Rattle.plan_store_lists.proofs.SliceLemmas.{between, parted_below, parted_upto, rises_drop}
use Rattle.plan_store_lists.proofs.seats.seats_of.Goals as goal

pub returns : goal.returns
returns c seat =
    let xs = c.of_group-near.result.now in
    let m = c.args.serial in
    let start = c.partition_point-start.result in
    let count = c.partition_point-count.result in
    let below = λ (x : Seat). is_lt (nat_cmp (serial_of x) m) in
    let upto = λ (x : Seat). is_le (nat_cmp (serial_of x) m) in
    let whole : take (length xs - start) (drop start xs) ≡ drop start xs = take_all (length xs - start) (drop start xs)
    (omega (arith, length-drop start xs)) in
    let rises = serials_rise xs c.of_group-near.ensures.keyed in
    let parted' : IsPartitionedBy upto (take (length xs - start) (drop start xs)) = subst (IsPartitionedBy upto)
    (sym whole) (parted_upto nat_cmp_total serial_of (drop start xs) m (rises_drop nat_cmp_total serial_of xs start
    rises)) in
    let point = IsPartitionPoint-from_clause below _ _ c.partition_point-start.ensures.partitioned
    (parted_below nat_cmp_total serial_of xs m rises) (λ a r q k. search rules) in
    let point' = IsPartitionPoint-from_clause upto _ _ c.partition_point-count.ensures.partitioned parted'
    (λ a r q k. search rules) in
    let here' : IsPartitionPoint (λ l. upto l ≡ true) (λ l. upto l ≡ false) (drop start xs) count =
    subst (λ ls. IsPartitionPoint (λ l. upto l ≡ true) (λ l. upto l ≡ false) ls count) whole point' in
    let bound : count ≤ length (drop start xs) =
    omega (arith, c.partition_point-count.ensures.bound, ap length whole) in
    let among : (s : Seat) → Contains (take count (drop start xs)) s ↔ (Contains xs s × (serial_of s ≡ m)) =
    between nat_cmp_total serial_of nat_cmp-IsAntisymmetric xs m start count
    c.partition_point-start.ensures.bound point bound here' in
    let near = c.of_group-near.ensures.all seat in
    rw whole (
      (λ there.
          let is = (among seat).0 there in
          (subst (λ (l : List Seat). Contains l seat) c.seats.view_is (near.0 is.0).0, is.1)),
      (λ both. (among seat).1 (
        near.1 (
          subst (λ (l : List Seat). Contains l seat) (sym c.seats.view_is) both.0,
          ap serial_group both.1 ∙ sym c.group_of_serial.ensures,
        ),
        both.1,
      )),
    )
