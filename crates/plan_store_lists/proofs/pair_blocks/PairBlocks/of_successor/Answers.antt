use Rattle.std.proofs.Common.{◌≡◌, ◌↔◌, ◌∙◌, ◌-◌, ◌≤◌, length, take, drop, true, false, subst, sym, ap, arith, rules}
use Rattle.std.specs.List.{Contains}
use Rattle.std.specs.List.Sorted.{IsPartitionedBy, IsPartitionPoint}
use Rattle.std.specs.FinMap.{nat_cmp-IsAntisymmetric}
use Rattle.std.specs.Ordering.{nat_cmp, is_lt, is_le}
use Rattle.std.proofs.lemmas.Cmp.{nat_cmp_total}
use Rattle.std.proofs.lemmas.List.{take_rest}
use Rattle.std.proofs.lemmas.List.Sorted.{IsPartitionPoint-from_clause}
use Rattle.external_dependencies.specs.declared.pairs.Pair.{Pair}
use Rattle.plan_store_lists.specs.Groups.{serial_group}
use Rattle.plan_store_lists.proofs.PairBlockLemmas.{successors_rise}
use Rattle.plan_store_lists.proofs.SliceLemmas.{between, parted_below, parted_upto, rises_drop}
use Rattle.plan_store_lists.proofs.pair_blocks.PairBlocks.of_successor.Goals as goal

pub returns-clause-all : goal.returns-clause-all
returns-clause-all c x =
    let xs = c.of_group-pairs.result.now in
    let m = c.args.successor in
    let start = c.partition_point-start.result in
    let count = c.partition_point-count.result in
    let f = λ (x : Pair). x.successor in
    let below = λ (x : Pair). is_lt (nat_cmp x.successor m) in
    let upto = λ (x : Pair). is_le (nat_cmp x.successor m) in
    let whole : take (length xs - start) (drop start xs) ≡ drop start xs = take_rest xs start in
    let rises = successors_rise xs c.of_group-pairs.ensures.keyed in
    let parted' : IsPartitionedBy upto (take (length xs - start) (drop start xs)) = subst (IsPartitionedBy upto)
    (sym whole) (parted_upto nat_cmp_total f (drop start xs) m (rises_drop nat_cmp_total f xs start rises)) in
    let point = IsPartitionPoint-from_clause below _ _ c.partition_point-start.ensures.partitioned
    (parted_below nat_cmp_total f xs m rises) (λ a r q k. search rules) in
    let point' = IsPartitionPoint-from_clause upto _ _ c.partition_point-count.ensures.partitioned parted'
    (λ a r q k. search rules) in
    let here' : IsPartitionPoint (λ l. upto l ≡ true) (λ l. upto l ≡ false) (drop start xs) count =
    subst (λ ls. IsPartitionPoint (λ l. upto l ≡ true) (λ l. upto l ≡ false) ls count) whole point' in
    let bound : count ≤ length (drop start xs) =
    omega (arith, c.partition_point-count.ensures.bound, ap length whole) in
    let is : Contains (take count (drop start xs)) x ↔ (Contains xs x × (x.successor ≡ m)) =
    between nat_cmp_total f nat_cmp-IsAntisymmetric xs m start count c.partition_point-start.ensures.bound point bound
    here' x in
    let group = c.of_group-pairs.ensures.all x in
    let both : Contains (take count (drop start xs)) x ↔ (Contains c.args.self.now x × (x.successor ≡ m)) = (
      (λ there.
          let (listed, same) = is.0 there in
          (subst (λ l. Contains l x) c.self.view_is (group.0 listed).0, same)),
      λ (there, same). is.1 (
        group.1 (
          subst (λ l. Contains l x) (sym c.self.view_is) there,
          ap serial_group same ∙ sym c.group_of_serial.ensures,
        ),
        same,
      ),
    ) in
    rw whole both
