use Rattle.std.proofs.Common.{◌≡◌, ◌↔◌, ℕ, List, ◌-◌, ◌≤◌, length, take, drop, true, false, sym, ap, subst, ◌∙◌}
use Rattle.std.proofs.Common.{arith, rules}
use Rattle.std.specs.List.{Contains}
use Rattle.std.specs.List.Sorted.{IsPartitionedBy, IsPartitionPoint}
use Rattle.std.proofs.lemmas.List.{take_all, length-drop}
use Rattle.std.proofs.lemmas.List.Sorted.{IsPartitionPoint-from_clause}
use Rattle.std.specs.Cmp.{nat_cmp_total}
use Rattle.std.specs.FinMap.{nat_cmp-IsAntisymmetric}
use Rattle.std.specs.Ordering.{nat_cmp, is_lt, is_le}
use Rattle.external_dependencies.proofs.LexLemmas.{pair_total}
use Rattle.external_dependencies.specs.Pair.{pair_cmp}
use Rattle.external_dependencies.specs.Rising.{IsRising}
use Rattle.external_dependencies.specs.declared.pairs.Pair.{Pair}
use Rattle.external_dependencies.proofs.PartLemmas.{parted_below, parted_upto, part_is, part_rising}
use Rattle.external_dependencies.proofs.pairs.Pairs.of_successor.Goals as goal

pub returns : goal.returns
returns c =
    let all = c.self.inside.pairs.items in
    let one = c.args.successor in
    let key : Pair → ℕ = λ x. x.successor in
    let rest = λ (x y : Pair). nat_cmp x.predecessor y.predecessor in
    let start = c.partition_point-start.result in
    let count = c.partition_point-count.result in
    let below = λ (x : Pair). is_lt (nat_cmp x.successor one) in
    let upto = λ (x : Pair). is_le (nat_cmp x.successor one) in
    let seen = c.deref-2.result.now in
    let whole : take (length seen - start) (drop start seen) ≡ drop start all =
    take_all (length seen - start) (drop start seen) (omega (arith, length-drop start seen))
    ∙ ap (drop start) c.deref-2.ensures.value in
    let parted : IsPartitionedBy below c.deref.result.now =
    subst (IsPartitionedBy below) (sym c.deref.ensures.value)
    (parted_below key nat_cmp_total nat_cmp-IsAntisymmetric rest pair_total all c.self.invariant one) in
    let parted' : IsPartitionedBy upto (take (length seen - start) (drop start seen)) =
    subst (IsPartitionedBy upto) (sym whole)
    (parted_upto key nat_cmp_total nat_cmp-IsAntisymmetric rest pair_total all c.self.invariant one start) in
    let point = IsPartitionPoint-from_clause below _ _ c.partition_point-start.ensures.partitioned parted
    (λ a r q k. search rules) in
    let point' = IsPartitionPoint-from_clause upto _ _ c.partition_point-count.ensures.partitioned parted'
    (λ a r q k. search rules) in
    let here : IsPartitionPoint (λ x. below x ≡ true) (λ x. below x ≡ false) all start =
    subst (λ xs. IsPartitionPoint (λ x. below x ≡ true) (λ x. below x ≡ false) xs start) c.deref.ensures.value point in
    let here' : IsPartitionPoint (λ x. upto x ≡ true) (λ x. upto x ≡ false) (drop start all) count =
    subst (λ xs. IsPartitionPoint (λ x. upto x ≡ true) (λ x. upto x ≡ false) xs count) whole point' in
    let bound : start ≤ length all = omega (
      arith,
      c.partition_point-start.ensures.bound,
      ap length c.deref.ensures.value,
    ) in
    let bound' : count ≤ length (drop start all) =
    omega (arith, c.partition_point-count.ensures.bound, ap length whole) in
    record {
      rising = let rise : (xs : List Pair) → xs ≡ drop start all → IsRising pair_cmp (take count xs) =
          λ xs e. subst (λ ys. IsRising pair_cmp (take count ys)) (sym e)
          (part_rising pair_cmp all start count c.self.invariant bound') in rise _ whole;
      all = λ x.
          let is = part_is key nat_cmp_total nat_cmp-IsAntisymmetric rest pair_total all c.self.invariant one start
          count bound here bound' here' x in
          let same : (xs : List Pair) → xs ≡ drop start all → Contains (take count xs) x
          ↔ (Contains all x × (x.successor ≡ one)) =
          λ xs e. subst (λ ys. Contains (take count ys) x ↔ (Contains all x × (x.successor ≡ one))) (sym e) is in
          rw (← c.self.view_is) (same _ whole);
    }
