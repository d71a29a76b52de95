use Rattle.std.proofs.Common.{◌≡◌, ◌↔◌, ℕ, List, ◌-◌, ◌≤◌, length, take, drop, true, false, sym, ap, subst, ◌∙◌}
use Rattle.std.proofs.Common.{arith, rules}
use Rattle.std.specs.List.{Contains}
use Rattle.std.specs.List.Sorted.{IsPartitionedBy, IsPartitionPoint}
use Rattle.std.proofs.lemmas.List.{take_all, length-drop}
use Rattle.std.proofs.lemmas.List.Sorted.{IsPartitionPoint-from_clause}
use Rattle.std.specs.Cmp.{nat_cmp_total}
use Rattle.std.specs.FinMap.{nat_cmp-IsAntisymmetric}
use Rattle.std.specs.Ordering.{nat_cmp, is_lt, is_le}
use Rattle.external_dependencies.proofs.LexLemmas.{follower_total}
use Rattle.external_dependencies.specs.Pair.{follower_cmp}
use Rattle.external_dependencies.specs.Rising.{IsRising}
use Rattle.external_dependencies.specs.declared.followers.Follower.{Follower}
use Rattle.external_dependencies.proofs.PartLemmas.{parted_below, parted_upto, part_is, part_rising}
use Rattle.external_dependencies.proofs.followers.Followers.of_predecessor.Goals as goal

pub returns : goal.returns
returns c =
    let all = c.self.inside.followers.items in
    let one = c.args.predecessor in
    let key : Follower → ℕ = λ x. x.predecessor in
    let rest = λ (x y : Follower). nat_cmp x.successor y.successor in
    let start = c.partition_point-start.result in
    let count = c.partition_point-count.result in
    let below = λ (x : Follower). is_lt (nat_cmp x.predecessor one) in
    let upto = λ (x : Follower). is_le (nat_cmp x.predecessor one) in
    let seen = c.deref-2.result.now in
    let whole : take (length seen - start) (drop start seen) ≡ drop start all =
    take_all (length seen - start) (drop start seen) (omega (arith, length-drop start seen))
    ∙ ap (drop start) c.deref-2.ensures.value in
    let parted : IsPartitionedBy below c.deref.result.now =
    subst (IsPartitionedBy below) (sym c.deref.ensures.value)
    (parted_below key nat_cmp_total nat_cmp-IsAntisymmetric rest follower_total all c.self.invariant one) in
    let parted' : IsPartitionedBy upto (take (length seen - start) (drop start seen)) =
    subst (IsPartitionedBy upto) (sym whole)
    (parted_upto key nat_cmp_total nat_cmp-IsAntisymmetric rest follower_total all c.self.invariant one start) in
    let point = IsPartitionPoint-from_clause below _ _ c.partition_point-start.ensures.partitioned parted
    (λ a r q k. search rules) in
    let point' = IsPartitionPoint-from_clause upto _ _ c.partition_point-count.ensures.partitioned parted'
    (λ a r q k. search rules) in
    let here : IsPartitionPoint (λ x. below x ≡ true) (λ x. below x ≡ false) all start =
    subst (λ xs. IsPartitionPoint (λ x. below x ≡ true) (λ x. below x ≡ false) xs start) c.deref.ensures.value point in
    let here' : IsPartitionPoint (λ x. upto x ≡ true) (λ x. upto x ≡ false) (drop start all) count =
    subst (λ xs. IsPartitionPoint (λ x. upto x ≡ true) (λ x. upto x ≡ false) xs count) whole point' in
    let bound : start ≤ length all = omega (
      arith,
      c.partition_point-start.ensures.bound,
      ap length c.deref.ensures.value,
    ) in
    let bound' : count ≤ length (drop start all) =
    omega (arith, c.partition_point-count.ensures.bound, ap length whole) in
    record {
      rising = let rise : (xs : List Follower) → xs ≡ drop start all → IsRising follower_cmp (take count xs) =
          λ xs e. subst (λ ys. IsRising follower_cmp (take count ys)) (sym e)
          (part_rising follower_cmp all start count c.self.invariant bound') in rise _ whole;
      all = λ x.
          let is = part_is key nat_cmp_total nat_cmp-IsAntisymmetric rest follower_total all c.self.invariant one
          start count bound here bound' here' x in
          let same : (xs : List Follower) → xs ≡ drop start all → Contains (take count xs) x
          ↔ (Contains all x × (x.predecessor ≡ one)) =
          λ xs e. subst (λ ys. Contains (take count ys) x ↔ (Contains all x × (x.predecessor ≡ one))) (sym e) is in
          rw (← c.self.view_is) (same _ whole);
    }
