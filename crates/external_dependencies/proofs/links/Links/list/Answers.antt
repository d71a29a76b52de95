use Rattle.std.proofs.Common.{◌≡◌, ◌↔◌, ℕ, List, ◌-◌, ◌≤◌, length, take, drop, true, false, sym, ap, subst, ◌∙◌}
use Rattle.std.proofs.Common.{arith, rules}
use Rattle.std.specs.List.{Contains}
use Rattle.std.specs.List.Sorted.{IsPartitionedBy, IsPartitionPoint}
use Rattle.std.proofs.lemmas.List.{take_all, length-drop}
use Rattle.std.proofs.lemmas.List.Sorted.{IsPartitionPoint-from_clause}
use Rattle.std.specs.Cmp.Lexicographic.{slice_cmp}
use Rattle.std.proofs.lemmas.Cmp.{nat_list_cmp_total}
use Rattle.std.specs.Ordering.{nat_cmp, is_lt, is_le}
use Rattle.external_dependencies.proofs.LexLemmas.{link_total}
use Rattle.external_dependencies.proofs.OrderLemmas.{name_ties}
use Rattle.external_dependencies.specs.Link.{link_cmp}
use Rattle.external_dependencies.specs.Rising.{IsRising}
use Rattle.external_dependencies.specs.declared.links.Link.{Link}
use Rattle.external_dependencies.proofs.PartLemmas.{parted_below, parted_upto, part_is, part_rising}
use Rattle.external_dependencies.proofs.links.Links.list.Goals as goal

pub returns : goal.returns
returns c =
    let all = c.self.inside.links.items in
    let one = c.args.app.now in
    let key : Link → List ℕ = λ x. x.app in
    let rest = λ (x y : Link). slice_cmp nat_cmp x.predecessor y.predecessor in
    let start = c.partition_point-start.result in
    let count = c.partition_point-count.result in
    let below = λ (x : Link). is_lt (slice_cmp nat_cmp x.app one) in
    let upto = λ (x : Link). is_le (slice_cmp nat_cmp x.app one) in
    let seen = c.deref-2.result.now in
    let whole : take (length seen - start) (drop start seen) ≡ drop start all =
    take_all (length seen - start) (drop start seen) (omega (arith, length-drop start seen))
    ∙ ap (drop start) c.deref-2.ensures.value in
    let parted : IsPartitionedBy below c.deref.result.now =
    subst (IsPartitionedBy below) (sym c.deref.ensures.value)
    (parted_below key nat_list_cmp_total name_ties rest link_total all c.self.invariant one) in
    let parted' : IsPartitionedBy upto (take (length seen - start) (drop start seen)) =
    subst (IsPartitionedBy upto) (sym whole)
    (parted_upto key nat_list_cmp_total name_ties rest link_total all c.self.invariant one start) in
    let point = IsPartitionPoint-from_clause below _ _ c.partition_point-start.ensures.partitioned parted
    (λ a r q k. search rules) in
    let point' = IsPartitionPoint-from_clause upto _ _ c.partition_point-count.ensures.partitioned parted'
    (λ a r q k. search rules) in
    let here : IsPartitionPoint (λ x. below x ≡ true) (λ x. below x ≡ false) all start =
    subst (λ xs. IsPartitionPoint (λ x. below x ≡ true) (λ x. below x ≡ false) xs start) c.deref.ensures.value point in
    let here' : IsPartitionPoint (λ x. upto x ≡ true) (λ x. upto x ≡ false) (drop start all) count =
    subst (λ xs. IsPartitionPoint (λ x. upto x ≡ true) (λ x. upto x ≡ false) xs count) whole point' in
    let bound : start ≤ length all = omega (
      arith,
      c.partition_point-start.ensures.bound,
      ap length c.deref.ensures.value,
    ) in
    let bound' : count ≤ length (drop start all) =
    omega (arith, c.partition_point-count.ensures.bound, ap length whole) in
    record {
      rising = let rise : (xs : List Link) → xs ≡ drop start all → IsRising link_cmp (take count xs) =
          λ xs e. subst (λ ys. IsRising link_cmp (take count ys)) (sym e)
          (part_rising link_cmp all start count c.self.invariant bound') in rise _ whole;
      all = λ x.
          let is = part_is key nat_list_cmp_total name_ties rest link_total all c.self.invariant one start count bound
          here bound' here' x in
          let same : (xs : List Link) → xs ≡ drop start all → Contains (take count xs) x
          ↔ (Contains all x × (x.app ≡ one)) =
          λ xs e. subst (λ ys. Contains (take count ys) x ↔ (Contains all x × (x.app ≡ one))) (sym e) is in
          rw (← c.self.view_is) (same _ whole);
    }
