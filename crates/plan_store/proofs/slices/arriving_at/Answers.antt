use Rattle.std.proofs.Common.{◌≡◌, ◌-◌, ◌≤◌, length, take, drop, true, false, subst, ap, arith, rules, sym}
use Rattle.std.specs.List.Sorted.{IsPartitionedBy, IsPartitionPoint}
use Rattle.std.proofs.lemmas.List.{take_all, length-drop}
use Rattle.std.proofs.lemmas.List.Sorted.{IsPartitionPoint-from_clause}
use Rattle.std.proofs.lemmas.Cmp.{nat_cmp_total}
use Rattle.std.specs.FinMap.{nat_cmp-IsAntisymmetric}
use Rattle.std.specs.Ordering.{nat_cmp, is_lt, is_le}
use Rattle.external_dependencies.specs.Arrival.{arrival_cmp}
use Rattle.external_dependencies.specs.Nearest.{arrival_of}
use Rattle.plan_store_lists.proofs.SliceLemmas.{between, drop_keyed, parted_below, parted_upto, rises_drop, take_keyed}
use Rattle.plan_store.proofs.SliceLemmas.{arrivals_rise}
use Rattle.plan_store.proofs.slices.arriving_at.Goals as goal

pub returns-clause-keyed : goal.returns-clause-keyed
returns-clause-keyed g c keyed =
    let xs = c.args.rows.now in
    let start = c.partition_point-start.result in
    let count = c.partition_point-count.result in
    let key = λ (x : g.row.T.Denot). arrival_of (g.T.PlanRow.row_of x) in
    let whole : take (length xs - start) (drop start xs) ≡ drop start xs = take_all (length xs - start) (drop start xs)
    (omega (arith, length-drop start xs)) in
    let bound : count ≤ length (drop start xs) =
    omega (arith, c.partition_point-count.ensures.bound, ap length whole) in
    rw whole (take_keyed arrival_cmp key (drop start xs) (drop_keyed arrival_cmp key xs keyed start) count bound)

pub returns-clause-all : goal.returns-clause-all
returns-clause-all g c keyed one =
    let xs = c.args.rows.now in
    let m = c.args.moment in
    let start = c.partition_point-start.result in
    let count = c.partition_point-count.result in
    let f = λ (x : g.row.T.Denot). (g.T.PlanRow.row_of x).key.ia in
    let below = λ (x : g.row.T.Denot). is_lt (nat_cmp (f x) m) in
    let upto = λ (x : g.row.T.Denot). is_le (nat_cmp (f x) m) in
    let whole : take (length xs - start) (drop start xs) ≡ drop start xs = take_all (length xs - start) (drop start xs)
    (omega (arith, length-drop start xs)) in
    let rises = arrivals_rise g.T.PlanRow.row_of xs keyed one in
    let parted' : IsPartitionedBy upto (take (length xs - start) (drop start xs)) = subst (IsPartitionedBy upto)
    (sym whole) (parted_upto nat_cmp_total f (drop start xs) m (rises_drop nat_cmp_total f xs start rises)) in
    let point = IsPartitionPoint-from_clause below _ _ c.partition_point-start.ensures.partitioned
    (parted_below nat_cmp_total f xs m rises) (λ a r q k. search rules) in
    let point' = IsPartitionPoint-from_clause upto _ _ c.partition_point-count.ensures.partitioned parted'
    (λ a r q k. search rules) in
    let here' : IsPartitionPoint (λ l. upto l ≡ true) (λ l. upto l ≡ false) (drop start xs) count =
    subst (λ ls. IsPartitionPoint (λ l. upto l ≡ true) (λ l. upto l ≡ false) ls count) whole point' in
    let bound : count ≤ length (drop start xs) =
    omega (arith, c.partition_point-count.ensures.bound, ap length whole) in
    rw whole (between nat_cmp_total f nat_cmp-IsAntisymmetric xs m start count c.partition_point-start.ensures.bound
    point bound here')
