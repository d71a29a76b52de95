use Rattle.std.proofs.Common.{ltb, rules}
use Rattle.std.proofs.lemmas.Bool.{ltb-true, lt-ltb}
use Rattle.std.proofs.lemmas.List.Sorted.{IsPartitionPoint-from_clause}
use Rattle.external_dependencies.specs.Arrival.{arrival_cmp}
use Rattle.external_dependencies.specs.Nearest.{arrival_of}
use Rattle.plan_store_lists.proofs.SliceLemmas.{front, parted_before, take_keyed}
use Rattle.plan_store.proofs.SliceLemmas.{arrivals_rise, filter_front}
use Rattle.plan_store.proofs.slices.before.Goals as goal

pub returns-clause-keyed : goal.returns-clause-keyed
returns-clause-keyed g c keyed =
    take_keyed arrival_cmp (λ (x : g.row.T.Denot). arrival_of (g.T.PlanRow.row_of x)) c.args.rows.now keyed
    c.partition_point-count.result c.partition_point-count.ensures.bound

pub returns-clause-all : goal.returns-clause-all
returns-clause-all g c keyed one x =
    let xs = c.args.rows.now in
    let m = c.args.minute in
    let f = λ (y : g.row.T.Denot). (g.T.PlanRow.row_of y).key.ia in
    let below = λ (y : g.row.T.Denot). ltb (f y) m in
    let rises = arrivals_rise g.T.PlanRow.row_of xs keyed one in
    let point = IsPartitionPoint-from_clause below _ _ c.partition_point-count.ensures.partitioned
    (parted_before f xs m rises) (λ a r q k. search rules) in
    let is = front xs below c.partition_point-count.result c.partition_point-count.ensures.bound point x in (
      (λ there. let both = is.0 there in (both.0, ltb-true (f x) m both.1)),
      λ both. is.1
          (both.0, lt-ltb (f x) m both.1),
    )

pub returns-clause-value : goal.returns-clause-value
returns-clause-value g c keyed one =
    let xs = c.args.rows.now in
    let m = c.args.minute in
    let f = λ (y : g.row.T.Denot). (g.T.PlanRow.row_of y).key.ia in
    let below = λ (y : g.row.T.Denot). ltb (f y) m in
    let rises = arrivals_rise g.T.PlanRow.row_of xs keyed one in
    let point = IsPartitionPoint-from_clause below _ _ c.partition_point-count.ensures.partitioned
    (parted_before f xs m rises) (λ a r q k. search rules) in
    filter_front below xs c.partition_point-count.result c.partition_point-count.ensures.bound point
