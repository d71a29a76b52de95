use Rattle.std.proofs.Common.{◌≡◌, true, false, rules}
use Rattle.std.specs.List.Sorted.{IsPartitionPoint}
use Rattle.std.specs.Ordering.{is_le}
use Rattle.std.proofs.lemmas.List.Sorted.{IsPartitionPoint-from_clause}
use Rattle.plan_store_lists.proofs.RunLemmas.{groups_rise, one_of_first, rest_of_others, some_of_first}
use Rattle.plan_store_lists.proofs.SliceLemmas.{parted_upto}
use Rattle.plan_store_lists.proofs.blocks.front_group.Given.{Over}
use Rattle.plan_store_lists.proofs.blocks.front_group.Goals as goal

point : (g : Over) (c : goal.After-partition_point-count g) → IsPartitionPoint
    (λ (x : g.row.T.Denot). is_le (g.T.Group.Ord.cmp (g.T.Grouped.group_of x)
    (g.T.Grouped.group_of c.index-items-0.result)) ≡ true)
    (λ (x : g.row.T.Denot). is_le (g.T.Group.Ord.cmp (g.T.Grouped.group_of x)
    (g.T.Grouped.group_of c.index-items-0.result)) ≡ false) c.args.items.now c.partition_point-count.result
point g c =
    let xs = c.args.items.now in
    let m = g.T.Grouped.group_of c.index-items-0.result in
    let f = λ (x : g.row.T.Denot). g.T.Grouped.group_of x in
    IsPartitionPoint-from_clause (λ (x : g.row.T.Denot). is_le (g.T.Group.Ord.cmp (f x) m)) _ _
    c.partition_point-count.ensures.partitioned
    (parted_upto g.met.T.Group.Ord.total f xs m (groups_rise g.met.T.Group.Ord.total g.met.T.Key.Ord.total f
    g.T.Keyed.key_of g.met.T.Grouped.rises xs c.requires.keyed)) (λ a r q k. search rules)

pub returns-clause-some : goal.returns-clause-some
returns-clause-some g c =
    some_of_first g.met.T.Group.Ord.total g.met.T.Key.Ord.total g.T.Grouped.group_of g.T.Keyed.key_of
    g.met.T.Grouped.rises c.args.items.now c.requires.keyed g.met.T.Grouped.group_ties c.index-items-0.result
    c.requires.some c.index-items-0.is c.partition_point-count.result c.partition_point-count.ensures.bound (point g c)

pub returns-clause-one : goal.returns-clause-one
returns-clause-one g c =
    one_of_first g.met.T.Group.Ord.total g.met.T.Key.Ord.total g.T.Grouped.group_of g.T.Keyed.key_of
    g.met.T.Grouped.rises c.args.items.now c.requires.keyed g.met.T.Grouped.group_ties c.index-items-0.result
    c.requires.some c.index-items-0.is c.partition_point-count.result c.partition_point-count.ensures.bound (point g c)

pub returns-clause-rest : goal.returns-clause-rest
returns-clause-rest g c =
    rest_of_others g.met.T.Group.Ord.total g.met.T.Key.Ord.total g.T.Grouped.group_of g.T.Keyed.key_of
    g.met.T.Grouped.rises c.args.items.now c.requires.keyed g.met.T.Grouped.group_ties c.index-items-0.result
    c.requires.some c.index-items-0.is c.partition_point-count.result c.partition_point-count.ensures.bound (point g c)
