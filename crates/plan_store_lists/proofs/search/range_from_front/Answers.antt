use Rattle.std.proofs.Common.{rules, ◌≤◌, arith, length-take-le}
use Rattle.plan_store_lists.proofs.RangeLemmas.{front_below, front_equal, front_above}
use Rattle.plan_store_lists.proofs.search.range_from_front.Goals as goal

pub returns-clause-below : goal.returns-clause-below
returns-clause-below g c =
    let xs = c.args.list.now in
    let order = c.equal_range.ensures.order in
    let long = length-take-le c.loop-end.end xs c.loop-end.invariant.1 in
    let inside : c.equal_range.result.1 ≤ c.loop-end.end = omega (arith, order.1, long) in
    front_below g.met.T.Key.Ord.total g.met.T.Keyed.ties g.T.Keyed.key_of xs c.args.key.now c.loop-end.end
    c.equal_range.result.0 c.equal_range.result.1 c.loop-end.invariant.1 order.0 inside c.equal_range.ensures.below

pub returns-clause-equal : goal.returns-clause-equal
returns-clause-equal g c =
    let xs = c.args.list.now in
    let order = c.equal_range.ensures.order in
    let long = length-take-le c.loop-end.end xs c.loop-end.invariant.1 in
    let inside : c.equal_range.result.1 ≤ c.loop-end.end = omega (arith, order.1, long) in
    front_equal g.met.T.Key.Ord.total g.met.T.Keyed.ties g.T.Keyed.key_of xs c.args.key.now c.loop-end.end
    c.equal_range.result.0 c.equal_range.result.1 c.loop-end.invariant.1 order.0 inside c.equal_range.ensures.equal

pub returns-clause-above : goal.returns-clause-above
returns-clause-above g c =
    let xs = c.args.list.now in
    let order = c.equal_range.ensures.order in
    let long = length-take-le c.loop-end.end xs c.loop-end.invariant.1 in
    let inside : c.equal_range.result.1 ≤ c.loop-end.end = omega (arith, order.1, long) in
    front_above g.met.T.Key.Ord.total g.met.T.Keyed.ties g.T.Keyed.key_of xs c.args.key.now c.loop-end.end
    c.equal_range.result.0 c.equal_range.result.1 c.loop-end.invariant.1 order.0 inside c.equal_range.ensures.above
    (c.loop-end-test.ensures.above (search rules))
