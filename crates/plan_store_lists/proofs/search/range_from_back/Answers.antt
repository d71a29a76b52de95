use Rattle.std.proofs.Common.{rules, ◌≡◌, ◌-◌, length, take, drop, take_all, length-drop, arith}
use Rattle.plan_store_lists.proofs.RangeLemmas.{back_below, back_equal, back_above}
use Rattle.plan_store_lists.proofs.search.range_from_back.Goals as goal

pub returns-clause-below : goal.returns-clause-below
returns-clause-below g c =
    let xs = c.args.list.now in
    let start = c.loop-start.start in
    let tail : take (length xs - start) (drop start xs) ≡ drop start xs = take_all (length xs - start) (drop start xs)
    (omega (arith, length-drop start xs)) in
    back_below g.met.T.Key.Ord.total g.met.T.Keyed.ties g.T.Keyed.key_of xs c.args.key.now start
    c.equal_range-below.result.0 c.equal_range-below.result.1 (c.loop-start-test.ensures.below (search rules))
    (rw tail at c.equal_range-below.ensures.below)

pub returns-clause-equal : goal.returns-clause-equal
returns-clause-equal g c =
    let xs = c.args.list.now in
    let start = c.loop-start.start in
    let tail : take (length xs - start) (drop start xs) ≡ drop start xs = take_all (length xs - start) (drop start xs)
    (omega (arith, length-drop start xs)) in
    back_equal g.met.T.Key.Ord.total g.met.T.Keyed.ties g.T.Keyed.key_of xs c.args.key.now start
    c.equal_range-below.result.0 c.equal_range-below.result.1 (rw tail at c.equal_range-below.ensures.equal)

pub returns-clause-above : goal.returns-clause-above
returns-clause-above g c =
    let xs = c.args.list.now in
    let start = c.loop-start.start in
    let tail : take (length xs - start) (drop start xs) ≡ drop start xs = take_all (length xs - start) (drop start xs)
    (omega (arith, length-drop start xs)) in
    back_above g.met.T.Key.Ord.total g.met.T.Keyed.ties g.T.Keyed.key_of xs c.args.key.now start
    c.equal_range-below.result.0 c.equal_range-below.result.1 (rw tail at c.equal_range-below.ensures.above)
