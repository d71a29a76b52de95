use Rattle.std.proofs.Common.{◌≡◌, ◌∙◌, ◌+◌, ◌-◌, length, take, drop, take_all, length-drop, subst, rules, arith}
use Rattle.std.specs.List.{filter}
use Rattle.plan_store_lists.proofs.EditLemmas.{stays_beside, rest_keyed, rest_contains}
use Rattle.plan_store_lists.proofs.ThinLemmas.{Thinning, thins, thinned}
use Rattle.plan_store_lists.proofs.changes.remove_all.Goals as goal

pub loop-item-preserved : goal.loop-item-preserved
loop-item-preserved g c =
    let m = c.loop-item.invariant.thinning in
    let is = c.range_from_front-below.ensures in
    let xs = c.args.list.now.items in
    let zs = c.loop-item.list.items in
    let rest = c.loop-item.rest in
    let tail : take (length zs - rest) (drop rest xs) ≡ drop rest xs = take_all (length zs - rest) (drop rest xs)
    (omega (arith, length-drop rest xs, m.same_length)) in
    let order = rw (c.deref.ensures.value, m.rest, tail) at is.order in
    let below = rw (c.deref.ensures.value, m.rest, tail, c.key.ensures) at is.below in
    let equal = rw (c.deref.ensures.value, m.rest, tail, c.key.ensures) at is.equal in
    let above = rw (c.deref.ensures.value, m.rest, tail, c.key.ensures) at is.above in
    let long : length c.move_down.new.list.items ≡ length zs = search rules in
    record {
      capacity = c.move_down.ensures.capacity ∙ c.loop-item.invariant.capacity;
      thinning = thins g.met.T.Key.Ord.total g.met.T.Keyed.ties g.T.Keyed.key_of xs c.args.items.now zs c.requires.sorted c.move_down.new.list.items c.loop-item.kept
          c.loop-item.rest c.loop-item.item-index c.range_from_front-below.result.0 c.range_from_front-below.result.1
          c.item-item.result m c.loop-item-test.true c.item-item.is order.0 order.1
          below equal above long c.move_down.ensures.moved c.move_down.ensures.rest;
    }

pub returns-clause-keyed : goal.returns-clause-keyed
returns-clause-keyed g c =
    let total = g.met.T.Key.Ord.total in
    let ties = g.met.T.Keyed.ties in
    let key = g.T.Keyed.key_of in
    let xs = c.args.list.now.items in
    let ys = c.args.items.now in
    let rest = c.loop-item.rest in
    let all : c.loop-item.item-index ≡ length ys = search rules in
    let whole : rest + (c.len.result - rest) ≡ length c.loop-item.list.items = search rules in
    let is : c.truncate.new.self.items ≡ filter (stays_beside total ties key ys) xs = c.truncate.ensures.items
    ∙ thinned total ties key xs ys c.loop-item.list.items c.requires.sorted c.move_down-2.new.list.items
    c.loop-item.kept rest (c.len.result - rest)
    (subst (Thinning total ties key xs ys c.loop-item.list.items c.loop-item.kept rest) all
    c.loop-item.invariant.thinning) whole c.move_down-2.ensures.moved in
    rw is (rest_keyed total ties key ys xs c.requires.keyed)

pub returns-clause-removed : goal.returns-clause-removed
returns-clause-removed g c x =
    let total = g.met.T.Key.Ord.total in
    let ties = g.met.T.Keyed.ties in
    let key = g.T.Keyed.key_of in
    let xs = c.args.list.now.items in
    let ys = c.args.items.now in
    let rest = c.loop-item.rest in
    let all : c.loop-item.item-index ≡ length ys = search rules in
    let whole : rest + (c.len.result - rest) ≡ length c.loop-item.list.items = search rules in
    let is : c.truncate.new.self.items ≡ filter (stays_beside total ties key ys) xs = c.truncate.ensures.items
    ∙ thinned total ties key xs ys c.loop-item.list.items c.requires.sorted c.move_down-2.new.list.items
    c.loop-item.kept rest (c.len.result - rest)
    (subst (Thinning total ties key xs ys c.loop-item.list.items c.loop-item.kept rest) all
    c.loop-item.invariant.thinning) whole c.move_down-2.ensures.moved in
    rw is (rest_contains total ties key ys xs x)
