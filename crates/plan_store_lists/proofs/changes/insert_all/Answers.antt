use Rattle.std.proofs.Common.{◌≡◌, ◌-◌, ◌≤◌, length, take, drop, sym, inl, inr, rules, arith}
use Rattle.std.specs.List.{Contains}
use Rattle.std.specs.declared.cmp.Ordering.TheVariants.{Less}
use Rattle.plan_store_lists.proofs.MergeLemmas.{between_cases, halves, merges_moved, merged}
use Rattle.plan_store_lists.proofs.changes.insert_all.Goals as goal

pub loop-right-preserved : goal.loop-right-preserved
loop-right-preserved g c =
    let total = g.met.T.Key.Ord.total in
    let ties = g.met.T.Keyed.ties in
    let key = g.T.Keyed.key_of in
    let xs = c.args.list.now.items in
    let ys = c.args.items.now in
    let zs = c.loop-right.list.items in
    let left = c.loop-right.left in
    let right = c.loop-right.right in
    let at = c.range_from_back-at.result.0 in
    let end = c.range_from_back-at.result.1 in
    let p = c.index-items-right.result in
    let m = c.loop-right.invariant in
    let is = c.range_from_back-at.ensures in
    let order = rw (c.deref.ensures.value, m.front) at is.order in
    let below = rw (c.deref.ensures.value, m.front, c.key.ensures) at is.below in
    let equal = rw (c.deref.ensures.value, m.front, c.key.ensures) at is.equal in
    let above = rw (c.deref.ensures.value, m.front, c.key.ensures) at is.above in
    let in_left : at ≤ left = search rules in
    let p_in : Contains ys p = (right - 1, omega (arith, m.right_in), sym c.index-items-right.is) in
    let high : (y : g.row.T.Denot) → Contains (drop at (take left xs)) y → g.T.Key.Ord.cmp (key p) (key y) ≡ Less =
    λ y there. elim (between_cases (take left xs) at end y order.0 order.1 there) [
      | inl between ↦ absurd (c.requires.new p p_in y ((halves xs left y).1 (inl ((halves (take left xs) end y).1
          (inl ((halves (take end (take left xs)) at y).1 (inr between)))))) (equal y between))
      | inr behind ↦ above y behind
    ] in
    let long : length c.move_up.new.list.items ≡ length zs = search rules in
    merges_moved total ties key xs ys zs c.requires.keyed c.requires.sorted c.move_up.new.list.items left right
    (right - 1) at p (omega arith) m c.index-items-right.is in_left below high long c.move_up.ensures.front
    c.move_up.ensures.moved

pub returns-clause-keyed : goal.returns-clause-keyed
returns-clause-keyed g c =
    let none : c.loop-right.right ≡ 0 = omega arith in
    (merged g.met.T.Key.Ord.total g.met.T.Keyed.ties g.T.Keyed.key_of c.args.list.now.items c.args.items.now
    c.loop-right.list.items c.requires.keyed c.requires.sorted c.loop-right.left
    (rw none at c.loop-right.invariant)).0

pub returns-clause-inserted : goal.returns-clause-inserted
returns-clause-inserted g c =
    let none : c.loop-right.right ≡ 0 = omega arith in
    (merged g.met.T.Key.Ord.total g.met.T.Keyed.ties g.T.Keyed.key_of c.args.list.now.items c.args.items.now
    c.loop-right.list.items c.requires.keyed c.requires.sorted c.loop-right.left
    (rw none at c.loop-right.invariant)).1
