use Rattle.std.proofs.Common.{◌≡◌, ◌+◌, get_or, subst, arith}
use Rattle.std.specs.declared.cmp.Ordering.TheVariants.{Less}
use Rattle.plan_store_lists.proofs.MergeLemmas.{front_last, halves_below}
use Rattle.plan_store_lists.proofs.search.equal_range.Goals as goal

pub returns-in-Ok-clause-above : goal.returns-in-Ok-clause-above
returns-in-Ok-clause-above g c y there =
    let key = g.T.Keyed.key_of in
    let xs = c.args.list.now in
    let at = c.in-Ok.at in
    let taken = c.in-Ok.ensures.taken in
    subst (λ k. g.T.Key.Ord.cmp k (key y) ≡ Less) (taken.1 y) (halves_below g.met.T.Key.Ord.total g.met.T.Keyed.ties key
    xs c.requires (at + 1) (omega (arith, taken.0)) (get_or xs at y) y (front_last xs at y taken.0) there)
