use Rattle.std.proofs.Common.{◌≡◌, ◌∙◌, true, sym, ap}
use Rattle.std.specs.Ordering.{is_ge}
use Rattle.plan_store_lists.proofs.RangeLemmas.{above_end}
use Rattle.plan_store_lists.proofs.search.ends_range.Goals as goal

pub returns-else-end-list-clause-above : goal.returns-else-end-list-clause-above
returns-else-end-list-clause-above g c past y there =
    let q = c.index-list-end.result in
    let is : is_ge (g.T.Key.Ord.cmp (g.T.Keyed.key_of q) c.args.key.now) ≡ true = ap
    (λ a. is_ge (g.T.Key.Ord.cmp a c.args.key.now)) (sym c.key.ensures) ∙ ap is_ge (sym c.cmp.ensures)
    ∙ sym c.is_ge.ensures ∙ past in
    above_end g.met.T.Key.Ord.total g.met.T.Keyed.ties g.T.Keyed.key_of c.args.list.now c.args.key.now c.requires.keyed
    c.args.end q y c.requires.within.0 c.requires.within.1 c.index-list-end.is is there
