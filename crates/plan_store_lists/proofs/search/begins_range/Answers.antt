use Rattle.std.proofs.Common.{◌≡◌, ◌∙◌, true, sym, ap}
use Rattle.std.specs.Ordering.{is_le}
use Rattle.plan_store_lists.proofs.RangeLemmas.{below_start}
use Rattle.plan_store_lists.proofs.search.begins_range.Goals as goal

pub returns-else-start-eq0-clause-below : goal.returns-else-start-eq0-clause-below
returns-else-start-eq0-clause-below g c past y there =
    let q = c.index-list-start.result in
    let is : is_le (g.T.Key.Ord.cmp (g.T.Keyed.key_of q) c.args.key.now) ≡ true = ap
    (λ a. is_le (g.T.Key.Ord.cmp a c.args.key.now)) (sym c.key.ensures) ∙ ap is_le (sym c.cmp.ensures)
    ∙ sym c.is_le.ensures ∙ past in
    below_start g.met.T.Key.Ord.total g.met.T.Keyed.ties g.T.Keyed.key_of c.args.list.now c.args.key.now
    c.requires.keyed c.args.start q y c.requires.within c.index-list-start.is is there
