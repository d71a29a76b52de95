use Rattle.plan_store.proofs.LastLemmas.{has_asked}
use Rattle.plan_store.proofs.contents.Content.fill_for.Goals as goal

pub returns-clause-filled : goal.returns-clause-filled
returns-clause-filled c =
    has_asked c.args.need.now _ _ _ c.fill_lasts.result c.in_ok-queries.ensures.found
    c.in_ok-queries.ensures.only c.key_of-self.ensures c.fill_lasts.ensures.rows
    (rw c.deref.ensures.value at c.fill_lasts.ensures.lasts)
