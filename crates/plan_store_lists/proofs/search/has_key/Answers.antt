use Rattle.std.proofs.Common.{◌∙◌}
use Rattle.plan_store_lists.proofs.KeyLemmas.{has_is}
use Rattle.plan_store_lists.proofs.search.has_key.Goals as goal

pub returns : goal.returns
returns g c keyed =
    let is = c.find.ensures in
    c.is_ok.ensures.value ∙ has_is g.met.T.Key.Ord.total g.met.T.Keyed.ties g.T.Keyed.key_of c.args.list.now
    c.args.key.now c.find.result is.taken (is.free keyed)
