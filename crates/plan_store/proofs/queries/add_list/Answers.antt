use Rattle.std.proofs.Common.{◌+◌}
use Rattle.plan_store.proofs.WindowLemmas.{on_ok}
use Rattle.plan_store.proofs.QueryLemmas.{asks_list}
use Rattle.plan_store.proofs.queries.add_list.Goals as goal

pub returns : goal.returns
returns c =
    on_ok c.add_links.result (asks_list c.args.in_force.now.items c.list.result.now c.args.app.now (c.args.moment + 1)
    c.args.queries.now.items c.add_links.new.queries.items c.list.ensures.all) c.add_links.ensures
