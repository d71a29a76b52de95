use Rattle.std.proofs.Common.{refl}
use Rattle.plan_store.specs.Contents.{content_of}
use Rattle.plan_store.proofs.WindowLemmas.{on_ok}
use Rattle.plan_store.proofs.QueryLemmas.{asks_naming}
use Rattle.plan_store.proofs.queries.add_naming.Goals as goal

pub returns : goal.returns
returns c =
    let lists = c.args.lists.now in
    on_ok c.add_end_of.result (asks_naming (content_of lists) lists.cp.items lists.cp_rows refl c.args.naming.now
    c.of_app-rows.result.now c.of_app-rows.ensures.all c.args.queries.now.items c.add_waiting.new.queries.items
    c.add_end_of.new.queries.items c.in_ok-add_waiting.ensures) c.add_end_of.ensures
