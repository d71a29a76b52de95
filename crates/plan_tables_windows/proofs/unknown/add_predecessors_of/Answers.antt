use Rattle.plan_store.specs.Contents.{content_of}
use Rattle.plan_store.proofs.WindowLemmas.{on_ok}
use Rattle.plan_tables_windows.specs.Unknown.{is_settled}
use Rattle.plan_tables_windows.proofs.UnknownLemmas.{adds_of_successor}
use Rattle.plan_tables_windows.proofs.unknown.add_predecessors_of.Goals as goal

pub returns : goal.returns
returns c =
    let content = content_of c.args.lists.now in
    on_ok c.add_predecessors.result (adds_of_successor (is_settled content.sets) content c.args.successor
    c.of_successor.result.now c.args.serials.now.items c.add_predecessors.new.serials.items c.of_successor.ensures.all)
    c.add_predecessors.ensures
