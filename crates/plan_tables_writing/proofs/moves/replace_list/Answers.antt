use Rattle.plan_tables_writing.proofs.OneListLemmas.{writes_list}
use Rattle.plan_tables_writing.proofs.moves.replace_list.Goals as goal

pub returns : goal.returns
returns g c = writes_list c.args.old.now.items c.args.list.now c.rise.ensures c.list.result.now c.list.ensures.rising
    c.list.ensures.all g.S.Store c.args.tx.now c.replace_links.new.tx c.replace_links.result
    (rw c.as_slice.ensures.value at c.replace_links.ensures)
