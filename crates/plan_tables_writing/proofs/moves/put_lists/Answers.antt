use Rattle.plan_tables_writing.proofs.moves.put_lists.Goals as goal

pub returns-in-All : goal.returns-in-All
returns-in-All g c = rw c.in-All.is c.replace_lists.ensures

pub returns-in-One : goal.returns-in-One
returns-in-One g c = rw c.in-One.is c.replace_list.ensures
