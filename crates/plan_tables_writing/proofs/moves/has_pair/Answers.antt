use Rattle.plan_tables_writing.proofs.moves.has_pair.Goals as goal

pub returns : goal.returns
returns c = c.has_item.ensures
