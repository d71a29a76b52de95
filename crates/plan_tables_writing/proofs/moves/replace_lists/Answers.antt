use Rattle.plan_tables_writing.proofs.moves.replace_lists.Goals as goal

pub returns : goal.returns
returns g c = rw (c.as_slice.ensures.all, c.as_slice-2.ensures.all, c.in_ok-before.ensures, c.in_ok-after.ensures)
    at c.replace_links.ensures
