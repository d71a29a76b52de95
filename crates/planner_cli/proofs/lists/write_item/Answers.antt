use Rattle.planner_cli.proofs.StoreLemmas.{on_err}
use Rattle.planner_cli.proofs.lists.write_item.Goals as goal

pub returns-in-Plan-clause-front : goal.returns-in-Plan-clause-front
returns-in-Plan-clause-front g c =
    rw c.in-Plan.is (on_err c.write_line.result _ _ (λ h. (c.row_line.result, c.row_line.ensures, h))
    c.write_line.ensures.front)

pub returns-in-Marked-clause-front : goal.returns-in-Marked-clause-front
returns-in-Marked-clause-front g c =
    rw c.in-Marked.is (on_err c.write_line-in-Marked.result _ _ (λ h. (c.marked_line.result, c.marked_line.ensures, h))
    c.write_line-in-Marked.ensures.front)

pub returns-in-Pair-clause-front : goal.returns-in-Pair-clause-front
returns-in-Pair-clause-front g c =
    rw c.in-Pair.is (on_err c.write_line-in-Pair.result _ _ (λ h. (c.pair_line.result, c.pair_line.ensures, h))
    c.write_line-in-Pair.ensures.front)

pub returns-in-Link-clause-front : goal.returns-in-Link-clause-front
returns-in-Link-clause-front g c =
    rw c.in-Link.is (on_err c.write_line-in-Link.result _ _ (λ h. (c.link_line.result, c.link_line.ensures, h))
    c.write_line-in-Link.ensures.front)
