use Rattle.std.proofs.Common.{◌+◌, ◌*◌}
use Rattle.plan_tables_opening.proofs.same_schema.terms.+terms.Given as goal

abbrev pub decreases-is_same_node : goal.decreases-is_same_node
decreases-is_same_node l = 2 * l.depth

abbrev pub decreases-is_same_term : goal.decreases-is_same_term
decreases-is_same_term l = 2 * l.depth + 1
