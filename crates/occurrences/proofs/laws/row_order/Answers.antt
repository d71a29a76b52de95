use Rattle.occurrences.proofs.RowLemmas.{row_cmp_total, row_ranks, row_strict}
use Rattle.occurrences.proofs.laws.row_order.Goals as goal

pub returns-clause-strict : goal.returns-clause-strict
returns-clause-strict c = row_strict

pub returns-clause-total : goal.returns-clause-total
returns-clause-total c = row_cmp_total

pub returns-clause-ranks : goal.returns-clause-ranks
returns-clause-ranks c = row_ranks
