use Rattle.external_dependencies.proofs.LexLemmas.{pairs_ordered}
use Rattle.external_dependencies.proofs.laws.pair_order.Goals as goal

pub returns-clause-order : goal.returns-clause-order
returns-clause-order c = pairs_ordered
