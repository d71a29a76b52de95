use Rattle.external_dependencies.proofs.LexLemmas.{arrivals_ordered}
use Rattle.external_dependencies.proofs.laws.arrival_order.Goals as goal

pub returns-clause-order : goal.returns-clause-order
returns-clause-order c = arrivals_ordered
