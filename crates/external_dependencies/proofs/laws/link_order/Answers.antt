use Rattle.external_dependencies.proofs.LexLemmas.{links_ordered}
use Rattle.external_dependencies.proofs.laws.link_order.Goals as goal

pub returns-clause-order : goal.returns-clause-order
returns-clause-order c = links_ordered
