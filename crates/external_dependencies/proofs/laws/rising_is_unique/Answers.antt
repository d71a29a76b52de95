use Rattle.external_dependencies.specs.Arrival.{arrival_cmp}
use Rattle.external_dependencies.specs.Link.{link_cmp}
use Rattle.external_dependencies.specs.Pair.{pair_cmp}
use Rattle.external_dependencies.proofs.LexLemmas.{arrival_total, link_total, pair_total}
use Rattle.external_dependencies.proofs.RisingLemmas.{rising_unique}
use Rattle.external_dependencies.proofs.laws.rising_is_unique.Goals as goal

pub returns-clause-pairs : goal.returns-clause-pairs
returns-clause-pairs c = rising_unique pair_cmp pair_total

pub returns-clause-links : goal.returns-clause-links
returns-clause-links c = rising_unique link_cmp link_total

pub returns-clause-arrivals : goal.returns-clause-arrivals
returns-clause-arrivals c = rising_unique arrival_cmp arrival_total
