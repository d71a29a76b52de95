use Rattle.external_dependencies.proofs.PairLemmas.{pair_ties}
use Rattle.external_dependencies.proofs.pairs.Pairs.from_vec.Goals as goal

pub into_rising-requires : goal.into_rising-requires
into_rising-requires c = pair_ties
