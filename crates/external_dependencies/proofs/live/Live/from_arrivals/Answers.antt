use Rattle.external_dependencies.proofs.NearestLemmas.{arrival_ties}
use Rattle.external_dependencies.proofs.live.Live.from_arrivals.Goals as goal

pub into_rising-requires : goal.into_rising-requires
into_rising-requires c = arrival_ties
