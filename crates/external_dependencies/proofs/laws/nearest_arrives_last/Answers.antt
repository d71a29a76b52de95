use Rattle.external_dependencies.proofs.LawLemmas.{nearest_last}
use Rattle.external_dependencies.proofs.laws.nearest_arrives_last.Goals as goal

pub returns : goal.returns
returns c = nearest_last
