use Rattle.external_dependencies.proofs.LawLemmas.{nearest_unique}
use Rattle.external_dependencies.proofs.laws.nearest_is_unique.Goals as goal

pub returns : goal.returns
returns c = nearest_unique
