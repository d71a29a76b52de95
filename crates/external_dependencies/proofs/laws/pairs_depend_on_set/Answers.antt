use Rattle.external_dependencies.proofs.LawLemmas.{pairs_on_set}
use Rattle.external_dependencies.proofs.laws.pairs_depend_on_set.Goals as goal

pub returns : goal.returns
returns c = pairs_on_set
