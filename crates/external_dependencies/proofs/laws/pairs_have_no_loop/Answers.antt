use Rattle.external_dependencies.proofs.LawLemmas.{none_itself, pairs_without_loop}
use Rattle.external_dependencies.proofs.laws.pairs_have_no_loop.Goals as goal

pub returns-clause-ring : goal.returns-clause-ring
returns-clause-ring c = pairs_without_loop

pub returns-clause-itself : goal.returns-clause-itself
returns-clause-itself c = none_itself
