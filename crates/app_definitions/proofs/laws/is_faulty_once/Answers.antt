use Rattle.app_definitions.proofs.OneBlock.{one_fault}
use Rattle.app_definitions.proofs.laws.is_faulty_once.Goals as goal

pub returns : goal.returns
returns c = one_fault
