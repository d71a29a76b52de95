use Rattle.app_definitions.proofs.OneBlock.{one_block}
use Rattle.app_definitions.proofs.laws.reads_as_one.Goals as goal

pub returns : goal.returns
returns c = one_block
