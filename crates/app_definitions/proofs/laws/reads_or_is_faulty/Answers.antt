use Rattle.app_definitions.proofs.OneBlock.{never_both}
use Rattle.app_definitions.proofs.laws.reads_or_is_faulty.Goals as goal

pub returns : goal.returns
returns c = never_both
