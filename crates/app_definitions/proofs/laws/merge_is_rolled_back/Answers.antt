use Rattle.app_definitions.proofs.RolledBack.{merge_taken_back}
use Rattle.app_definitions.proofs.laws.merge_is_rolled_back.Goals as goal

pub returns : goal.returns
returns c = merge_taken_back
