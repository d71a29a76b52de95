use Rattle.planner_machine.proofs.EmptyLemmas.{nothing_sound}
use Rattle.planner_machine.proofs.laws.empty_content_is_sound.Goals as goal

pub returns : goal.returns
returns c = nothing_sound
