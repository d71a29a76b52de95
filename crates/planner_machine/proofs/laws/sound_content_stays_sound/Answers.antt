use Rattle.planner_machine.proofs.ChangeLemmas.{change_sound}
use Rattle.planner_machine.proofs.laws.sound_content_stays_sound.Goals as goal

pub returns : goal.returns
returns c = change_sound
