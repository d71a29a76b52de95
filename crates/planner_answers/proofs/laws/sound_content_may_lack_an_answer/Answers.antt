use Rattle.planner_answers.proofs.NamedTwice.{lacks_answer}
use Rattle.planner_answers.proofs.laws.sound_content_may_lack_an_answer.Goals as goal

pub returns : goal.returns
returns c = lacks_answer c.empty_content_is_sound.ensures
