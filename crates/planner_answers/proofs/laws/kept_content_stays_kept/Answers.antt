use Rattle.planner_answers.proofs.Kept.{nothing_kept, stays_kept}
use Rattle.planner_answers.proofs.laws.kept_content_stays_kept.Goals as goal

pub returns : goal.returns
returns c = record {
  empty = nothing_kept c.empty_content_is_sound.ensures;
  statements = stays_kept c.streams.ensures.sound;
}
