use Rattle.plan_files.proofs.LifeLemmas.{lived}
use Rattle.plan_files.proofs.life.plan_life.Goals as goal

pub returns : goal.returns
returns c = lived c.empty_content_is_sound.ensures c.streams.ensures.sound c.streams.ensures.by_fate
