use Rattle.std.proofs.Common.{subst, sym}
use Rattle.planner_machine.specs.Sound.{IsSound}
use Rattle.plan_store.proofs.list_store.ListStore.new.Goals as goal

pub returns-clause-sound : goal.returns-clause-sound
returns-clause-sound c = subst IsSound (sym c.new.ensures) c.empty_content_is_sound.ensures
