use Rattle.app_definition_soundness.proofs.SoundAgain.{sound_again}
use Rattle.plan_store.specs.Lists.{listed}
use Rattle.plan_store.proofs.list_store.ListStorePlanStore.rows_to.Goals as goal

pub returns-clause-all : goal.returns-clause-all
returns-clause-all g c honest =
    c.rows_to.ensures.all (sound_again (listed c.args.self.now) c.args.self.now.sound).serials

pub returns-clause-part : goal.returns-clause-part
returns-clause-part g c honest either =
    c.rows_to.ensures.part (sound_again (listed c.args.self.now) c.args.self.now.sound).serials
