use Rattle.app_definition_soundness.proofs.SoundAgain.{sound_again}
use Rattle.plan_store.specs.Lists.{listed}
use Rattle.plan_store.proofs.WindowLemmas.{shows_sound}
use Rattle.plan_store.proofs.list_store.ListStore.filled_window.Goals as goal

pub returns : goal.returns
returns c =
    let store = c.args.self.now in
    shows_sound c.args.need.now c.window.result (listed store) (sound_again (listed store) store.sound) c.window.ensures.shows
