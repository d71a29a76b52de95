use Rattle.std.proofs.Common.{refl}
use Rattle.plan_store.proofs.contents.Content.window_of_lasts.Goals as goal

pub returns-clause-shown : goal.returns-clause-shown
returns-clause-shown c =
    refl
