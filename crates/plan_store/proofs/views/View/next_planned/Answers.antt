use Rattle.std.proofs.Common.{refl}
use Rattle.plan_store.specs.Views.{shown}
use Rattle.plan_store.proofs.views.View.next_planned.Goals as goal

pub returns : goal.returns
returns c = c.next_planned.ensures (shown c.args.self.now).sets refl refl
