use Rattle.std.proofs.Common.{◌≡◌, ◌↔◌, List, subst}
use Rattle.std.specs.List.{Contains}
use Rattle.external_dependencies.specs.declared.live.Arrival.{Arrival}
use Rattle.plan_store_lists.proofs.arrival_blocks.ArrivalBlocks.of_app.Goals as goal

pub returns-clause-all : goal.returns-clause-all
returns-clause-all c arrival =
    subst (λ (l : List Arrival). Contains c.of_group.result.now arrival
    ↔ (Contains l arrival × (arrival.app ≡ c.args.app.now))) c.self.view_is (c.of_group.ensures.all arrival)
