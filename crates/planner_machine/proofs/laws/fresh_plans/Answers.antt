use Rattle.planner_machine.proofs.FreshLemmas.{fresh_exact}
use Rattle.planner_machine.proofs.FreshStepLemmas.{stays_fresh}
use Rattle.planner_machine.proofs.statements.Create.{create_fresh}
use Rattle.planner_machine.proofs.statements.ModifyAll.{modify_all_fresh}
use Rattle.planner_machine.proofs.laws.fresh_plans.Goals as goal

pub returns : goal.returns
returns c = record { create = create_fresh; modify = modify_all_fresh; streams = stays_fresh; exact = fresh_exact }
