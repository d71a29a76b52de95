use Rattle.std.proofs.lemmas.Result.{IfOk-weaker}
use Rattle.plan_store.specs.Changes.{lists_after}
use Rattle.plan_store.specs.Views.{shown}
use Rattle.long_term_plan.proofs.OneListLemmas.{loops_pass}
use Rattle.long_term_plan.proofs.lists.loop_of_one.Goals as goal

-- each loop of the new lists passes the application
pub returns-in-Some : goal.returns-in-Some
returns-in-Some c = IfOk-weaker c.loop_through.result _ _ (λ found least all puts none.
    let links = lists_after c.args.new.now (shown c.args.view.now).in_force in
    let passed = rw c.lists_then.ensures at least in
    passed (loops_pass all c.args.app.now (shown c.args.view.now).in_force links puts none)) c.loop_through.ensures

pub returns-in-None : goal.returns-in-None
returns-in-None c all puts none = rw c.in-None.is none
