use Rattle.std.proofs.Common.{List, ℕ, subst}
use Rattle.std.specs.List.{Contains}
use Rattle.std.proofs.lemmas.Result.{IfOk-weaker}
use Rattle.plan_store.specs.Views.{shown}
use Rattle.long_term_plan.proofs.ReachingLemmas.{all_lists, one_list}
use Rattle.long_term_plan.proofs.modification.touch_with.Goals as goal

pub returns-in-All-clause-touched : goal.returns-in-All-clause-touched
returns-in-All-clause-touched c = IfOk-weaker c.touch_of.result _ _ (λ touch told.
    rw c.in-All.is (rw c.in_force.ensures at told)) c.touch_of.ensures

pub returns-in-All-clause-lists : goal.returns-in-All-clause-lists
returns-in-All-clause-lists c = IfOk-weaker c.touch_of.result _ _ (λ touch told only of_new app there.
    all_lists only c.in-All.lists (rw c.in-All.is at of_new) app) c.touch_of.ensures

pub returns-in-One-clause-touched : goal.returns-in-One-clause-touched
returns-in-One-clause-touched c = IfOk-weaker c.touch_of_list.result _ _ (λ touch told.
    rw c.in-One.is (told c.in-One.list.links.items (shown c.args.view.now).in_force c.in-One.list.own))
    c.touch_of_list.ensures.touched

pub returns-in-One-clause-lists : goal.returns-in-One-clause-lists
returns-in-One-clause-lists c = IfOk-weaker c.touch_of_list.result _ _ (λ touch named only of_new app there.
    one_list only c.in-One.list (rw c.in-One.is at of_new) app
    (subst (λ (l : List (List ℕ)). Contains l app) named there)) c.touch_of_list.ensures.lists
