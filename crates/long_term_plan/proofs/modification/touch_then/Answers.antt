use Rattle.std.proofs.Common.{List, ℕ, subst}
use Rattle.std.specs.List.{Contains}
use Rattle.std.proofs.lemmas.Result.{IfOk-weaker}
use Rattle.plan_store.specs.Views.{shown}
use Rattle.plan_store_pairs.proofs.ListLemmas.{none}
use Rattle.long_term_plan.proofs.modification.touch_then.Goals as goal

pub returns-in-Some-clause-touched : goal.returns-in-Some-clause-touched
returns-in-Some-clause-touched c =
    IfOk-weaker c.touch_with.result _ _ (λ touch told. rw c.in-Some.is told) c.touch_with.ensures.touched

pub returns-in-Some-clause-lists : goal.returns-in-Some-clause-lists
returns-in-Some-clause-lists c = IfOk-weaker c.touch_with.result _ _ (λ touch told only of_new.
    told only (rw c.in-Some.is at of_new)) c.touch_with.ensures.lists

pub returns-in-None-clause-touched : goal.returns-in-None-clause-touched
returns-in-None-clause-touched c = IfOk-weaker c.touch_of_rows.result _ _ (λ touch told.
    rw c.in-None.is (told (shown c.args.view.now).in_force)) c.touch_of_rows.ensures.touched

pub returns-in-None-clause-lists : goal.returns-in-None-clause-lists
returns-in-None-clause-lists c = IfOk-weaker c.touch_of_rows.result _ _ (λ touch empty only of_new app there.
    absurd (none app (subst (λ (l : List (List ℕ)). Contains l app) empty there))) c.touch_of_rows.ensures.lists
