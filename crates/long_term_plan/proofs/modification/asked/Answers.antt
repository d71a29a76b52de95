use Rattle.std.proofs.Common.{ℕ, List, sym, subst, Option, Result, Ok, Err}
use Rattle.std.specs.Prelude.{IfOk}
use Rattle.long_term_plan.specs.Modifying.{AreAsked}
use Rattle.long_term_plan.proofs.ModifyPlanLemmas.{asked_all}
use Rattle.long_term_plan.proofs.modification.asked.Goals as goal

weaker : {A E : Type 0} (r : Result A E) (P Q : A → Type 0) → ((a : A) → P a → Q a) → IfOk r P → IfOk r Q
weaker (Ok a) P Q f is = f a is
weaker (Err e) P Q f is = tt

pub returns-in-None : goal.returns-in-None
returns-in-None c = weaker c.names.result _ _ (λ apps are.
    subst (λ (only : Option (List ℕ)). AreAsked c.args.all.now only apps.items) (sym c.in-None.is)
    (asked_all c.args.all.now apps.items are)) c.names.ensures
