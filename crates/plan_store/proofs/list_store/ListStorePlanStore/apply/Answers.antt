use Rattle.std.proofs.Common.{◌≡◌, Err, Ok, Result, subst, sym}
use Rattle.std.specs.Prelude.{OnErr, OnOk}
use Rattle.planner_machine.specs.Content.{Content}
use Rattle.planner_machine.specs.Sound.{IsSound}
use Rattle.plan_store.proofs.list_store.ListStorePlanStore.apply.Goals as goal

-- what is made is sound, and what is not stays so
still_sound : {A E : Type 0} (r : Result A E) (old new made : Content) → OnOk r (new ≡ made) → OnErr r (new ≡ old)
    → IsSound made → ∥ IsSound old ∥₁ → ∥ IsSound new ∥₁
still_sound (Ok done) old new made is same sound was = ∣ subst IsSound (sym is) sound ∣₁
still_sound (Err fault) old new made is same sound was = subst (λ (c : Content). ∥ IsSound c ∥₁) (sym same) was

pub invariant_of-self : goal.invariant_of-self
invariant_of-self c = record {
  sound = still_sound c.apply.result _ _ _ c.apply.ensures.ok c.apply.ensures.err (c.requires.sound tt) c.args.self.now.sound;
}
