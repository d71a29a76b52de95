-- The verdict on a daily plan by days.
use Rattle.std.proofs.Common.{◌≡◌, ◌∙◌, ◌≤◌, ℕ, None, Option, Some, sym, subst, arith}
use Rattle.std.specs.Prelude.{Ok, Err, IfNone, IfOk, IfSome, Result}
use Rattle.app_definitions.specs.declared.definitions.Definitions.{Definitions}
use Rattle.occurrences.specs.Refusal.{refusal_number}
use Rattle.occurrences.specs.declared.refusal.Refusal.{Refusal}
use Rattle.occurrences.specs.declared.refusal.Refusal.TheVariants.{NoPlan, PlanEndOutOfRange}
use Rattle.planner_machine.specs.declared.content.Bounds.{Bounds}
use Rattle.planner_machine.specs.declared.counts.Count.{Count}
use Rattle.planner_machine.specs.Content.{Content}
use Rattle.planner_machine.specs.DailyExtend.{dp_extend}
use Rattle.planner_machine.specs.DailyExtendBy.{DailyExtendByRefused, dp_extend_by}
use Rattle.planner_machine.specs.Decision.{IsLeastRefusal}
use Rattle.planner_machine.specs.Laws.{DailyByIsToEnd}
use Rattle.planner_machine.specs.NewEnd.{IsNewEnd}
use Rattle.plan_store.specs.Changes.{after}
use Rattle.plan_store.specs.Verdicts.{VerdictIs}
use Rattle.plan_store.specs.declared.changes.Verdict.{Verdict}
use Rattle.plan_store.specs.declared.changes.Verdict.TheVariants.{Done, Refused}
use Rattle.daily_planning.specs.DailyPlans.{IsEndBy}

module _ (c : Content) (n : ℕ) (count : Count) where
  -- that of a daily plan to the new end
  pub to_end : DailyByIsToEnd → (t : ℕ) → IsEndBy c n count (Some t) → (verdict : Verdict)
      → VerdictIs (dp_extend t) c verdict → VerdictIs (dp_extend_by n count) c verdict
  to_end law t (b, at, new) (Done change reply) (fits, decides, leads) =
      (fits, (law n count c b t at new (Ok reply) (after change c)).1 decides, leads)
  to_end law t (b, at, new) (Refused refusal) decides = (law n count c b t at new (Err refusal) c).1 decides

  -- a refusal, where nothing is planned
  pub no_plan : c.sets.bounds ≡ None → IsLeastRefusal (DailyExtendByRefused n count c) NoPlan
  no_plan none = (none, least)
    where
      least : (q : Refusal) → DailyExtendByRefused n count c q → 20 ≤ refusal_number q
      least NoPlan h = omega arith
      least PlanEndOutOfRange h = omega arith
      least _ h = absurd h

  -- and where the days give no end
  pub no_end : (b : Bounds) → c.sets.bounds ≡ Some b → IsEndBy c n count None
      → IsLeastRefusal (DailyExtendByRefused n count c) PlanEndOutOfRange
  no_end b at none = ((b, at, λ t new. absurd (none b at t new)), least)
    where
      least : (q : Refusal) → DailyExtendByRefused n count c q → 32 ≤ refusal_number q
      least NoPlan h = absurd (let no : None ≡ Some b = sym h ∙ at in cc)
      least PlanEndOutOfRange h = omega arith
      least _ h = absurd h

-- what the definitions give, over whatever content has them
pub end_is : {E : Type 0} {Has : Content → Type 0} (n : ℕ) (count : Count) (b : Bounds) (all : Definitions)
    (r : Result (Option ℕ) E) → IfOk r (λ end. IfSome end (IsNewEnd all b.plan_end n count))
    → IfOk r (λ end. IfNone end ((t : ℕ) → ¬ (IsNewEnd all b.plan_end n count t)))
    → ((c : Content) → Has c → (c.sets.bounds ≡ Some b) × (all ≡ c.definitions))
    → IfOk r (λ end. (c : Content) → Has c → IsEndBy c n count end)
end_is n count b all (Ok (Some t)) new none has = λ c shows.
    let both = has c shows in
    (b, both.0, subst (λ (x : Definitions). IsNewEnd x b.plan_end n count t) both.1 new)
end_is n count b all (Ok None) new none has = λ c shows b' at t is.
    let both = has c shows in
    let same : b' ≡ b = let e : Some b' ≡ Some b = sym at ∙ both.0 in cc in
    none t (subst (λ (x : Bounds). IsNewEnd all x.plan_end n count t) same
    (subst (λ (x : Definitions). IsNewEnd x b'.plan_end n count t) (sym both.1) is))
end_is n count b all (Err fault) new none has = tt
