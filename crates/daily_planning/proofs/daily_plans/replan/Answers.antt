use Rattle.std.proofs.Common.{◌≡◌, ◌∙◌, None, Some, sym}
use Rattle.occurrences.specs.declared.refusal.Refusal.{Refusal}
use Rattle.occurrences.specs.declared.refusal.Refusal.TheVariants.{NoPlan}
use Rattle.planner_machine.specs.Content.{Content}
use Rattle.planner_machine.specs.Replan.{ReplanRefused}
use Rattle.planner_machine.specs.declared.content.Bounds.{Bounds}
use Rattle.daily_planning.specs.DailyPlans.{plan_end_of}
use Rattle.daily_planning.proofs.DailyWindowLemmas.{need_bounds, replan_shows}
use Rattle.daily_planning.proofs.daily_plans.replan.Goals as goal

-- nothing refuses it where there is a plan
never_refused : (c : Content) (b : Bounds) → c.sets.bounds ≡ Some b → (q : Refusal) → ReplanRefused c q → ⊥
never_refused c b at NoPlan none = let no : None ≡ Some b = sym none ∙ at in cc
never_refused c b at _ h = absurd h

pub returns : goal.returns
returns c c' shows sound =
    let view = c.args.view.now in
    let b = c.in-Some.bounds in
    let at : c'.sets.bounds ≡ Some b =
    sym (need_bounds view c' (plan_end_of c'.sets.bounds) shows) ∙ (sym c.bounds.ensures ∙ c.in-Some.is) in
    let does = c.in_ok-change.ensures c' (replan_shows view c' b at shows) sound at in
    let changes = does.1 in (
      does.0,
      (
        never_refused c' b at,
        record {
          rows = (b, at, changes.rows);
          lists = changes.lists;
          pairs = changes.pairs;
          definitions = changes.definitions;
          jobs = changes.jobs;
        },
      ),
      does.2,
    )
