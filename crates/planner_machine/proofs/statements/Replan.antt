-- The laws of `dp-replan`.
use Rattle.std.proofs.Common.{None, Option, Some, [], ap, arith, refl, subst, sym, ◌∙◌, ◌≡◌}
use Rattle.occurrences.specs.declared.place.Place.TheVariants.{LongTerm}
use Rattle.planner_machine.specs.DailyPlan.{daily, daily_reply}
use Rattle.planner_machine.specs.Fate.{DailyFate}
use Rattle.planner_machine.specs.InForce.{PutsNone}
use Rattle.planner_machine.specs.Laws.{Follows}
use Rattle.planner_machine.specs.Replan.{Replans, replan_fate, replan_means}
use Rattle.planner_machine.specs.declared.content.Bounds.{Bounds}
use Rattle.planner_machine.proofs.AssembleLemmas.{stays_sound}
use Rattle.planner_machine.proofs.DetailLemmas.{plain}
use Rattle.planner_machine.proofs.FollowLemmas.{FateKeeps, daily_keeps, stays_keeps}
use Rattle.planner_machine.proofs.FreshPlansLemmas.{one_bounds, planned_follows, planned_fresh}
use Rattle.planner_machine.proofs.Lawful.{Lawful}
use Rattle.planner_machine.proofs.LinkLemmas.{none_is_one}
use Rattle.planner_machine.proofs.OwesLemmas.{daily_owes}
use Rattle.planner_machine.proofs.PlansLemmas.{MakesOne, moved_kept, plans_do_one, stays_once}

replan_does_one : MakesOne Replans
replan_does_one all s reply reply' s' s'' sound (b, is, r) (b', is', r') =
    let whole : Some b ≡ Some b' = sym is ∙ is' in let same : b ≡ b' = cc in (
      r.0 ∙ ap (λ (x : Bounds). daily_reply x.plan_end s) same ∙ sym r'.0,
      r.1
          ∙ ap (λ (x : Bounds). daily x.plan_end s) same ∙ sym r'.1,
    )

replan_keeps : (bounds : Option Bounds) → FateKeeps (replan_fate bounds)
replan_keeps None = stays_keeps
replan_keeps (Some b) = daily_keeps b.plan_end

pub replan_lawful : Lawful replan_means
replan_lawful = record {
  does_one = plans_do_one Replans PutsNone replan_does_one none_is_one;
  details = λ c sound. plain _ (λ h. h) (λ n h. h) (λ h. h) (λ a h. h) (λ a h. h) (λ a h. h) (λ n h. h);
  follows = λ c reply c' sound d. let (b, is, rows) = d.1.rows in (
    [],
    refl,
    subst (λ (o : Option Bounds). Follows LongTerm (replan_fate o) [] c.sets c'.sets) (sym is)
        (planned_follows b.plan_end c c' sound rows.1),
  );
  keeps = λ all. replan_keeps;
  sound = λ fine c reply c' sound none d. let (b, is, rows) = d.rows in
      stays_sound LongTerm (DailyFate b.plan_end) _ c c' sound
      (daily_owes Replans b.plan_end b c c' reply sound is (omega arith)
      (sound.bounds.after b is).ended rows.1 d);
  jobs = λ c reply c' d. d.jobs;
  once = λ c reply c' d. stays_once c c' d.lists;
  replies = λ fine c reply c' sound sound' d. let (b, is, rows) = d.rows in
      moved_kept b.plan_end c sound reply rows.0;
  fresh = λ leaves c reply c' sound sound' d fresh.
      let (b, is, rows) = d.1.rows in
      let same : b ≡ fresh.bounds = one_bounds c.sets b fresh.bounds is fresh.planned in
      let end : b.plan_end ≡ fresh.bounds.plan_end = ap (λ (x : Bounds). x.plan_end) same in
      planned_fresh b.plan_end c c' sound sound' rows.1 d.1.definitions fresh (omega arith);
}
