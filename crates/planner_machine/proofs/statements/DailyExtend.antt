-- The laws of `dp-extend`.
use Rattle.std.proofs.Common.{[], arith, inl, inr, refl, sym, ℕ, ◌<◌, ◌∙◌, ◌≤◌, ◌⊎◌}
use Rattle.std.proofs.lemmas.Bool.{cases_lt}
use Rattle.std.specs.Prelude.{Ok}
use Rattle.occurrences.specs.declared.place.Place.TheVariants.{LongTerm}
use Rattle.occurrences.specs.declared.refusal.Refusal.{Refusal}
use Rattle.occurrences.specs.declared.refusal.Refusal.TheVariants.{NoPlan, PlanEndOutOfRange}
use Rattle.occurrences.specs.declared.reply.Reply.{Reply}
use Rattle.planner_machine.specs.Content.{Content}
use Rattle.planner_machine.specs.DailyExtend.{DailyExtendRefused, ExtendsDaily, daily_extend_means, dp_extend}
use Rattle.planner_machine.specs.Decision.{Decides}
use Rattle.planner_machine.specs.Fate.{DailyFate}
use Rattle.planner_machine.specs.Fresh.{IsFresh}
use Rattle.planner_machine.specs.InForce.{PutsNone}
use Rattle.planner_machine.specs.Plans.{ChangesPlans}
use Rattle.planner_machine.specs.Sound.{IsSound}
use Rattle.planner_machine.proofs.AssembleLemmas.{stays_sound}
use Rattle.planner_machine.proofs.DetailLemmas.{plain}
use Rattle.planner_machine.proofs.FollowLemmas.{daily_keeps}
use Rattle.planner_machine.proofs.FreshPlansLemmas.{planned_follows, planned_fresh}
use Rattle.planner_machine.proofs.Lawful.{Lawful}
use Rattle.planner_machine.proofs.LinkLemmas.{none_is_one}
use Rattle.planner_machine.proofs.OwesLemmas.{daily_owes, good_end}
use Rattle.planner_machine.proofs.PlansLemmas.{moved_kept, plans_do_one, stays_once}
use Rattle.planner_machine.proofs.StaysSoundLemmas.{plan_of}

pub extended_sound : (t : ℕ) (c : Content) (reply : Reply) (c' : Content) → IsSound c
    → ((q : Refusal) → DailyExtendRefused t c q → ⊥) → ChangesPlans (ExtendsDaily t) PutsNone c reply c' → IsSound c'
extended_sound t c reply c' sound none d =
    let (b, is) = plan_of c (λ h. none NoPlan h) in
    let fit = good_end b c.definitions.options.max_extension_hours t (λ h. none PlanEndOutOfRange (b, is, h)) in
    stays_sound LongTerm (DailyFate t) _ c c' sound
    (daily_owes (ExtendsDaily t) t b c c' reply sound is fit.0 fit.1 d.rows.1 d)

pub extended_fresh : (t : ℕ) (c : Content) (reply : Reply) (c' : Content) → IsSound c → IsSound c'
    → Decides (dp_extend t) c (Ok reply) c' → IsFresh c → IsFresh c'
extended_fresh t c reply c' sound sound' d fresh =
    planned_fresh t c c' sound sound' d.1.rows.1 d.1.definitions fresh (later (cases_lt t fresh.bounds.plan_end))
  where
    later : (t < fresh.bounds.plan_end) ⊎ (fresh.bounds.plan_end ≤ t) → fresh.bounds.plan_end ≤ t
    later (inr le) = le
    later (inl lt) = absurd (d.0 PlanEndOutOfRange (fresh.bounds, fresh.planned, inl (omega arith)))

pub daily_extend_lawful : (t : ℕ) → Lawful (daily_extend_means t)
daily_extend_lawful t = record {
  does_one = plans_do_one (ExtendsDaily t) PutsNone
      (λ all s reply reply' s' s'' sound a b. (a.0 ∙ sym b.0, a.1 ∙ sym b.1)) none_is_one;
  details = λ c sound. plain _ (λ h. h) (λ n h. h) (λ h. h) (λ a h. h) (λ a h. h) (λ a h. h) (λ n h. h);
  follows = λ c reply c' sound d. ([], refl, planned_follows t c c' sound d.1.rows.1);
  keeps = λ all bounds. daily_keeps t;
  sound = λ fine. extended_sound t;
  jobs = λ c reply c' d. d.jobs;
  once = λ c reply c' d. stays_once c c' d.lists;
  replies = λ fine c reply c' sound sound' d. moved_kept t c sound reply d.rows.0;
  fresh = λ leaves. extended_fresh t;
}
