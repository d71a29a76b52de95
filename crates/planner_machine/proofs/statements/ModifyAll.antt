-- The laws of `ltp-modify-all`.
use Rattle.std.proofs.Common.{None, Option, Some, refl, ◌≡◌}
use Rattle.external_dependencies.proofs.OrderLemmas.{named_once}
use Rattle.occurrences.specs.declared.place.Place.TheVariants.{LongTerm}
use Rattle.occurrences.specs.declared.refusal.Refusal.TheVariants.{Loop, NoPlan, TooManyRows}
use Rattle.planner_machine.specs.Fate.{ModifyFate}
use Rattle.planner_machine.specs.Fresh.{IsFresh, LeavesFresh}
use Rattle.planner_machine.specs.InForce.{PutsAll}
use Rattle.planner_machine.specs.ModifyAll.{IsAnyApp, ModifiesAll, is_any_app, modify_all_means}
use Rattle.planner_machine.specs.Statement.{ModifyAll}
use Rattle.planner_machine.specs.declared.content.Bounds.{Bounds}
use Rattle.planner_machine.proofs.AssembleLemmas.{stays_sound}
use Rattle.planner_machine.proofs.DetailLemmas.{of_all}
use Rattle.planner_machine.proofs.FollowLemmas.{modify_keeps_all}
use Rattle.planner_machine.proofs.Lawful.{Lawful}
use Rattle.planner_machine.proofs.LinkLemmas.{all_is_one}
use Rattle.planner_machine.proofs.ModifiedLemmas.{modified_follows, modified_fresh, modified_kept, modify_owes}
use Rattle.planner_machine.proofs.ModifyLemmas.{any_tests, modify_does_one}
use Rattle.planner_machine.proofs.PlansLemmas.{plans_do_one}
use Rattle.planner_machine.proofs.StaysSoundLemmas.{links_all, loops_put}

-- it leaves fresh content, from any
pub modify_all_fresh : LeavesFresh ModifyAll
modify_all_fresh c reply c' sound sound' d = by_bounds c.sets.bounds refl
  where
    by_bounds : (o : Option Bounds) → c.sets.bounds ≡ o → IsFresh c'
    by_bounds None none = absurd (d.0 NoPlan none)
    by_bounds (Some b) is = modified_fresh is_any_app IsAnyApp any_tests PutsAll c reply c' sound sound' d.1 b is
        (λ serial row there generated never. absurd (never tt)) (λ draft names never. absurd (never tt))

pub modify_all_lawful : Lawful modify_all_means
modify_all_lawful = record {
  does_one = plans_do_one ModifiesAll PutsAll (modify_does_one is_any_app IsAnyApp any_tests) all_is_one;
  details = λ c sound. of_all c sound _ (λ h. h) (λ n h. h) (λ h. h) (λ a h. h) (λ a h. h) (λ a h. h) (λ n h. h);
  follows = λ c reply c' sound d. (
    d.1.rows.new,
    d.1.rows.are_new,
    modified_follows is_any_app IsAnyApp any_tests PutsAll c reply c' sound d.1,
  );
  keeps = λ all bounds. modify_keeps_all IsAnyApp all;
  sound = λ fine c reply c' sound none d.
      stays_sound LongTerm (ModifyFate IsAnyApp c.definitions) d.rows.new c c' sound
      (modify_owes is_any_app IsAnyApp any_tests PutsAll c c' reply sound (λ h. none NoPlan h)
      (λ h. none TooManyRows h) d (links_all c sound c'.in_force d.lists)
      (loops_put PutsAll c c'.in_force d.lists (λ app h. none (Loop app) h)));
  jobs = λ c reply c' d. d.jobs;
  once = λ c reply c' d once. named_once c'.in_force d.lists.rising;
  replies = λ fine. modified_kept is_any_app IsAnyApp any_tests PutsAll;
  fresh = λ leaves c reply c' sound sound' d fresh. modify_all_fresh c reply c' sound sound' d;
}
