-- The laws of `ltp-modify-one`.
use Rattle.std.proofs.Common.{List, subst, sym, ℕ, ◌∙◌}
use Rattle.external_dependencies.proofs.OrderLemmas.{named_once}
use Rattle.occurrences.specs.declared.place.Place.TheVariants.{LongTerm}
use Rattle.occurrences.specs.declared.refusal.Refusal.TheVariants.{Loop, NoPlan, TooManyRows}
use Rattle.work_calendars.specs.Name.{IsName}
use Rattle.planner_machine.specs.Content.{Content}
use Rattle.planner_machine.specs.Fate.{ModifyFate}
use Rattle.planner_machine.specs.InForce.{PutsOne}
use Rattle.planner_machine.specs.ModifyOne.{IsThatApp, ModifiesOne, ModifyOneRefused, is_that_app, modify_one_means}
use Rattle.planner_machine.specs.Sound.{IsSound}
use Rattle.planner_machine.proofs.AssembleLemmas.{stays_sound}
use Rattle.planner_machine.proofs.DetailLemmas.{Details}
use Rattle.planner_machine.proofs.FollowLemmas.{modify_keeps_all}
use Rattle.planner_machine.proofs.JobLemmas.{loop_name, no_calendar_name, no_period_name}
use Rattle.planner_machine.proofs.Lawful.{Lawful}
use Rattle.planner_machine.proofs.LinkLemmas.{one_is_one, one_loop}
use Rattle.planner_machine.proofs.ModifiedLemmas.{modified_follows, modified_fresh, modified_kept, modify_owes}
use Rattle.planner_machine.proofs.ModifyLemmas.{modify_does_one, that_tests}
use Rattle.planner_machine.proofs.PlansLemmas.{plans_do_one}
use Rattle.planner_machine.proofs.StaysSoundLemmas.{links_one, loops_put}

modify_one_details : (app : List ℕ) (c : Content) → IsSound c → Details (ModifyOneRefused app c)
modify_one_details app c sound = record {
  read = λ h. h;
  faulty = λ n h. h;
  same_text = λ h. h;
  calendar = ((λ a b h k. h.0 ∙ sym k.0), λ a h. subst IsName (sym h.0) (no_calendar_name c sound app h.1));
  period = ((λ a b h k. h.0 ∙ sym k.0), λ a h. subst IsName (sym h.0) (no_period_name c sound app h.1));
  loop = (one_loop (PutsOne app) (one_is_one app) c, loop_name (PutsOne app) c (links_one app c sound));
  predecessor = ((λ m n h k. absurd h), λ n h. absurd h);
}

pub modify_one_lawful : (app : List ℕ) → Lawful (modify_one_means app)
modify_one_lawful app = record {
  does_one = plans_do_one (ModifiesOne app) (PutsOne app)
      (modify_does_one (is_that_app app) (IsThatApp app) (that_tests app)) (one_is_one app);
  details = modify_one_details app;
  follows = λ c reply c' sound d. (
    d.1.rows.new,
    d.1.rows.are_new,
    modified_follows (is_that_app app) (IsThatApp app) (that_tests app) (PutsOne app) c reply c' sound d.1,
  );
  keeps = λ all bounds. modify_keeps_all (IsThatApp app) all;
  sound = λ fine c reply c' sound none d.
      stays_sound LongTerm (ModifyFate (IsThatApp app) c.definitions) d.rows.new c c' sound
      (modify_owes (is_that_app app) (IsThatApp app) (that_tests app) (PutsOne app) c c' reply sound
      (λ h. none NoPlan h) (λ h. none TooManyRows h) d (links_one app c sound c'.in_force d.lists)
      (loops_put (PutsOne app) c c'.in_force d.lists (λ x h. none (Loop x) h)));
  jobs = λ c reply c' d. d.jobs;
  once = λ c reply c' d once. named_once c'.in_force d.lists.rising;
  replies = λ fine. modified_kept (is_that_app app) (IsThatApp app) (that_tests app) (PutsOne app);
  fresh = λ leaves c reply c' sound sound' d fresh.
      modified_fresh (is_that_app app) (IsThatApp app) (that_tests app) (PutsOne app) c reply c' sound sound' d.1
      fresh.bounds fresh.planned (λ serial row there generated _. (fresh.named serial row there generated).0)
      (λ draft names _. fresh.stands draft names);
}
