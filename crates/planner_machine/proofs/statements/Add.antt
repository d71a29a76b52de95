-- The laws of `ltp-add` and `cp-add`.
use Rattle.std.proofs.Common.{Some, [], ap, arith, inl, refl, subst, sym, ℕ, ◌+◌, ◌<◌, ◌∙◌, ◌∷◌, ◌≡◌, ◌≤◌}
use Rattle.std.specs.FinMap as map
use Rattle.std.specs.Prelude.{Ok}
use Rattle.occurrences.specs.Place.{IsOpen}
use Rattle.occurrences.specs.declared.key.Key.{Key}
use Rattle.occurrences.specs.declared.place.Place.{Place}
use Rattle.occurrences.specs.declared.place.Place.TheVariants.{Current, Deleted, History, LongTerm}
use Rattle.occurrences.specs.declared.refusal.Refusal.{Refusal}
use Rattle.occurrences.specs.declared.refusal.Refusal.TheVariants.{DatesOutOfRange, KeyIsLive, NoActiveApplication}
use Rattle.occurrences.specs.declared.refusal.Refusal.TheVariants.{NoPlan, TooManyRows}
use Rattle.occurrences.specs.declared.reply.Reply.{Reply}
use Rattle.work_calendars.specs.Day.{first_day, last_kept_day}
use Rattle.planner_machine.specs.Add.{AddRefused, Adds, add_means}
use Rattle.planner_machine.specs.Content.{Content, Sets, midnight}
use Rattle.planner_machine.specs.Drafts.{added}
use Rattle.planner_machine.specs.Fate.{IsGenerated, Stays}
use Rattle.planner_machine.specs.InForce.{PutsNone}
use Rattle.planner_machine.specs.Laws.{Follows}
use Rattle.planner_machine.specs.Moves.{with_made}
use Rattle.planner_machine.specs.Plans.{ChangesPlans}
use Rattle.planner_machine.specs.RowsSound.{RowsSound}
use Rattle.planner_machine.specs.Sound.{ArrivesIn, IsKeptReply, IsShown, IsSound}
use Rattle.planner_machine.specs.declared.content.Bounds.{Bounds}
use Rattle.planner_machine.specs.declared.content.Draft.{Draft}
use Rattle.planner_machine.proofs.AddLemmas.{add_sound, not_outside, only_one}
use Rattle.planner_machine.proofs.AssembleLemmas.{Owes, stays_sound}
use Rattle.planner_machine.proofs.DetailLemmas.{plain}
use Rattle.planner_machine.proofs.FollowLemmas.{stays_keeps}
use Rattle.planner_machine.proofs.FreshPlansLemmas.{added_not_named, same_bounds_fresh, stays_leaves}
use Rattle.planner_machine.proofs.Lawful.{Lawful}
use Rattle.planner_machine.proofs.LinkLemmas.{none_is_one}
use Rattle.planner_machine.proofs.MadeLemmas.{made_follows}
use Rattle.planner_machine.proofs.OwesLemmas.{leaves_plan, stay_operator, stay_row}
use Rattle.planner_machine.proofs.PlansLemmas.{plans_do_one, stays_once}
use Rattle.planner_machine.proofs.RangeLemmas.{DraftRanges}
use Rattle.planner_machine.proofs.SoundLemmas.{rows_sound}
use Rattle.planner_machine.proofs.StaysSoundLemmas.{added_ranges, days_fit, links_none, loops_none, plan_of}
use Rattle.planner_machine.proofs.StaysSoundLemmas.{planned_app, sizes_of, stays_closes}

-- the part of the days that a place takes lies in the range of moments
arrival_fits : (c : Content) → IsSound c → (b : Bounds) → c.sets.bounds ≡ Some b → (place : Place) → IsOpen place
    → (ia : ℕ) → ArrivesIn b ia place → (midnight first_day ≤ ia) × (ia < midnight (last_kept_day + 1))
arrival_fits c sound b is LongTerm opens ia arrives = let fit = days_fit c sound b is in
    (omega (arith, fit.0, arrives.0), omega (arith, fit.3, arrives.1))
arrival_fits c sound b is (Current status) opens ia arrives = let fit = days_fit c sound b is in
    (omega (arith, fit.2, arrives.0), omega (arith, fit.1, arrives.1))
arrival_fits c sound b is History opens ia arrives = absurd opens
arrival_fits c sound b is (Deleted reason) opens ia arrives = absurd opens

add_owes : (place : Place) → IsOpen place → (key : Key) (c c' : Content) (reply : Reply) → IsSound c
    → ((q : Refusal) → AddRefused place key c q → ⊥) → (d : ChangesPlans (Adds place key) PutsNone c reply c')
    → Owes place Stays (added key ∷ []) c c'
add_owes place opens key c c' reply sound none d =
    let sound' = rows_sound c sound in
    let (b, is) = plan_of c (λ h. none NoPlan h) in
    let arrives = not_outside b key.ia place (λ out. none DatesOutOfRange (b, is, out)) in
    let fit = arrival_fits c sound b is place opens key.ia arrives in
    let bounds : c'.sets.bounds ≡ Some b = ap (λ (s : Sets). s.bounds) d.rows.1 ∙ is in
    let planned = planned_app c.definitions key.app (map.get c.definitions.applications key.app) refl
    (λ h. none NoActiveApplication h) in
    record {
      follows = subst (λ (s : Sets). Follows place Stays (added key ∷ []) c.sets s) (sym d.rows.1)
          (made_follows place c.sets sound' (added key ∷ []));
      rows = subst RowsSound (sym d.rows.1) (add_sound place key c.sets sound' b is (λ out. none DatesOutOfRange (
        b,
        is,
        out,
      )) (λ live. none KeyIsLive live));
      keeps = stays_keeps;
      opens = opens;
      closes = λ serial p q there goes live closed. inl (stays_closes p q goes live closed);
      plan = leaves_plan (Adds place key) PutsNone c c' reply d b bounds (sound.ranges.days b is).0;
      stays_row = λ serial p q there goes good. stay_row p q goes good;
      drafts_in_range = λ draft there. subst DraftRanges (only_one (added key) draft there)
          (added_ranges c sound key planned fit.0 fit.1);
      drafts_free = λ draft there generated other deletion at operator same. subst
          (λ (x : Draft). IsGenerated x.origin) (sym (only_one (added key) draft there)) generated;
      by_operator = λ p q goes deleted. inl (stay_operator p q goes deleted);
      sizes = sizes_of (Adds place key) c c' reply (λ h. none TooManyRows h) d.rows;
      links = links_none c sound c'.in_force d.lists;
      no_loop = loops_none c sound c'.in_force d.lists;
    }

pub add_lawful : (place : Place) → IsOpen place → (key : Key) → Lawful (add_means place key)
add_lawful place opens key = record {
  does_one = plans_do_one (Adds place key) PutsNone
      (λ all s reply reply' s' s'' sound a b. (a.0 ∙ sym b.0, a.1 ∙ sym b.1)) none_is_one;
  details = λ c sound. plain _ (λ h. h) (λ n h. h) (λ h. h) (λ a h. h) (λ a h. h) (λ a h. h) (λ n h. h);
  follows = λ c reply c' sound d. (added key ∷ [], refl, follow c c' sound d.1.rows.1);
  keeps = λ all bounds. stays_keeps;
  sound = λ fine c reply c' sound none d.
      stays_sound place Stays _ c c' sound (add_owes place opens key c c' reply sound none d);
  jobs = λ c reply c' d. d.jobs;
  once = λ c reply c' d. stays_once c c' d.lists;
  replies = λ fine c reply c' sound sound' d. subst (λ r. IsKeptReply (Ok r)) (sym d.rows.0)
      (new_serial c c' sound' (ap (λ (s : Sets). s.issued) d.rows.1));
  fresh = λ leaves c reply c' sound sound' d fresh. same_bounds_fresh Stays place (added key ∷ []) c c' sound sound'
      (follow c c' sound d.1.rows.1) d.1.definitions fresh (stays_leaves fresh.bounds.plan_end)
      (added_not_named key place c.definitions) (ap (λ (s : Sets). s.bounds) d.1.rows.1);
}
  where
    follow : (c c' : Content) → IsSound c → c'.sets ≡ with_made place (added key ∷ []) c.sets
        → Follows place Stays (added key ∷ []) c.sets c'.sets
    follow c c' sound is = subst (λ (s : Sets). Follows place Stays (added key ∷ []) c.sets s) (sym is)
        (made_follows place c.sets (rows_sound c sound) (added key ∷ []))

    new_serial : (c c' : Content) → IsSound c' → c'.sets.issued ≡ c.sets.issued + 1 → IsShown (c.sets.issued + 1)
    new_serial c c' sound' is = let few = sound'.sizes.issued in omega arith
