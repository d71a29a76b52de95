-- The laws of `ltp-create`.
use Rattle.std.proofs.Common.{Some, ap, arith, inl, length, subst, sym, ℕ, ◌+◌, ◌≡◌}
use Rattle.std.specs.Prelude.{Ok}
use Rattle.app_definitions.specs.declared.definitions.Definitions.{Definitions}
use Rattle.external_dependencies.proofs.OrderLemmas.{named_once}
use Rattle.occurrences.specs.declared.place.Place.TheVariants.{Deleted, LongTerm}
use Rattle.occurrences.specs.declared.refusal.Refusal.{Refusal}
use Rattle.occurrences.specs.declared.refusal.Refusal.TheVariants.{DatesOutOfRange, Loop, PlanExists, TooManyRows}
use Rattle.occurrences.specs.declared.reply.Reply.{Reply}
use Rattle.work_calendars.specs.Day.{IsDay, first_day}
use Rattle.planner_machine.specs.Content.{Content, Sets, midnight}
use Rattle.planner_machine.specs.Create.{CreateRefused, Creates, create, create_means, first_bounds}
use Rattle.planner_machine.specs.Decision.{Decides}
use Rattle.planner_machine.specs.Drafts.{NamesDraft}
use Rattle.planner_machine.specs.Fate.{Stays}
use Rattle.planner_machine.specs.Fresh.{LeavesFresh, draft_of_row}
use Rattle.planner_machine.specs.InForce.{PutsAll}
use Rattle.planner_machine.specs.Laws.{Follows}
use Rattle.planner_machine.specs.Plans.{ChangesPlans}
use Rattle.planner_machine.specs.RowsSound.{RowsSound}
use Rattle.planner_machine.specs.Sound.{IsKeptReply, IsSound}
use Rattle.planner_machine.specs.Statement.{Create}
use Rattle.planner_machine.proofs.AssembleLemmas.{Owes, stands_in_deletions, stays_sound}
use Rattle.planner_machine.proofs.CreateLemmas.{create_does_one, create_follows, create_sound, good_days, no_plan}
use Rattle.planner_machine.proofs.DeleteLemmas.{stands_in_ltp}
use Rattle.planner_machine.proofs.DetailLemmas.{of_all}
use Rattle.planner_machine.proofs.FollowLemmas.{stays_keeps}
use Rattle.planner_machine.proofs.FreshLemmas.{fresh_of, made_stands, named_after}
use Rattle.planner_machine.proofs.FreshPlansLemmas.{stays_leaves}
use Rattle.planner_machine.proofs.Lawful.{Lawful}
use Rattle.planner_machine.proofs.LinkLemmas.{all_is_one}
use Rattle.planner_machine.proofs.OwesLemmas.{leaves_plan, stay_operator, stay_row}
use Rattle.planner_machine.proofs.PlansLemmas.{plans_do_one, shown_made}
use Rattle.planner_machine.proofs.SeatLemmas.{not_empty}
use Rattle.planner_machine.proofs.SoundLemmas.{rows_sound}
use Rattle.planner_machine.proofs.StaysSoundLemmas.{links_all, loops_put, sizes_of, stays_closes, within_ranges}

created_follows : (from to : ℕ) (c : Content) (reply : Reply) (c' : Content) → IsSound c
    → (d : Decides (create from to) c (Ok reply) c') → Follows LongTerm Stays d.1.rows.new c.sets c'.sets
created_follows from to c reply c' sound d =
    let rows = d.1.rows in let days = good_days from to (λ h. d.0 DatesOutOfRange h) in
    subst (λ (s : Sets). Follows LongTerm Stays rows.new c.sets s) (sym rows.becomes)
    (create_follows from to c.definitions c.sets (rows_sound c sound) (no_plan c.sets.bounds (d.0 PlanExists)) days.0
    days.1 rows.new)

-- it leaves fresh content, from any
pub create_fresh : (from to : ℕ) → LeavesFresh (Create from to)
create_fresh from to c reply c' sound sound' d =
    let rows = d.1.rows in
    let none = no_plan c.sets.bounds (d.0 PlanExists) in
    let empty = (sound.bounds.before none).rows in
    let follows = created_follows from to c reply c' sound d in
    let is : c'.sets.bounds ≡ Some (record { first_day = from; last_day = to; plan_end = midnight from }) =
    ap (λ (s : Sets). s.bounds) rows.becomes in
    fresh_of c' sound' (record { first_day = from; last_day = to; plan_end = midnight from }) is
    (λ serial row there generated. subst (λ (all : Definitions). NamesDraft all (draft_of_row row))
    (sym d.1.definitions)
    (named_after Stays 0 (stays_leaves 0) LongTerm rows.new c.definitions c.sets c'.sets (rows_sound c sound)
    (rows_sound c' sound') follows (λ draft there _ _. ((rows.are_new.exactly draft).0 there).named.0)
    (λ serial row there _. absurd (not_empty c.sets serial (record { row = row; place = LongTerm }) there
    (empty serial))) serial row there generated))
    (λ draft names. inl (made_stands Stays rows.new c.sets c'.sets follows draft ((rows.are_new.exactly draft).1
    (record {
      named = (
        subst (λ (all : Definitions). NamesDraft all draft) d.1.definitions names.0,
        names.1,
        names.2,
      );
      not_planned = λ serial row at _. not_empty c.sets serial (record { row = row; place = LongTerm })
          (stands_in_ltp c.sets (rows_sound c sound) serial row at) (empty serial);
      not_deleted = λ serial deletion at _ _. not_empty c.sets serial (record {
        row = deletion.row;
        place = Deleted deletion.reason;
      }) (stands_in_deletions c.sets (rows_sound c sound) serial deletion at) (empty serial);
    }))))

create_owes : (from to : ℕ) (c c' : Content) (reply : Reply) → IsSound c → IsDay from
    → ((q : Refusal) → CreateRefused from to c q → ⊥) → (d : ChangesPlans (Creates from to) PutsAll c reply c')
    → Owes LongTerm Stays d.rows.new c c'
create_owes from to c c' reply sound day none d =
    let rows = d.rows in let sound' = rows_sound c sound in
    let days = good_days from to (λ h. none DatesOutOfRange h) in
    let unplanned = no_plan c.sets.bounds (λ h. none PlanExists h) in
    let bounds : c'.sets.bounds ≡ Some (first_bounds from to) = ap (λ (s : Sets). s.bounds) rows.becomes in
    let low = day.0 in let high = days.1 in
    record {
      follows = created_follows from to c reply c' sound (none, d);
      rows = subst RowsSound (sym rows.becomes)
          (create_sound from to c.definitions c.sets sound' unplanned days.0 days.1 rows.new rows.are_new);
      keeps = stays_keeps;
      opens = tt;
      closes = λ serial p q there is live closed. inl (stays_closes p q is live closed);
      plan = leaves_plan (Creates from to) PutsAll c c' reply d (first_bounds from to) bounds day;
      stays_row = λ serial p q there is good. stay_row p q is good;
      drafts_in_range = λ draft there. within_ranges c.definitions sound.ranges.definitions (midnight from)
          (midnight (to + 1)) (omega arith) (omega arith) draft ((rows.are_new.exactly draft).0 there).named;
      drafts_free = λ draft there generated. ((rows.are_new.exactly draft).0 there).not_deleted;
      by_operator = λ p q is deleted. inl (stay_operator p q is deleted);
      sizes = sizes_of (Creates from to) c c' reply (λ h. none TooManyRows h) rows;
      links = links_all c sound c'.in_force d.lists;
      no_loop = loops_put PutsAll c c'.in_force d.lists (λ app h. none (Loop app) h);
    }

pub create_lawful : (from to : ℕ) → Lawful (create_means from to)
create_lawful from to = record {
  does_one = plans_do_one (Creates from to) PutsAll (create_does_one from to) all_is_one;
  details = λ c sound. of_all c sound _ (λ h. h) (λ n h. h) (λ h. h) (λ a h. h) (λ a h. h) (λ a h. h) (λ n h. h);
  follows = λ c reply c' sound d. (d.1.rows.new, d.1.rows.are_new, created_follows from to c reply c' sound d);
  keeps = λ all bounds. stays_keeps;
  sound = λ day c reply c' sound none d.
      stays_sound LongTerm Stays d.rows.new c c' sound (create_owes from to c c' reply sound day none d);
  jobs = λ c reply c' d. d.jobs;
  once = λ c reply c' d once. named_once c'.in_force d.lists.rising;
  replies = λ fine c reply c' sound sound' d. subst (λ r. IsKeptReply (Ok r)) (sym d.rows.replies)
      (shown_made c c' (length d.rows.new) sound' (ap (λ (s : Sets). s.issued) d.rows.becomes), omega arith);
  fresh = λ leaves c reply c' sound sound' d fresh. create_fresh from to c reply c' sound sound' d;
}
