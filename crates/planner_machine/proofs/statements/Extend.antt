-- The laws of `ltp-extend`.
use Rattle.std.proofs.Common.{List, Some, ap, arith, inl, inr, length, subst, sym, ℕ, ◌+◌, ◌<◌, ◌∙◌, ◌≡◌, ◌≤◌, ◌⊎◌}
use Rattle.std.proofs.lemmas.Bool.{cases_lt}
use Rattle.std.specs.Prelude.{Ok}
use Rattle.app_definitions.specs.declared.definitions.Definitions.{Definitions}
use Rattle.external_dependencies.proofs.OrderLemmas.{named_once}
use Rattle.external_dependencies.specs.declared.rows.PlacedRow.{PlacedRow}
use Rattle.occurrences.specs.declared.key.Key.{Key}
use Rattle.occurrences.specs.declared.place.Place.TheVariants.{Deleted, LongTerm}
use Rattle.occurrences.specs.declared.place.Reason.TheVariants.{Operator}
use Rattle.occurrences.specs.declared.refusal.Refusal.{Refusal}
use Rattle.occurrences.specs.declared.refusal.Refusal.TheVariants.{DatesOutOfRange, Loop, TooManyRows}
use Rattle.occurrences.specs.declared.reply.Reply.{Reply}
use Rattle.planner_machine.specs.Content.{Content, IsOnlyAt, Sets, midnight}
use Rattle.planner_machine.specs.Decision.{Decides}
use Rattle.planner_machine.specs.Drafts.{NamesDraft}
use Rattle.planner_machine.specs.Extend.{ExtendRefused, Extends, extend, extend_means, later_bounds}
use Rattle.planner_machine.specs.Fate.{Stays}
use Rattle.planner_machine.specs.Fresh.{IsFresh, IsLeftOut, NamesInPlan, StandsSo}
use Rattle.planner_machine.specs.InForce.{PutsAll}
use Rattle.planner_machine.specs.Laws.{Follows}
use Rattle.planner_machine.specs.Plans.{ChangesPlans}
use Rattle.planner_machine.specs.RowsSound.{RowsSound}
use Rattle.planner_machine.specs.Sound.{IsKeptReply, IsSound}
use Rattle.planner_machine.specs.declared.content.Bounds.{Bounds}
use Rattle.planner_machine.specs.declared.content.Draft.{Draft}
use Rattle.planner_machine.proofs.AssembleLemmas.{Owes, stands_in_deletions, stays_sound}
use Rattle.planner_machine.proofs.CreateLemmas.{extend_does_one, extend_follows, extend_sound, good_last}
use Rattle.planner_machine.proofs.DeleteLemmas.{stands_in_ltp}
use Rattle.planner_machine.proofs.DetailLemmas.{of_all}
use Rattle.planner_machine.proofs.FollowLemmas.{stays_keeps}
use Rattle.planner_machine.proofs.FreshLemmas.{both_told, carried, fresh_of, key_told, left_out_operator}
use Rattle.planner_machine.proofs.FreshLemmas.{made_stands, operator_told, some_stands}
use Rattle.planner_machine.proofs.FreshPlansLemmas.{named_so, one_bounds, stays_leaves}
use Rattle.planner_machine.proofs.Lawful.{Lawful}
use Rattle.planner_machine.proofs.LinkLemmas.{all_is_one}
use Rattle.planner_machine.proofs.OwesLemmas.{leaves_plan, stay_operator, stay_row}
use Rattle.planner_machine.proofs.PlansLemmas.{plans_do_one, shown_made}
use Rattle.planner_machine.proofs.SoundLemmas.{rows_sound}
use Rattle.planner_machine.proofs.StaysSoundLemmas.{days_fit, links_all, loops_put, sizes_of, stays_closes}
use Rattle.planner_machine.proofs.StaysSoundLemmas.{within_ranges}

extended_follows : (to : ℕ) (c : Content) (reply : Reply) (c' : Content) → IsSound c
    → (d : Decides (extend to) c (Ok reply) c') → Follows LongTerm Stays d.1.rows.new c.sets c'.sets
extended_follows to c reply c' sound d =
    let rows = d.1.rows in let days = good_last rows.bounds to
    (λ h. d.0 DatesOutOfRange (rows.bounds, rows.had, h)) in
    subst (λ (s : Sets). Follows LongTerm Stays rows.new c.sets s) (sym rows.becomes)
    (extend_follows to c.definitions c.sets (rows_sound c sound) rows.bounds rows.had days.0 days.1 rows.new)

extend_owes : (to : ℕ) (c c' : Content) (reply : Reply) → IsSound c → ((q : Refusal) → ExtendRefused to c q → ⊥)
    → (d : ChangesPlans (Extends to) PutsAll c reply c') → Owes LongTerm Stays d.rows.new c c'
extend_owes to c c' reply sound none d =
    let rows = d.rows in let sound' = rows_sound c sound in
    let days = good_last rows.bounds to (λ h. none DatesOutOfRange (rows.bounds, rows.had, h)) in
    let fit = days_fit c sound rows.bounds rows.had in
    let low = fit.0 in let ended = (sound'.bounds rows.bounds rows.had).ended in let high = days.1 in
    let bounds : c'.sets.bounds ≡ Some (later_bounds rows.bounds to) = ap (λ (s : Sets). s.bounds) rows.becomes in
    record {
      follows = extended_follows to c reply c' sound (none, d);
      rows = subst RowsSound (sym rows.becomes)
          (extend_sound to c.definitions c.sets sound' rows.bounds rows.had days.0 days.1 rows.new rows.are_new);
      keeps = stays_keeps;
      opens = tt;
      closes = λ serial p q there is live closed. inl (stays_closes p q is live closed);
      plan = leaves_plan (Extends to) PutsAll c c' reply d (later_bounds rows.bounds to) bounds
          (sound.ranges.days rows.bounds rows.had).0;
      stays_row = λ serial p q there is good. stay_row p q is good;
      drafts_in_range = λ draft there. within_ranges c.definitions sound.ranges.definitions
          (midnight (rows.bounds.last_day + 1)) (midnight (to + 1)) (omega arith) (omega arith) draft
          ((rows.are_new.exactly draft).0 there).named;
      drafts_free = λ draft there generated. ((rows.are_new.exactly draft).0 there).not_deleted;
      by_operator = λ p q is deleted. inl (stay_operator p q is deleted);
      sizes = sizes_of (Extends to) c c' reply (λ h. none TooManyRows h) rows;
      links = links_all c sound c'.in_force d.lists;
      no_loop = loops_put PutsAll c c'.in_force d.lists (λ app h. none (Loop app) h);
    }

-- from fresh content: what is named before the old end stands or is left out, and what is named after it is made unless
-- an operator deleted it
extend_fresh : (to : ℕ) (c : Content) (reply : Reply) (c' : Content) → IsSound c → IsSound c'
    → Decides (extend to) c (Ok reply) c' → IsFresh c → IsFresh c'
extend_fresh to c reply c' sound sound' d fresh =
    fresh_of c' sound' (record b { last_day = to }) is'
    (named_so Stays b.plan_end (stays_leaves b.plan_end) LongTerm new c c' sound sound' follows
    d.1.definitions fresh (λ draft there _ _. ((d.1.rows.are_new.exactly draft).0 there).named.0)) stands
  where
    b : Bounds
    b = fresh.bounds

    new : List Draft
    new = d.1.rows.new

    same : d.1.rows.bounds ≡ fresh.bounds
    same = one_bounds c.sets d.1.rows.bounds fresh.bounds d.1.rows.had fresh.planned

    is' : c'.sets.bounds ≡ Some (record fresh.bounds { last_day = to })
    is' = ap (λ (s : Sets). s.bounds) d.1.rows.becomes
        ∙ ap (λ (x : Bounds). Some (record x { last_day = to })) same

    follows : Follows LongTerm Stays d.1.rows.new c.sets c'.sets
    follows = extended_follows to c reply c' sound d

    new_stands : (draft : Draft) → NamesDraft c.definitions draft → midnight (fresh.bounds.last_day + 1) ≤ draft.key.ia
        → draft.key.ia < midnight (to + 1) → ((serial : ℕ) (p : PlacedRow) → IsOnlyAt c.sets serial p
        → (p.place ≡ Deleted Operator) × (p.row.key ≡ draft.key) → ⊥) → StandsSo c'.sets draft
    new_stands draft names after until undeleted = made_stands Stays d.1.rows.new c.sets c'.sets follows draft
        ((d.1.rows.are_new.exactly draft).1 (record {
          named = (
            names,
            subst (λ (x : Bounds). midnight (x.last_day + 1) ≤ draft.key.ia) (sym same) after,
            until,
          );
          not_planned = λ serial row at same_key.
              let arrives = sound.arrivals.in_bounds fresh.bounds fresh.planned serial
              (record { row = row; place = LongTerm }) (stands_in_ltp c.sets (rows_sound c sound) serial row at) in
              let before = arrives.1 in
              let ia : row.key.ia ≡ draft.key.ia = ap (λ (k : Key). k.ia) same_key in
              omega (arith, before, ia, after);
          not_deleted = λ serial deletion at operator same_key. undeleted serial (record {
            row = deletion.row;
            place = Deleted deletion.reason;
          }) (stands_in_deletions c.sets (rows_sound c sound) serial deletion at) (ap Deleted operator, same_key);
        }))

    stands : (draft : Draft) → NamesInPlan c'.definitions (record fresh.bounds { last_day = to }) draft
        → StandsSo c'.sets draft ⊎ IsLeftOut c'.sets draft.key
    stands draft names =
        let names_before : NamesDraft c.definitions draft =
        subst (λ (all : Definitions). NamesDraft all draft) d.1.definitions names.0 in
        elim (cases_lt draft.key.ia (midnight (fresh.bounds.last_day + 1))) [
          | inl early ↦ carried Stays fresh.bounds.plan_end (stays_leaves fresh.bounds.plan_end) LongTerm
              d.1.rows.new c.sets c'.sets follows draft names.1
              (fresh.stands draft (names_before, names.1, early))
          | inr after ↦ elim (some_stands c.sets (rows_sound c sound)
              (λ p. (p.place ≡ Deleted Operator) × (p.row.key ≡ draft.key))
              (λ p. both_told (operator_told p.place) (key_told p.row.key draft.key))) [
                | inl found ↦ carried Stays fresh.bounds.plan_end (stays_leaves fresh.bounds.plan_end) LongTerm
                    d.1.rows.new c.sets c'.sets follows draft names.1
                    (inr (left_out_operator c.sets found.0 found.1.0 found.1.1.0 found.1.1.1.0 draft.key
                    found.1.1.1.1))
                | inr undeleted ↦ inl (new_stands draft names_before after names.2 undeleted)
              ]
        ]

pub extend_lawful : (to : ℕ) → Lawful (extend_means to)
extend_lawful to = record {
  does_one = plans_do_one (Extends to) PutsAll (extend_does_one to) all_is_one;
  details = λ c sound. of_all c sound _ (λ h. h) (λ n h. h) (λ h. h) (λ a h. h) (λ a h. h) (λ a h. h) (λ n h. h);
  follows = λ c reply c' sound d. (
    d.1.rows.new,
    (d.1.rows.bounds, d.1.rows.had, d.1.rows.are_new),
    extended_follows to c reply c' sound d,
  );
  keeps = λ all bounds. stays_keeps;
  sound = λ fine c reply c' sound none d.
      stays_sound LongTerm Stays d.rows.new c c' sound (extend_owes to c c' reply sound none d);
  jobs = λ c reply c' d. d.jobs;
  once = λ c reply c' d once. named_once c'.in_force d.lists.rising;
  replies = λ fine c reply c' sound sound' d. subst (λ r. IsKeptReply (Ok r)) (sym d.rows.replies)
      (shown_made c c' (length d.rows.new) sound' (ap (λ (s : Sets). s.issued) d.rows.becomes), omega arith);
  fresh = λ leaves. extend_fresh to;
}
