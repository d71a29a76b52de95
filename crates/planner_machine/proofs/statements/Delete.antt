-- The laws of `ltp-delete`.
use Rattle.std.proofs.Common.{None, Some, [], ap, false, inl, inr, refl, subst, sym, true, ℕ, ◌∙◌, ◌≡◌, ◌⊎◌}
use Rattle.std.specs.Prelude.{Bool, Contains, Ok, if◌then◌else◌}
use Rattle.external_dependencies.specs.declared.rows.PlacedRow.{PlacedRow}
use Rattle.occurrences.specs.Key.{key_eq}
use Rattle.occurrences.specs.declared.key.Key.{Key}
use Rattle.occurrences.specs.declared.place.Place.TheVariants.{Deleted, LongTerm}
use Rattle.occurrences.specs.declared.place.Reason.TheVariants.{Operator}
use Rattle.occurrences.specs.declared.refusal.Refusal.TheVariants.{NoPlan}
use Rattle.occurrences.specs.declared.reply.Reply.{Reply}
use Rattle.planner_machine.specs.Content.{Content, Sets}
use Rattle.planner_machine.specs.Delete.{Deletes, delete_means, delete_move}
use Rattle.planner_machine.specs.Fate.{DeletionFate, IsGenerated, place_after_deletion}
use Rattle.planner_machine.specs.InForce.{PutsNone}
use Rattle.planner_machine.specs.Laws.{Follows}
use Rattle.planner_machine.specs.Moves.{each}
use Rattle.planner_machine.specs.Plans.{ChangesPlans}
use Rattle.planner_machine.specs.RowsSound.{RowsSound}
use Rattle.planner_machine.specs.Sound.{IsKeptReply, IsSound}
use Rattle.planner_machine.specs.declared.content.Draft.{Draft}
use Rattle.planner_machine.proofs.AssembleLemmas.{Owes, stays_sound}
use Rattle.planner_machine.proofs.DeleteLemmas.{delete_does_one, delete_follows, delete_sound, stands_in_ltp}
use Rattle.planner_machine.proofs.DetailLemmas.{plain}
use Rattle.planner_machine.proofs.FollowLemmas.{deletion_keeps}
use Rattle.planner_machine.proofs.FreshLemmas.{Leaves}
use Rattle.planner_machine.proofs.FreshPlansLemmas.{gone_so, no_drafts_named, same_bounds_fresh, stays_so}
use Rattle.planner_machine.proofs.JobLemmas.{is_serial}
use Rattle.planner_machine.proofs.Lawful.{Lawful}
use Rattle.planner_machine.proofs.LinkLemmas.{none_is_one}
use Rattle.planner_machine.proofs.OwesLemmas.{leaves_plan}
use Rattle.planner_machine.proofs.PlannedLemmas.{sizes_stay}
use Rattle.planner_machine.proofs.PlansLemmas.{plans_do_one, stays_once}
use Rattle.planner_machine.proofs.RangeLemmas.{DraftRanges}
use Rattle.planner_machine.proofs.SoundLemmas.{rows_sound}
use Rattle.planner_machine.proofs.StaysSoundLemmas.{deletion_closes, deletion_operator, going_closes, links_none}
use Rattle.planner_machine.proofs.StaysSoundLemmas.{loops_none, no_drafts, plan_of, row_stays}

deletion_leaves : (key : Key) (from : ℕ) → Leaves (DeletionFate key) from
deletion_leaves key from = record {
  keeps = deletion_keeps key;
  row = λ p q is. ap (λ (x : PlacedRow). x.row) is;
  ltp = λ p q is at _. by_test p q is at (key_eq p.row.key key) refl;
  deleted = λ p q is at. stays_so (place_after_deletion key) p q is (Deleted Operator) at refl;
}
  where
    by_test : (p q : PlacedRow) → DeletionFate key p q → p.place ≡ LongTerm → (b : Bool) → key_eq p.row.key key ≡ b
        → (q ≡ p) ⊎ (q ≡ record { row = p.row; place = Deleted Operator })
    by_test p q is at true same = inr (gone_so (place_after_deletion key) p q is LongTerm (Deleted Operator) at
        (ap (λ (b : Bool). if b then Deleted Operator else LongTerm) same))
    by_test p q is at false apart = inl (stays_so (place_after_deletion key) p q is LongTerm at
        (ap (λ (b : Bool). if b then Deleted Operator else LongTerm) apart))

delete_owes : (key : Key) (c c' : Content) (reply : Reply) → IsSound c → (c.sets.bounds ≡ None → ⊥)
    → (d : ChangesPlans (Deletes key) PutsNone c reply c') → Owes LongTerm (DeletionFate key) [] c c'
delete_owes key c c' reply sound there d =
    let sound' = rows_sound c sound in
    let (b, is) = plan_of c there in
    let bounds : c'.sets.bounds ≡ Some b = ap (λ (s : Sets). s.bounds) d.rows.becomes ∙ is in
    let follows : Follows LongTerm (DeletionFate key) [] c.sets c'.sets =
    subst (λ (s : Sets). Follows LongTerm (DeletionFate key) [] c.sets s) (sym d.rows.becomes)
    (delete_follows key LongTerm c.sets sound') in
    record {
      follows = follows;
      rows = subst RowsSound (sym d.rows.becomes) (delete_sound key c.sets sound');
      keeps = deletion_keeps key;
      opens = tt;
      closes = λ serial p q at goes live closed. inl
          (going_closes (place_after_deletion key) (deletion_closes key) p q goes live closed);
      plan = leaves_plan (Deletes key) PutsNone c c' reply d b bounds (sound.ranges.days b is).0;
      stays_row = λ serial p q at goes good. row_stays (place_after_deletion key) p q goes good;
      drafts_in_range = no_drafts DraftRanges;
      drafts_free = λ draft at generated other deletion there operator same. no_drafts (λ x. ⊥) draft at;
      by_operator = λ p q goes deleted. by_place p
          (deletion_operator key p.row p.place (ap (λ (x : PlacedRow). x.place) (sym goes) ∙ deleted));
      sizes = sizes_stay LongTerm (DeletionFate key) c.sets c'.sets sound' (deletion_keeps key) follows sound.sizes;
      links = links_none c sound c'.in_force d.lists;
      no_loop = loops_none c sound c'.in_force d.lists;
    }
  where
    by_place : (p : PlacedRow) → (p.place ≡ Deleted Operator) ⊎ (p.place ≡ LongTerm) → (p.place ≡ Deleted Operator)
        ⊎ ((p.place ≡ LongTerm) × ((draft : Draft) → Contains [] draft → IsGenerated draft.origin → ⊥))
    by_place p (inl was) = inl was
    by_place p (inr was) = inr (was, λ draft at generated. no_drafts (λ x. ⊥) draft at)

pub delete_lawful : (key : Key) → Lawful (delete_means key)
delete_lawful key = record {
  does_one = plans_do_one (Deletes key) PutsNone (delete_does_one key) none_is_one;
  details = λ c sound. plain _ (λ h. h) (λ n h. h) (λ h. h) (λ a h. h) (λ a h. h) (λ a h. h) (λ n h. h);
  follows = λ c reply c' sound d. ([], refl, follow c c' sound d.1.rows.becomes);
  keeps = λ all bounds. deletion_keeps key;
  sound = λ fine c reply c' sound none d.
      stays_sound LongTerm (DeletionFate key) _ c c' sound
      (delete_owes key c c' reply sound (λ h. none NoPlan h) d);
  jobs = λ c reply c' d. d.jobs;
  once = λ c reply c' d. stays_once c c' d.lists;
  replies = λ fine c reply c' sound sound' d.
      let rows = d.rows in
      subst (λ r. IsKeptReply (Ok r)) (sym rows.replies)
      (is_serial c sound rows.serial (record { row = rows.planned.row; place = LongTerm })
      (stands_in_ltp c.sets (rows_sound c sound) rows.serial rows.planned.row rows.planned.stands)).1;
  fresh = λ leaves c reply c' sound sound' d fresh. same_bounds_fresh (DeletionFate key) LongTerm [] c c' sound sound'
      (follow c c' sound d.1.rows.becomes) d.1.definitions fresh (deletion_leaves key fresh.bounds.plan_end)
      (no_drafts_named LongTerm c.definitions) (ap (λ (s : Sets). s.bounds) d.1.rows.becomes);
}
  where
    follow : (c c' : Content) → IsSound c → c'.sets ≡ each (delete_move key) c.sets
        → Follows LongTerm (DeletionFate key) [] c.sets c'.sets
    follow c c' sound is = subst (λ (s : Sets). Follows LongTerm (DeletionFate key) [] c.sets s) (sym is)
        (delete_follows key LongTerm c.sets (rows_sound c sound))
