-- The laws of the statements that change a status.
use Rattle.std.proofs.Common.{Some, [], ap, arith, inl, inr, refl, subst, sym, ℕ, ◌∙◌, ◌≡◌, ◌⊎◌}
use Rattle.std.specs.Prelude.{Contains, Ok}
use Rattle.external_dependencies.specs.declared.rows.PlacedRow.{PlacedRow}
use Rattle.occurrences.specs.Place.{IsLive, IsOpen}
use Rattle.occurrences.specs.declared.key.Key.{Key}
use Rattle.occurrences.specs.declared.place.Place.TheVariants.{Current, Deleted, LongTerm}
use Rattle.occurrences.specs.declared.place.Reason.TheVariants.{Operator}
use Rattle.occurrences.specs.declared.refusal.Refusal.{Refusal}
use Rattle.occurrences.specs.declared.refusal.Refusal.TheVariants.{NoPlan}
use Rattle.occurrences.specs.declared.reply.Reply.{Reply}
use Rattle.occurrences.specs.declared.status.Action.{Action}
use Rattle.planner_machine.specs.Act.{ActionRefused, Acts, IsLeastUncompleted, act_means, action_move}
use Rattle.planner_machine.specs.Content.{Content, IsOnlyAt, Sets}
use Rattle.planner_machine.specs.Fate.{ActionFate, place_after_action}
use Rattle.planner_machine.specs.InForce.{PutsNone}
use Rattle.planner_machine.specs.Laws.{Follows}
use Rattle.planner_machine.specs.Moves.{each}
use Rattle.planner_machine.specs.Pairs.{IsCompleteAt, pair_of}
use Rattle.planner_machine.specs.Plans.{ChangesPlans}
use Rattle.planner_machine.specs.RowsSound.{RowsSound}
use Rattle.planner_machine.specs.Sound.{IsKeptReply, IsSound}
use Rattle.planner_machine.proofs.ActionLemmas.{action_does_one, action_follows, action_sound, one_current}
use Rattle.planner_machine.proofs.ActionLemmas.{stands_in_cp}
use Rattle.planner_machine.proofs.AssembleLemmas.{Owes, stays_sound}
use Rattle.planner_machine.proofs.ClosedLemmas.{Starts}
use Rattle.planner_machine.proofs.DetailLemmas.{Details}
use Rattle.planner_machine.proofs.FollowLemmas.{action_keeps}
use Rattle.planner_machine.proofs.FreshLemmas.{Leaves}
use Rattle.planner_machine.proofs.FreshPlansLemmas.{no_drafts_named, same_bounds_fresh, stays_so}
use Rattle.planner_machine.proofs.JobLemmas.{is_serial, predecessor_serial}
use Rattle.planner_machine.proofs.Lawful.{Lawful}
use Rattle.planner_machine.proofs.LinkLemmas.{none_is_one}
use Rattle.planner_machine.proofs.OwesLemmas.{leaves_plan}
use Rattle.planner_machine.proofs.PlannedLemmas.{sizes_stay}
use Rattle.planner_machine.proofs.PlansLemmas.{plans_do_one, stays_once}
use Rattle.planner_machine.proofs.RangeLemmas.{DraftRanges}
use Rattle.planner_machine.proofs.SoundLemmas.{rows_sound}
use Rattle.planner_machine.proofs.StartLemmas.{action_closes}
use Rattle.planner_machine.proofs.StaysSoundLemmas.{action_operator, links_none, loops_none, no_drafts, plan_of}
use Rattle.planner_machine.proofs.StaysSoundLemmas.{row_stays}

action_leaves : (key : Key) (action : Action) (from : ℕ) → Leaves (ActionFate key action) from
action_leaves key action from = record {
  keeps = action_keeps key action;
  row = λ p q is. ap (λ (x : PlacedRow). x.row) is;
  ltp = λ p q is at _. inl (stays_so (place_after_action key action) p q is LongTerm at refl);
  deleted = λ p q is at. stays_so (place_after_action key action) p q is (Deleted Operator) at refl;
}

action_details : (key : Key) (action : Action) (c : Content) → IsSound c → Details (ActionRefused key action c)
action_details key action c sound = record {
  read = λ h. h;
  faulty = λ n h. h;
  same_text = λ h. h;
  calendar = ((λ a b h k. absurd h), λ a h. absurd h);
  period = ((λ a b h k. absurd h), λ a h. absurd h);
  loop = ((λ a b h k. absurd h), λ a h. absurd h);
  predecessor = (
    (λ m n h k.
        let (x, u, at_x, least) = h.1 in
        let (y, v, at_y, least') = k.1 in
        let one = one_current key action c.sets (rows_sound c sound) x y u v at_x at_y in
        let least'' : IsLeastUncompleted c x n = subst (λ z. IsLeastUncompleted c z n) (sym one.0) least' in
        let up = least.1 n least''.0 in let down = least''.1 m least.0 in
        omega arith),
    λ n h. let (x, u, at_x, least) = h.1 in (predecessor_serial c sound x n least.0.0).1,
  );
}

action_owes : (key : Key) (action : Action) (c c' : Content) (reply : Reply) → IsSound c
    → ((q : Refusal) → ActionRefused key action c q → ⊥) → (d : ChangesPlans (Acts key action) PutsNone c reply c')
    → Owes LongTerm (ActionFate key action) [] c c'
action_owes key action c c' reply sound none d =
    let sound' = rows_sound c sound in
    let (b, is) = plan_of c (λ h. none NoPlan h) in
    let bounds : c'.sets.bounds ≡ Some b = ap (λ (s : Sets). s.bounds) d.rows.becomes ∙ is in
    let follows : Follows LongTerm (ActionFate key action) [] c.sets c'.sets =
    subst (λ (s : Sets). Follows LongTerm (ActionFate key action) [] c.sets s) (sym d.rows.becomes)
    (action_follows key action LongTerm c.sets sound') in
    record {
      follows = follows;
      rows = subst RowsSound (sym d.rows.becomes) (action_sound key action c.sets sound');
      keeps = action_keeps key action;
      opens = tt;
      closes = λ serial p q at goes live closed. starting serial p at
          (action_closes key c (rows_sound c sound) action none serial p.row p.place at
          (subst (λ (x : PlacedRow). IsLive x.place) goes live)
          (λ open'. closed (subst (λ (x : PlacedRow). IsOpen x.place) (sym goes) open')));
      plan = leaves_plan (Acts key action) PutsNone c c' reply d b bounds (sound.ranges.days b is).0;
      stays_row = λ serial p q at goes good. row_stays (place_after_action key action) p q goes good;
      drafts_in_range = no_drafts DraftRanges;
      drafts_free = λ draft at generated other deletion there operator same. no_drafts (λ x. ⊥) draft at;
      by_operator = λ p q goes deleted. inl
          (action_operator key action p.row p.place (ap (λ (x : PlacedRow). x.place) (sym goes) ∙ deleted));
      sizes = sizes_stay LongTerm (ActionFate key action) c.sets c'.sets sound'
          (action_keeps key action) follows sound.sizes;
      links = links_none c sound c'.in_force d.lists;
      no_loop = loops_none c sound c'.in_force d.lists;
    }
  where
    starting : (serial : ℕ) (p : PlacedRow) → IsOnlyAt c.sets serial p → (IsLive p.place × (IsOpen p.place → ⊥))
        ⊎ (IsOpen p.place × ((n : ℕ) → Contains c.pairs (pair_of serial n) → IsCompleteAt c.sets n))
        → (IsLive p.place × (IsOpen p.place → ⊥)) ⊎ Starts c serial
    starting serial p at (inl closed) = inl closed
    starting serial p at (inr starts) =
        inr (record { placed = p; stood = at; waited = starts.0; predecessors = starts.1 })

pub act_lawful : (key : Key) (action : Action) → Lawful (act_means key action)
act_lawful key action = record {
  does_one = plans_do_one (Acts key action) PutsNone (action_does_one key action) none_is_one;
  details = action_details key action;
  follows = λ c reply c' sound d. ([], refl, follow c c' sound d.1.rows.becomes);
  keeps = λ all bounds. action_keeps key action;
  sound = λ fine c reply c' sound none d.
      stays_sound LongTerm (ActionFate key action) _ c c' sound (action_owes key action c c' reply sound none d);
  jobs = λ c reply c' d. d.jobs;
  once = λ c reply c' d. stays_once c c' d.lists;
  replies = λ fine c reply c' sound sound' d.
      let rows = d.rows in
      subst (λ r. IsKeptReply (Ok r)) (sym rows.replies)
      (is_serial c sound rows.serial (record { row = rows.there.row; place = Current rows.status })
      (stands_in_cp c.sets (rows_sound c sound) rows.serial _ rows.there.stands)).1;
  fresh = λ leaves c reply c' sound sound' d fresh.
      same_bounds_fresh (ActionFate key action) LongTerm [] c c' sound sound' (follow c c' sound d.1.rows.becomes)
      d.1.definitions fresh (action_leaves key action fresh.bounds.plan_end) (no_drafts_named LongTerm c.definitions)
      (ap (λ (s : Sets). s.bounds) d.1.rows.becomes);
}
  where
    follow : (c c' : Content) → IsSound c → c'.sets ≡ each (action_move key action) c.sets
        → Follows LongTerm (ActionFate key action) [] c.sets c'.sets
    follow c c' sound is = subst (λ (s : Sets). Follows LongTerm (ActionFate key action) [] c.sets s) (sym is)
        (action_follows key action LongTerm c.sets (rows_sound c sound))
