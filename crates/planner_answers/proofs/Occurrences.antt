-- Statements on one occurrence: additions, deletions and changes of status.
use Rattle.std.proofs.Common.{◌≡◌, ◌≢◌, ◌⊎◌, ℕ, ◌+◌, ◌≤◌, [], ◌∷◌, length, refl, sym}
use Rattle.std.proofs.Common.{subst, ◌∙◌, inl, inr, arith, Option, None, Some}
use Rattle.std.specs.List.{Contains}
use Rattle.occurrences.specs.Place.{IsLive}
use Rattle.occurrences.specs.Status.{changed_status}
use Rattle.occurrences.specs.declared.key.Key.{Key}
use Rattle.occurrences.specs.declared.place.CurrentRow.{CurrentRow}
use Rattle.occurrences.specs.declared.place.Place.{Place}
use Rattle.occurrences.specs.declared.place.Place.TheVariants.{LongTerm, Current, History, Deleted}
use Rattle.occurrences.specs.declared.refusal.Refusal.TheVariants.{NoSuchOccurrence, StatusForbids}
use Rattle.occurrences.specs.declared.reply.Reply.{Reply}
use Rattle.occurrences.specs.declared.reply.Reply.TheVariants.{Changed, Numbered}
use Rattle.occurrences.specs.declared.status.Action.{Action}
use Rattle.occurrences.specs.declared.status.Action.TheVariants.{Start, Complete, Fail, Reset, Delete}
use Rattle.occurrences.specs.declared.status.Status.{Status}
use Rattle.occurrences.specs.declared.status.Status.TheVariants.{D}
use Rattle.external_dependencies.specs.declared.pairs.Pair.{Pair}
use Rattle.planner_machine.specs.declared.content.Bounds.{Bounds}
use Rattle.planner_machine.specs.Act.{ActionRefused, Acts, IsCurrent, IsLeastUncompleted, IsUncompleted, action_move, cp_action}
use Rattle.planner_machine.specs.Add.{AddRefused, Adds, IsLiveKey, IsOutside, add}
use Rattle.planner_machine.specs.Content.{Content, midnight}
use Rattle.planner_machine.specs.Delete.{DeleteRefused, Deletes, IsPlanned, delete_move, ltp_delete}
use Rattle.planner_machine.specs.Drafts.{added}
use Rattle.planner_machine.specs.InForce.{PutsNone}
use Rattle.planner_machine.specs.Moves.{each, with_made}
use Rattle.planner_machine.specs.Pairs.{pair_of}
use Rattle.planner_machine.specs.Plans.{ChangesPlans}
use Rattle.planner_machine.specs.Sound.{IsSound}
use Rattle.planner_answers.proofs.Finite.{Decided, Finite, decided_any, decided_both, decided_either, decided_le, decided_lt}
use Rattle.planner_answers.proofs.Finite.{decided_not, decided_number, decided_so, decided_some, finite_if, finite_list}
use Rattle.planner_answers.proofs.Finite.{finite_made, finite_so}
use Rattle.planner_answers.proofs.Ordered.{least}
use Rattle.planner_answers.proofs.Orders.{decided_key}
use Rattle.planner_answers.proofs.Names.{decided_none, decided_planned}
use Rattle.planner_answers.proofs.Rows.{IsEnded, decided_live, decided_row, decided_status, each_ends, finite_cp, finite_ltp}
use Rattle.planner_answers.proofs.Rows.{made_ends, sound_ends}
use Rattle.planner_answers.proofs.Pairs.{decided_complete_at}
use Rattle.planner_answers.proofs.Decisions.{AreDecided, IsAnswered, answered}
use Rattle.planner_answers.proofs.Plans.{decided_bounds, decided_too_many, plans_done}

-- `ltp-add` and `cp-add`

decided_outside : (b : Bounds) (ia : ℕ) (place : Place) → Decided (IsOutside b ia place)
decided_outside b ia LongTerm = decided_either (decided_lt ia b.plan_end) (decided_le (midnight (b.last_day + 1)) ia)
decided_outside b ia (Current status) = decided_either (decided_lt ia (midnight b.first_day)) (decided_le b.plan_end ia)
decided_outside b ia History = decided_either (decided_lt ia (midnight b.first_day)) (decided_le b.plan_end ia)
decided_outside b ia (Deleted reason) = decided_either (decided_lt ia (midnight b.first_day)) (decided_le b.plan_end ia)

module _ (place : Place) (key : Key) (c : Content) (sound : IsSound c) where
  decided_live_key : Decided (IsLiveKey c.sets key)
  decided_live_key =
      decided_so
      (λ (serial, p, stands, both). (serial, p, stands, both.0, both.1))
      (λ (serial, p, stands, live, same). (serial, p, stands, (live, same)))
      (decided_row c.sets c.sets.issued (sound_ends c sound) (λ serial p. IsLive p.place × (p.row.key ≡ key))
      (λ serial p. decided_both (decided_live p.place) (decided_key p.row.key key)))

  add_decided : AreDecided (AddRefused place key c)
  add_decided = record {
    not_a_statement = inr (λ h. h);
    faulty_data = inr (λ h. h.1);
    another_text = inr (λ h. h);
    not_defined = inr (λ h. h);
    no_plan = decided_none c.sets.bounds;
    plan_exists = inr (λ h. h);
    calendar = inr (λ h. h.1);
    period = inr (λ h. h.1);
    dates = decided_bounds c.sets.bounds (λ b. IsOutside b key.ia place) (λ b. decided_outside b key.ia place);
    loop = inr (λ h. h.1);
    no_application = decided_not (decided_planned c.definitions key.app);
    key_is_live = decided_live_key;
    no_occurrence = inr (λ h. h);
    status = inr (λ h. h);
    predecessor = inr (λ h. h.1);
    too_many = decided_too_many (Adds place key) (λ all s reply reply' s' s'' rows a b. (a.0 ∙ sym b.0, a.1 ∙ sym b.1))
        c sound _ _ (refl, refl);
    plan_end = inr (λ h. h);
  }

  pub add_answered : IsAnswered (add place key) c
  add_answered =
      answered (add place key) c add_decided (λ none.
      plans_done (Adds place key) PutsNone c (Numbered (c.sets.issued + 1)) (with_made place (added key ∷ []) c.sets)
      (c.sets.issued + length (added key ∷ [])) (refl, refl) (made_ends place (added key ∷ []) c.sets (sound_ends c sound))
      c.in_force refl)

-- `ltp-delete`

module _ (key : Key) (c : Content) (sound : IsSound c) where
  decided_there : Decided ((serial : ℕ) × IsPlanned c.sets key serial)
  decided_there =
      decided_so
      (λ (e, stands, keyed). (e.0, record { row = e.1; stands = stands; keyed = keyed }))
      (λ (serial, is). ((serial, is.row), is.stands, is.keyed))
      (decided_any (finite_ltp c.sets c.sets.issued (sound_ends c sound)) (λ e stands. decided_key e.1.key key))

  delete_decided : AreDecided (DeleteRefused key c)
  delete_decided = record {
    not_a_statement = inr (λ h. h);
    faulty_data = inr (λ h. h.1);
    another_text = inr (λ h. h);
    not_defined = inr (λ h. h);
    no_plan = decided_none c.sets.bounds;
    plan_exists = inr (λ h. h);
    calendar = inr (λ h. h.1);
    period = inr (λ h. h.1);
    dates = inr (λ h. h);
    loop = inr (λ h. h.1);
    no_application = inr (λ h. h);
    key_is_live = inr (λ h. h);
    no_occurrence = decided_so (λ none serial is. none (serial, is)) (λ none found. none found.0 found.1) (decided_not decided_there);
    status = inr (λ h. h);
    predecessor = inr (λ h. h.1);
    too_many = inr (λ h. h);
    plan_end = inr (λ h. h);
  }

  delete_ends : IsEnded (each (delete_move key) c.sets) c.sets.issued
  delete_ends = each_ends (delete_move key) c.sets c.sets.issued refl (sound_ends c sound)

  pub delete_answered : IsAnswered (ltp_delete key) c
  delete_answered = answered (ltp_delete key) c delete_decided (λ none. elim decided_there [
    | inl found ↦
        plans_done (Deletes key) PutsNone c (Numbered found.0) (each (delete_move key) c.sets) c.sets.issued
        (record { serial = found.0; planned = found.1; replies = refl; becomes = refl }) delete_ends c.in_force refl
    | inr missing ↦ absurd (none NoSuchOccurrence (λ serial is. missing (serial, is)))
  ])

-- actions

decided_start : (action : Action) → Decided (action ≡ Start)
decided_start Start = inl refl
decided_start Complete = inr (λ h. cc)
decided_start Fail = inr (λ h. cc)
decided_start Reset = inr (λ h. cc)
decided_start Delete = inr (λ h. cc)

allowed_or_not : (o : Option Status) → (o ≡ None) ⊎ ((status : Status) × (o ≡ Some status))
allowed_or_not None = inl refl
allowed_or_not (Some status) = inr (status, refl)

module _ (key : Key) (action : Action) (c : Content) (sound : IsSound c) where
  finite_current : Finite (λ (x : ℕ × Status). IsCurrent c.sets key x.0 x.1)
  finite_current =
      finite_so to back
      (finite_made (λ (e : ℕ × CurrentRow). (e.0, e.1.status))
      (finite_if (finite_cp c.sets c.sets.issued (sound_ends c sound))
      (λ e stands. decided_both (decided_key e.1.row.key key) (decided_not (decided_status e.1.status D)))))
    where
      to : (x : ℕ × Status)
          → ((e : ℕ × CurrentRow) × ((c.sets.cp e.0 ≡ Some e.1) × ((e.1.row.key ≡ key) × (e.1.status ≢ D)))
          × (◌≡◌ {A = ℕ × Status} (e.0, e.1.status) x))
          → IsCurrent c.sets key x.0 x.1
      to x (e, (stands, both), same) =
          subst (λ (y : ℕ × Status). IsCurrent c.sets key y.0 y.1) same
          (record { row = e.1.row; stands = stands; keyed = both.0; live = both.1 })

      back : (x : ℕ × Status) → IsCurrent c.sets key x.0 x.1
          → (e : ℕ × CurrentRow) × ((c.sets.cp e.0 ≡ Some e.1) × ((e.1.row.key ≡ key) × (e.1.status ≢ D)))
          × (◌≡◌ {A = ℕ × Status} (e.0, e.1.status) x)
      back x is = ((x.0, record { row = is.row; status = x.1 }), (is.stands, (is.keyed, is.live)), refl)

  finite_uncompleted : (serial : ℕ) → Finite (IsUncompleted c serial)
  finite_uncompleted serial =
      finite_if (finite_so to (λ n there. (pair_of serial n, (there, refl), refl))
      (finite_made (λ (pair : Pair). pair.predecessor)
      (finite_if (finite_list c.pairs) (λ pair there. decided_number pair.successor serial))))
      (λ n there. decided_not (decided_complete_at c.sets c.sets.issued (sound_ends c sound) n))
    where
      to : (n : ℕ) → ((pair : Pair) × (Contains c.pairs pair × (pair.successor ≡ serial)) × (pair.predecessor ≡ n))
          → Contains c.pairs (pair_of serial n)
      to n (pair, both, same) =
          subst (λ m. Contains c.pairs (pair_of serial m)) same
          (subst (λ m. Contains c.pairs (pair_of m pair.predecessor)) both.1 both.0)

  decided_uncompleted : (serial : ℕ) → Decided ((n : ℕ) × IsLeastUncompleted c serial n)
  decided_uncompleted serial =
      elim (least (λ m n. m ≤ n) (λ l m n h k. omega (arith, h, k)) (finite_uncompleted serial) (λ m n h k. either m n)) [
        | inl none ↦ inr (λ (n, is). none n is.0)
        | inr found ↦ inl (found.0, (found.1, found.2))
      ]
    where
      either : (m n : ℕ) → (m ≤ n) ⊎ (n ≤ m)
      either m n = elim (decided_le m n) [
        | inl le ↦ inl le
        | inr more ↦ inr (omega arith)
      ]

  decided_forbidden : Decided ((serial : ℕ) × (status : Status) × IsCurrent c.sets key serial status
      × (changed_status status action ≡ None))
  decided_forbidden =
      decided_so
      (λ (x, is, none). (x.0, x.1, is, none))
      (λ (serial, status, is, none). ((serial, status), is, none))
      (decided_any finite_current (λ x is. decided_none (changed_status x.1 action)))

  decided_waits : Decided ((n : ℕ) × ((action ≡ Start) × ((serial : ℕ) × (status : Status)
      × IsCurrent c.sets key serial status × IsLeastUncompleted c serial n)))
  decided_waits =
      decided_so
      (λ (start, (x, is, (n, least))). (n, (start, (x.0, x.1, is, least))))
      (λ (n, (start, (serial, status, is, least))). (start, ((serial, status), is, (n, least))))
      (decided_both (decided_start action) (decided_any finite_current (λ x is. decided_uncompleted x.0)))

  action_decided : AreDecided (ActionRefused key action c)
  action_decided = record {
    not_a_statement = inr (λ h. h);
    faulty_data = inr (λ h. h.1);
    another_text = inr (λ h. h);
    not_defined = inr (λ h. h);
    no_plan = decided_none c.sets.bounds;
    plan_exists = inr (λ h. h);
    calendar = inr (λ h. h.1);
    period = inr (λ h. h.1);
    dates = inr (λ h. h);
    loop = inr (λ h. h.1);
    no_application = inr (λ h. h);
    key_is_live = inr (λ h. h);
    no_occurrence = decided_so (λ none serial status is. none ((serial, status), is)) (λ none found. none found.0.0 found.0.1 found.1)
        (decided_not (decided_some finite_current));
    status = decided_forbidden;
    predecessor = decided_waits;
    too_many = inr (λ h. h);
    plan_end = inr (λ h. h);
  }

  action_ends : IsEnded (each (action_move key action) c.sets) c.sets.issued
  action_ends = each_ends (action_move key action) c.sets c.sets.issued refl (sound_ends c sound)

  act : (x : ℕ × Status) → IsCurrent c.sets key x.0 x.1 → (status : Status) → changed_status x.1 action ≡ Some status
      → (reply : Reply) × (c' : Content) × ChangesPlans (Acts key action) PutsNone c reply c'
  act x is status allowed =
      plans_done (Acts key action) PutsNone c (Changed x.0 status) (each (action_move key action) c.sets) c.sets.issued
      (record {
        serial = x.0;
        status = x.1;
        new_status = status;
        there = is;
        allowed = allowed;
        replies = refl;
        becomes = refl;
      }) action_ends c.in_force refl

  pub action_answered : IsAnswered (cp_action key action) c
  action_answered = answered (cp_action key action) c action_decided (λ none. elim (decided_some finite_current) [
    | inl found ↦ elim (allowed_or_not (changed_status found.0.1 action)) [
      | inl forbidden ↦ absurd (none StatusForbids (found.0.0, found.0.1, found.1, forbidden))
      | inr allowed ↦ act found.0 found.1 allowed.0 allowed.1
    ]
    | inr missing ↦ absurd (none NoSuchOccurrence (λ serial status is. missing ((serial, status), is)))
  ])
