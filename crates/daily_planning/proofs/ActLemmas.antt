-- An action on an occurrence of the current plan is what the machine does.
use Rattle.std.proofs.Common.{◌≡◌, ◌≢◌, ◌⊎◌, ℕ, ◌≤◌, zero, suc, Bool, true, false, [], ◌∷◌, refl, arith, sym}
use Rattle.std.proofs.Common.{ap, subst, ◌∙◌, inl, inr, Some, None, Option}
use Rattle.std.specs.Prelude.{nat_eq, cond, option_map, unwrap_or, if◌then◌else◌}
use Rattle.std.specs.List.{Contains}
use Rattle.std.proofs.lemmas.Bool.{eqb-true, eqb-false, eq-eqb, ne_eqb}
use Rattle.occurrences.proofs.KeyLemmas.{key_same, same_key}
use Rattle.occurrences.specs.Place.{IsLive}
use Rattle.occurrences.specs.Status.{changed_status}
use Rattle.occurrences.specs.Refusal.{refusal_number}
use Rattle.occurrences.specs.declared.key.Key.{Key}
use Rattle.occurrences.specs.declared.place.CurrentRow.{CurrentRow}
use Rattle.occurrences.specs.declared.place.Place.{Place}
use Rattle.occurrences.specs.declared.place.Place.TheVariants.{LongTerm, Current, History, Deleted}
use Rattle.occurrences.specs.declared.refusal.Refusal.{Refusal}
use Rattle.occurrences.specs.declared.refusal.Refusal.TheVariants.{NoPlan, NoSuchOccurrence, PredecessorUncompleted}
use Rattle.occurrences.specs.declared.refusal.Refusal.TheVariants.{StatusForbids}
use Rattle.occurrences.specs.declared.reply.Reply.TheVariants.{Changed}
use Rattle.occurrences.specs.declared.row.Row.{Row}
use Rattle.occurrences.specs.declared.status.Action.{Action}
use Rattle.occurrences.specs.declared.status.Action.TheVariants.{Start, Complete, Fail, Reset, Delete}
use Rattle.occurrences.specs.declared.status.Status.{Status}
use Rattle.occurrences.specs.declared.status.Status.TheVariants.{W, S, E, C, D}
use Rattle.external_dependencies.specs.Nearest.{arrival_of}
use Rattle.external_dependencies.specs.declared.rows.PlacedRow.{PlacedRow}
use Rattle.planner_machine.specs.Act.{ActionRefused, Acts, IsCurrent, IsUncompleted, acted, acted_status, action_move}
use Rattle.planner_machine.specs.Act.{cp_action}
use Rattle.planner_machine.specs.Content.{Content, Seat, Sets, IsOnlyAt, seat}
use Rattle.planner_machine.specs.Fate.{place_after_action}
use Rattle.planner_machine.specs.InForce.{PutsNone}
use Rattle.planner_machine.specs.Moves.{each, has_key, or_else}
use Rattle.planner_machine.specs.Plans.{ChangesPlans}
use Rattle.planner_machine.specs.Sound.{IsSound}
use Rattle.planner_machine.proofs.ActionLemmas.{one_current, stands_in_cp}
use Rattle.planner_machine.specs.RowsSound.{RowsSound}
use Rattle.planner_machine.proofs.SoundLemmas.{rows_sound}
use Rattle.plan_store_lists.specs.Rows.{look_up, of_current, of_deletion, of_row}
use Rattle.plan_store.specs.Changes.{Fits, FitsSet, MovesNothing, after, moved_set, pairs_after, sets_after}
use Rattle.plan_store.specs.Verdicts.{VerdictIs}
use Rattle.plan_store.specs.Views.{IsCurrentRow}
use Rattle.plan_store.specs.declared.changes.Change.{Change}
use Rattle.plan_store.specs.declared.changes.Moves.{Moves}
use Rattle.plan_store.specs.declared.changes.Verdict.TheVariants.{Done, Refused}
use Rattle.daily_planning.specs.Actions.{ChangesStatus, IsActedOn, WaitsFor}
use Rattle.plan_store_pairs.specs.Withdrawals.{LosesRow}
use Rattle.daily_planning.proofs.ChangeLemmas.{after_moves, fits_moves, moved_is}
use Rattle.daily_planning.proofs.SetLemmas.{nothing, once_nothing, once_one}

stays_deleted : (action : Action) → acted_status action D ≡ D
stays_deleted Start = refl
stays_deleted Complete = refl
stays_deleted Fail = refl
stays_deleted Reset = refl
stays_deleted Delete = refl

deleted_or_not : (status : Status) → (status ≡ D) ⊎ (status ≢ D)
deleted_or_not W = inr (λ e. cc)
deleted_or_not S = inr (λ e. cc)
deleted_or_not E = inr (λ e. cc)
deleted_or_not C = inr (λ e. cc)
deleted_or_not D = inl refl

to_deleted : (was status : Status) → changed_status was Delete ≡ Some status → status ≡ D
to_deleted W status e = cc
to_deleted S status e = cc
to_deleted E status e = cc
to_deleted C status e = cc
to_deleted D status e = cc

module _ (c : Content) (sound : IsSound c) (action : Action) (changed : CurrentRow)
    (is : IsActedOn c action changed) where
  abbrev key : Key
  key = changed.row.key

  rows : RowsSound c.sets
  rows = rows_sound c sound

  pub there : IsCurrent c.sets key changed.row.serial is.was
  there = record { row = changed.row; stands = is.stands; keyed = refl; live = is.live }

  -- a row under another serial stays
  other_stays : (serial : ℕ) (x : CurrentRow) → c.sets.cp serial ≡ Some x → nat_eq changed.row.serial serial ≡ false
      → acted key action x.row x.status ≡ x.status
  other_stays serial x at other = elim (has_key key x.row) as
      (λ b. has_key key x.row ≡ b → (if b then acted_status action x.status else x.status) ≡ x.status) [
        | false ↦ λ e. refl
        | true ↦ λ e. elim (deleted_or_not x.status) [
          | inl gone ↦ ap (acted_status action) gone ∙ stays_deleted action ∙ sym gone
          | inr live ↦
              let mine : IsCurrent c.sets key serial x.status =
              record { row = x.row; stands = at; keyed = same_key x.row.key key e; live = live } in
              absurd (eqb-false _ _ other (one_current key action c.sets rows changed.row.serial serial is.was x.status
              there mine).0)
        ]
      ] refl

  -- the row takes its new status
  pub own_status : acted key action changed.row is.was ≡ changed.status
  own_status =
      let same : has_key key changed.row ≡ true = key_same key key refl in
      ap (λ (b : Bool). if b then acted_status action is.was else is.was) same ∙ ap (λ o. unwrap_or o is.was) is.allowed

  -- a row under another serial stays where it is
  pub place_stays : (serial : ℕ) (p : PlacedRow) → serial ≢ changed.row.serial → IsOnlyAt c.sets serial p
      → place_after_action key action p.row p.place ≡ p.place
  place_stays serial p other there = at p.row p.place there
    where
      at : (row : Row) (place : Place) → IsOnlyAt c.sets serial (record { row = row; place = place })
          → place_after_action key action row place ≡ place
      at row LongTerm there = refl
      at row (Current status) there = ap Current (other_stays serial (record { row = row; status = status })
          (ap (λ (x : Seat). x.cp) there) (ne_eqb _ _ (λ same. other (sym same))))
      at row History there = refl
      at row (Deleted reason) there = refl

  -- the current plan after the action
  pub cp_is : (serial : ℕ) → (if nat_eq changed.row.serial serial then Some changed else c.sets.cp serial) ≡ option_map
      (λ (x : CurrentRow). record x { status = acted key action x.row x.status }) (c.sets.cp serial)
  cp_is serial = elim (nat_eq changed.row.serial serial) as (λ b. nat_eq changed.row.serial serial ≡ b
      → (if b then Some changed else c.sets.cp serial) ≡ option_map
      (λ (x : CurrentRow). record x { status = acted key action x.row x.status }) (c.sets.cp serial)) [
        | true ↦ λ e.
            let here : c.sets.cp serial ≡ Some (record { row = changed.row; status = is.was }) =
            subst (λ n. c.sets.cp n ≡ Some (record { row = changed.row; status = is.was })) (eqb-true _ _ e)
            is.stands in
            let status : acted key action changed.row is.was ≡ changed.status = own_status in
            sym (ap (option_map (λ (x : CurrentRow). record x { status = acted key action x.row x.status })) here
            ∙ ap (λ s. Some (record { row = changed.row; status = s })) status)
        | false ↦ λ other. elim (c.sets.cp serial) as (λ o. c.sets.cp serial ≡ o → o ≡ option_map
            (λ (x : CurrentRow). record x { status = acted key action x.row x.status }) o) [
              | None ↦ λ at. refl
              | Some x ↦ λ at. ap (λ s. Some (record { row = x.row; status = s })) (sym (other_stays serial x at other))
            ] refl
      ] refl

  abbrev sets' : Sets
  sets' = each (action_move key action) c.sets

  at_own : sets'.cp changed.row.serial ≡ Some changed
  at_own = sym (cp_is changed.row.serial) ∙ ap (λ (b : Bool). if b then Some changed else c.sets.cp changed.row.serial)
      (eq-eqb changed.row.serial changed.row.serial refl)

  at_other : (serial : ℕ) → nat_eq changed.row.serial serial ≡ false → sets'.cp serial ≡ c.sets.cp serial
  at_other serial other = sym (cp_is serial) ∙ ap (λ (b : Bool). if b then Some changed else c.sets.cp serial) other

  -- under other serials nothing changes
  same_seat : (serial : ℕ) → serial ≢ changed.row.serial → seat sets' serial ≡ seat c.sets serial
  same_seat serial other =
      let same = at_other serial (ne_eqb _ _ (λ is. other (sym is))) in
      λ i. record {
        ltp = c.sets.ltp serial;
        cp = same i;
        history = c.sets.history serial;
        deletions = c.sets.deletions serial;
      }

  -- a row that is deleted lives no more
  deleted_gone : changed.status ≡ D → (place : Place) (row : Row)
      → IsOnlyAt sets' changed.row.serial (record { row = row; place = place }) → IsLive place → ⊥
  deleted_gone deleted LongTerm row at live =
      let no : None ≡ Some changed = sym (ap (λ (x : Seat). x.cp) at) ∙ at_own in cc
  deleted_gone deleted (Current status) row at live =
      let both : Some (record { row = row; status = status }) ≡ Some changed =
      sym (ap (λ (x : Seat). x.cp) at) ∙ at_own in
      let same : record { row = row; status = status } ≡ changed = cc in
      live (ap (λ (x : CurrentRow). x.status) same ∙ deleted)
  deleted_gone deleted History row at live =
      let no : None ≡ Some changed = sym (ap (λ (x : Seat). x.cp) at) ∙ at_own in cc
  deleted_gone deleted (Deleted reason) row at live = live

  -- the row is what its deletion withdraws
  pub deletion_loses : action ≡ Delete → LosesRow c.sets sets' changed.row
  deletion_loses deletes = record {
    placed = record { row = changed.row; place = Current is.was };
    of_row = refl;
    stood = stands_in_cp c.sets rows changed.row.serial (record { row = changed.row; status = is.was }) is.stands;
    lived = is.live;
    planned = λ past. cc;
    gone = λ p at live. deleted_gone (to_deleted is.was changed.status
        (ap (changed_status is.was) (sym deletes) ∙ is.allowed)) p.place p.row at live;
    others = λ serial other p. ((λ at. same_seat serial other ∙ at), λ at. sym (same_seat serial other) ∙ at);
  }

  module _ (change : Change) (d : ChangesStatus c action changed change) where
    none_moves : {X : Type 0} (row_of : X → Row) (moves : Moves X) (set : ℕ → Option X) → MovesNothing moves
        → FitsSet row_of moves set
    none_moves row_of moves set n = fits_moves row_of moves [] [] n.gone n.changed n.put set (once_nothing row_of)
        (once_nothing row_of)
        (λ x has. absurd (nothing x has)) (λ x has. absurd (nothing x has))

    only : (x : CurrentRow) → Contains (changed ∷ []) x → changed ≡ x
    only x (zero, lt, at) = at
    only x (suc k, lt, at) = absurd (nothing x (k, omega arith, at))

    fits_cp : FitsSet of_current change.cp c.sets.cp
    fits_cp = record {
      gone_once = subst (λ xs. Rattle.plan_store_lists.specs.Rows.HasEachOnce of_current xs) (sym d.gone)
          (once_nothing of_current);
      changed_once = subst (λ xs. Rattle.plan_store_lists.specs.Rows.HasEachOnce of_current xs) (sym d.one_changed)
          (once_one of_current changed);
      put_once = subst (λ xs. Rattle.plan_store_lists.specs.Rows.HasEachOnce of_current xs) (sym d.put)
          (once_nothing of_current);
      goes = λ x has. absurd (nothing x (subst (λ l. Contains l x) d.gone has));
      changes = λ x has.
          let P : CurrentRow → Type 0 = λ y. (was : CurrentRow) × (c.sets.cp y.row.serial ≡ Some was)
          × (arrival_of was.row ≡ arrival_of y.row) in
          subst P (only x (subst (λ l. Contains l x) d.one_changed has))
          (record { row = changed.row; status = is.was }, is.stands, refl);
      stays = λ x has. ap (λ l. look_up (λ (y : CurrentRow). y.row.serial) l x.row.serial) d.gone;
      new = λ x has. absurd (nothing x (subst (λ l. Contains l x) d.put has));
    }

    fits_action : Fits change c
    fits_action = record {
      ltp = none_moves of_row change.ltp c.sets.ltp d.ltp;
      cp = fits_cp;
      history = none_moves of_row change.history c.sets.history d.history;
      deletions = none_moves of_deletion change.deletions c.sets.deletions d.deletions;
      job = λ job at. let none = d.job in cc;
    }

    one_changes : (serial : ℕ) (o : Option CurrentRow) (b : Bool)
        → or_else (cond b (Some changed) None) o ≡ (if b then Some changed else o)
    one_changes serial o true = refl
    one_changes serial o false = refl

    cp_after : (serial : ℕ) → moved_set of_current change.cp c.sets.cp serial ≡ sets'.cp serial
    cp_after serial = moved_is of_current change.cp [] (changed ∷ []) [] d.gone d.one_changed d.put c.sets.cp serial
        ∙ one_changes serial (c.sets.cp serial) (nat_eq changed.row.serial serial) ∙ cp_is serial

    sets_are : sets_after change c.sets ≡ sets'
    sets_are i = record {
      bounds = ap (λ o. or_else o c.sets.bounds) d.bounds i;
      issued = ap (λ o. unwrap_or o c.sets.issued) d.issued i;
      ltp = λ serial. moved_is of_row change.ltp [] [] [] d.ltp.gone d.ltp.changed d.ltp.put c.sets.ltp serial i;
      cp = λ serial. cp_after serial i;
      history = λ serial. moved_is of_row change.history [] [] [] d.history.gone d.history.changed d.history.put
          c.sets.history serial i;
      deletions = λ serial. moved_is of_deletion change.deletions [] [] [] d.deletions.gone d.deletions.changed
          d.deletions.put c.sets.deletions serial i;
    }

    pub action_does : Fits change c × ChangesPlans (Acts key action) PutsNone c
        (Changed changed.row.serial changed.status) (after change c)
    action_does = (
      fits_action,
      subst (ChangesPlans (Acts key action) PutsNone c (Changed changed.row.serial changed.status))
          (sym (after_moves change c d.definitions d.in_force d.job sets' sets_are (pairs_after change.pairs c.pairs)
          refl))
          (record {
            rows = record {
              serial = changed.row.serial;
              status = is.was;
              new_status = changed.status;
              there = there;
              allowed = is.allowed;
              replies = refl;
              becomes = refl;
            };
            lists = refl;
            pairs = d.pairs;
            definitions = refl;
            jobs = refl;
          }),
    )

    -- nothing is refused, and the action is done
    pub action_done : c.sets.bounds ≢ None → WaitsFor c action changed.row.serial None
        → VerdictIs (cp_action key action) c (Done change (Changed changed.row.serial changed.status))
    action_done some waits = (action_does.0, (none_holds, action_does.1), d.leads)
      where
        none_holds : (q : Refusal) → ActionRefused key action c q → ⊥
        none_holds NoPlan q = some q
        none_holds NoSuchOccurrence q = q changed.row.serial is.was there
        none_holds StatusForbids (serial, status, mine, bars) =
            let same = (one_current key action c.sets rows serial changed.row.serial status is.was mine there).1 in
            let yes = is.allowed in
            let both : None ≡ Some changed.status = sym bars ∙ ap (λ s. changed_status s action) same ∙ yes in cc
        none_holds (PredecessorUncompleted n) (start, (serial, status, mine, least)) =
            let same = (one_current key action c.sets rows serial changed.row.serial status is.was mine there).0 in
            waits start n (subst (λ m. IsUncompleted c m n) same least.0)
        none_holds _ q = q

  -- a start that has to wait
  pub action_waits : c.sets.bounds ≢ None → (n : ℕ) → WaitsFor c action changed.row.serial (Some n)
      → VerdictIs (cp_action key action) c (Refused (PredecessorUncompleted n))
  action_waits some n waits = (((waits.0, (changed.row.serial, is.was, there, waits.1)), least), refl)
    where
      least : (q : Refusal) → ActionRefused key action c q → 30 ≤ refusal_number q
      least NoPlan q = absurd (some q)
      least NoSuchOccurrence q = absurd (q changed.row.serial is.was there)
      least StatusForbids (serial, status, mine, bars) =
          let same = (one_current key action c.sets rows serial changed.row.serial status is.was mine there).1 in
          let yes = is.allowed in
          let both : None ≡ Some changed.status = sym bars ∙ ap (λ s. changed_status s action) same ∙ yes in cc
      least (PredecessorUncompleted m) q = omega arith
      least _ q = absurd q

module _ (key : Key) (action : Action) (c : Content) where
  pub refused_no_plan : c.sets.bounds ≡ None → VerdictIs (cp_action key action) c (Refused NoPlan)
  refused_no_plan none = ((none, least), refl)
    where
      least : (q : Refusal) → ActionRefused key action c q → 20 ≤ refusal_number q
      least NoPlan q = omega arith
      least NoSuchOccurrence q = omega arith
      least StatusForbids q = omega arith
      least (PredecessorUncompleted n) q = omega arith
      least _ q = absurd q

  pub refused_no_row : c.sets.bounds ≢ None → IsCurrentRow c.sets key None
      → VerdictIs (cp_action key action) c (Refused NoSuchOccurrence)
  refused_no_row some none = (
    ((λ serial status is. none serial (record { row = is.row; status = status }) is.stands is.keyed is.live), least),
    refl,
  )
    where
      least : (q : Refusal) → ActionRefused key action c q → 28 ≤ refusal_number q
      least NoPlan q = absurd (some q)
      least NoSuchOccurrence q = omega arith
      least StatusForbids q = omega arith
      least (PredecessorUncompleted n) q = omega arith
      least _ q = absurd q

  pub refused_status : c.sets.bounds ≢ None → (current : CurrentRow) → IsCurrentRow c.sets key (Some current)
      → changed_status current.status action ≡ None → VerdictIs (cp_action key action) c (Refused StatusForbids)
  refused_status some current is bars = (((current.row.serial, current.status, there, bars), least), refl)
    where
      there : IsCurrent c.sets key current.row.serial current.status
      there = record { row = current.row; stands = is.0; keyed = is.1; live = is.2 }

      least : (q : Refusal) → ActionRefused key action c q → 29 ≤ refusal_number q
      least NoPlan q = absurd (some q)
      least NoSuchOccurrence q = absurd (q current.row.serial current.status there)
      least StatusForbids q = omega arith
      least (PredecessorUncompleted n) q = omega arith
      least _ q = absurd q
