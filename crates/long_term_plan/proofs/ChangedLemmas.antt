-- A change that modifies the long-term plan, and what it makes of a content.
use Rattle.std.proofs.Common.{◌≡◌, ◌↔◌, ◌⊎◌, ℕ, ◌+◌, ◌++◌, List, [], length, map, refl, sym, ap, subst, ◌∙◌, inl, inr}
use Rattle.std.proofs.Common.{arith, Option, None, Some}
use Rattle.std.specs.Prelude.{is_some, option_map, unwrap_or, if◌then◌else◌}
use Rattle.std.specs.List.{Contains}
use Rattle.std.proofs.lemmas.List.Elements.{Contains-append_cases, Contains-append_left, Contains-append_right}
use Rattle.app_definitions.specs.declared.definitions.Definitions.{Definitions}
use Rattle.app_definition_records.proofs.RisingLemmas.{Contains-map_back}
use Rattle.occurrences.specs.declared.place.CurrentRow.{CurrentRow}
use Rattle.occurrences.specs.declared.place.Deletion.{Deletion}
use Rattle.occurrences.specs.declared.place.Place.TheVariants.{LongTerm}
use Rattle.occurrences.specs.declared.row.Row.{Row}
use Rattle.external_dependencies.specs.declared.links.Link.{Link}
use Rattle.planner_machine.specs.declared.content.Draft.{Draft}
use Rattle.planner_machine.specs.Content.{Content, Seat, Sets, seat}
use Rattle.planner_machine.specs.Modify.{looks_at, modify_move, withdrawn}
use Rattle.planner_machine.specs.Moves.{each, made, or_else, seat_made, size}
use Rattle.planner_machine.specs.Pairs.{ArePairs}
use Rattle.planner_machine.specs.Plans.{planned as size_of_plans}
use Rattle.planner_machine.specs.Sound.{IsSound}
use Rattle.planner_machine.proofs.DeleteLemmas.{stands_in_ltp}
use Rattle.planner_machine.proofs.ModifyLemmas.{between, between_sound, any_tests, that_tests, Tests}
use Rattle.planner_machine.specs.RowsSound.{RowsSound}
use Rattle.planner_machine.proofs.SoundLemmas.{rows_sound}
use Rattle.plan_store_lists.specs.Rows.{HasEachOnce, look_up, of_current, of_deletion, of_row}
use Rattle.plan_store.specs.Changes.{Fits, LeadsOn, MovesNothing, lists_after, pairs_after, sets_after}
use Rattle.plan_store.specs.Views.{IsAny, ListsSet}
use Rattle.plan_store.specs.declared.changes.Change.{Change}
use Rattle.plan_store.specs.declared.changes.DefinitionChange.TheVariants.{AsBefore}
use Rattle.plan_store_pairs.specs.LiveRows.{AreCompleted, HasLists}
use Rattle.plan_store_pairs.proofs.RowLemmas.{of_set}
use Rattle.plan_store_pairs.proofs.SetLemmas.{fits_nothing, fits_put, moves_nothing, moves_put}
use Rattle.long_term_plan.specs.Making.{MakesSets, numbered}
use Rattle.long_term_plan.specs.Modifying.{AreParted, Looks, looks, modified_sets, outcome}
use Rattle.long_term_plan.proofs.DeleteLemmas.{serial_is}
use Rattle.long_term_plan.proofs.MakingLemmas.{cp_stays, deletions_stay, history_stays, ltp_gains}
use Rattle.long_term_plan.proofs.ModifyingLemmas.{changed_other, count_planned, fits_parted, gone_in, gone_look}
use Rattle.long_term_plan.proofs.ModifyingLemmas.{gone_once, look_withdrawn, moved_ltp, once_withdrawn, planned_has}
use Rattle.long_term_plan.proofs.NumberLemmas.{made_listed, numbered_high, numbered_look, numbered_made, planned_after}

-- the test of applications says what the relation says
pub looks_tests : (only : Option (List ℕ)) → Tests (looks only) (Looks only)
looks_tests None = any_tests
looks_tests (Some app) = that_tests app

-- what a change is that modifies
pub record IsModifying (c : Content) (links : List Link) (only : Option (List ℕ)) (named new : List Draft)
    (gone_rows changed_rows : List Row) (change : Change) : Type 0 where
  pub gone : change.ltp.gone.items ≡ gone_rows
  pub changed : change.ltp.changed.items ≡ changed_rows
  pub put : change.ltp.put.items ≡ numbered c.sets.issued new
  pub none_back : change.deletions.gone.items ≡ []
  pub none_changed : change.deletions.changed.items ≡ []
  pub deleted : change.deletions.put.items ≡ map withdrawn gone_rows
  pub cp : MovesNothing change.cp
  pub history : MovesNothing change.history
  pub bounds : change.bounds ≡ None
  pub issued : change.issued ≡ Some (c.sets.issued + length new)
  pub in_force : lists_after change.in_force c.in_force ≡ links
  pub definitions : change.definitions ≡ AsBefore
  pub job : change.job ≡ None
  pub pairs : ArePairs c.pairs links (modified_sets only named new c.sets) (pairs_after change.pairs c.pairs)
  pub leads : LeadsOn c.pairs change.pairs

module _ (all : Definitions) (c : Sets) (sound : RowsSound c) (only : Option (List ℕ)) (named : List Draft) where
  abbrev pub middle : Sets
  middle = each (modify_move (looks_at (looks only)) named) c

  pub middle_sound : RowsSound middle
  unfolding between
  middle_sound = between_sound (looks only) (Looks only) (looks_tests only) all c sound named

module _ (all : Definitions) (c : Sets) (sound : RowsSound c) (rows : List Row)
    (lists : ListsSet of_row c.ltp IsAny rows) (only : Option (List ℕ)) (named : List Draft)
    (planned gone changed : List Row) (is : AreParted (outcome only named) rows planned gone changed) (new : List Draft)
  where
    abbrev mid : Sets
    mid = middle all c sound only named

    mid_sound : RowsSound mid
    mid_sound = middle_sound all c sound only named

    abbrev target : Sets
    target = modified_sets only named new c

    in_plan : (serial : ℕ) (row : Row) (m : Option Row) → made c.issued new serial ≡ m
        → (seat_made LongTerm m (seat mid serial)).ltp ≡ Some row
        → (Contains planned row ⊎ Contains (numbered c.issued new) row) × (row.serial ≡ serial)
    in_plan serial row None none at =
        let own = serial_is mid mid_sound serial row at in (
          inl ((planned_has c sound rows lists only named planned gone changed is row).1
              (subst (λ n. mid.ltp n ≡ Some row) (sym own) at)),
          own,
        )
    in_plan serial row (Some other) some at =
        let same : other ≡ row = cc in
        let here = made_listed c.issued new serial row (some ∙ at) in (inr here.0, here.1)

    in_lists : (row : Row) → Contains (planned ++ numbered c.issued new) row
        ↔ (target.ltp row.serial ≡ Some row)
    in_lists row = (
      (λ there. elim (Contains-append_cases planned (numbered c.issued new) row there) [
        | inl stays ↦
            let at = (planned_has c sound rows lists only named planned gone changed is row).0 stays in
            sym (ltp_gains mid mid_sound new row.serial (made c.issued new row.serial))
            ∙ ap (λ m. or_else m (mid.ltp row.serial)) (none_made row at) ∙ at
        | inr put ↦ ap (λ m. (seat_made LongTerm m (seat mid row.serial)).ltp) (numbered_made c.issued new row put)
      ]),
      λ at. elim (in_plan row.serial row (made c.issued new row.serial) refl at).0 [
        | inl was ↦ Contains-append_left planned (numbered c.issued new) row was
        | inr put ↦ Contains-append_right planned (numbered c.issued new) row put
      ],
    )
      where
        none_made : (row : Row) → mid.ltp row.serial ≡ Some row → made c.issued new row.serial ≡ None
        none_made row at = by_made (made c.issued new row.serial) refl
          where
            by_made : (m : Option Row) → made c.issued new row.serial ≡ m → m ≡ None
            by_made None some = refl
            by_made (Some other) some =
                let (there, same) = made_listed c.issued new row.serial other some in
                let high = numbered_high c.issued new other there in
                let empty = ap (λ (s : Seat). s.ltp)
                (mid_sound.unissued row.serial (inr (omega (arith, high, same)))) in
                let no : None ≡ Some row = sym empty ∙ at in cc

    -- the rows of the plans and of history then
    pub lists_then : RowsSound target → (cp : List CurrentRow) → ListsSet of_current c.cp IsAny cp
        → (history : List Row) → AreCompleted c history
        → HasLists target (planned ++ numbered c.issued new) cp history
    lists_then keeps cp cp_are history history_are = record {
      sound = keeps;
      ltp = in_lists;
      cp = λ x. subst (λ (o : Option CurrentRow). Contains cp x ↔ (o ≡ Some x))
          (cp_stays mid mid_sound new x.row.serial (made c.issued new x.row.serial) refl)
          (of_set of_current c.cp cp cp_are x);
      history = λ x. subst (λ (o : Option Row). Contains history x ↔ (o ≡ Some x))
          (history_stays mid mid_sound new x.serial (made c.issued new x.serial) refl)
          (history_are x);
    }

    -- how many rows the plans have then
    pub planned_then : size_of_plans target
        ≡ length planned + size c.cp c.issued + length new
    planned_then =
        let all_rows = planned_after mid new (λ serial past. mid_sound.unissued serial (inr past)) in
        let stay = count_planned c sound rows lists only named planned gone changed is in
        omega (arith, all_rows, stay)

module _ (c : Content) (sound : IsSound c) (links : List Link) (rows : List Row)
    (lists : ListsSet of_row c.sets.ltp IsAny rows) (only : Option (List ℕ)) (named new : List Draft)
    (planned gone changed : List Row) (is : AreParted (outcome only named) rows planned gone changed) (change : Change)
    (m : IsModifying c links only named new gone changed change) where
  own : RowsSound c.sets
  own = rows_sound c sound

  abbrev mid_of : Sets
  mid_of = middle c.definitions c.sets own only named

  mid_of_sound : RowsSound mid_of
  mid_of_sound = middle_sound c.definitions c.sets own only named

  abbrev new_at : ℕ → Option Row
  new_at serial = made c.sets.issued new serial

  deleted_free : (d : Deletion) → Contains change.deletions.put.items d → c.sets.deletions d.row.serial ≡ None
  deleted_free d there =
      let (row, at, same) = Contains-map_back withdrawn gone d
      (subst (λ l. Contains l d) m.deleted there) in
      let in_rows = (gone_in c.sets own rows lists only named planned gone changed is row at).0 in
      let stands = ((lists.exactly row).0 in_rows).0 in
      subst (λ (x : Deletion). c.sets.deletions x.row.serial ≡ None) same
      (ap (λ (s : Seat). s.deletions) (stands_in_ltp c.sets own row.serial row stands))

  fits : Fits change c
  fits = record {
    ltp = fits_parted c.sets own rows lists only named planned gone changed is new change.ltp m.gone m.changed m.put;
    cp = fits_nothing of_current change.cp c.sets.cp m.cp;
    history = fits_nothing of_row change.history c.sets.history m.history;
    deletions = fits_put of_deletion change.deletions c.sets.deletions m.none_back m.none_changed
        (subst (HasEachOnce of_deletion) (sym m.deleted)
        (once_withdrawn gone (gone_once c.sets own rows lists only named planned gone changed is))) deleted_free;
    job = λ job kept. let no : None ≡ Some job = sym m.job ∙ kept in cc;
  }

  ltp_after : (serial : ℕ)
      → (sets_after change c.sets).ltp serial ≡ (seat_made LongTerm (new_at serial) (seat mid_of serial)).ltp
  ltp_after serial =
      ap (λ (l : List Row). or_else (look_up (λ (y : Row). y.serial) l serial)
      (or_else (look_up (λ (y : Row). y.serial) change.ltp.changed.items serial)
      (if is_some (look_up (λ (y : Row). y.serial) change.ltp.gone.items serial) then None else c.sets.ltp serial)))
      m.put
      ∙ ap (λ (o : Option Row). or_else o
      (or_else (look_up (λ (y : Row). y.serial) change.ltp.changed.items serial)
      (if is_some (look_up (λ (y : Row). y.serial) change.ltp.gone.items serial) then None else c.sets.ltp serial)))
      (numbered_look c.sets.issued new serial)
      ∙ ap (λ (l : List Row). or_else (new_at serial)
      (or_else (look_up (λ (y : Row). y.serial) l serial)
      (if is_some (look_up (λ (y : Row). y.serial) change.ltp.gone.items serial) then None else c.sets.ltp serial)))
      m.changed
      ∙ ap (λ (l : List Row). or_else (new_at serial)
      (or_else (look_up (λ (y : Row). y.serial) changed serial)
      (if is_some (look_up (λ (y : Row). y.serial) l serial) then None else c.sets.ltp serial))) m.gone
      ∙ ap (λ (o : Option Row). or_else (new_at serial)
      (or_else (look_up (λ (y : Row). y.serial) changed serial)
      (if is_some o then None else c.sets.ltp serial)))
      (gone_look c.sets own rows lists only named planned gone changed is serial)
      ∙ ap (λ (o : Option Row). or_else (new_at serial) o)
      (moved_ltp c.sets own rows lists only named planned gone changed is serial (c.sets.ltp serial) refl
      (look_up (λ (y : Row). y.serial) changed serial) refl)
      ∙ ltp_gains mid_of mid_of_sound new serial (new_at serial)

  deletions_after : (serial : ℕ)
      → (sets_after change c.sets).deletions serial
      ≡ (seat_made LongTerm (new_at serial) (seat mid_of serial)).deletions
  deletions_after serial =
      moves_put of_deletion change.deletions c.sets.deletions m.none_back m.none_changed serial
      ∙ ap (λ (l : List Deletion). or_else (look_up (λ (d : Deletion). d.row.serial) l serial)
      (c.sets.deletions serial)) m.deleted
      ∙ ap (λ (o : Option Deletion). or_else o (c.sets.deletions serial)) (look_withdrawn gone serial)
      ∙ ap (λ (o : Option Row). or_else (option_map withdrawn o) (c.sets.deletions serial))
      (gone_look c.sets own rows lists only named planned gone changed is serial)
      ∙ deletions_stay mid_of mid_of_sound new serial (new_at serial) refl

  sets_are : sets_after change c.sets ≡ modified_sets only named new c.sets
  sets_are = λ i. record {
    bounds = ap (λ o. or_else o c.sets.bounds) m.bounds i;
    issued = ap (λ o. unwrap_or o c.sets.issued) m.issued i;
    ltp = λ serial. ltp_after serial i;
    cp = λ serial. (moves_nothing of_current change.cp c.sets.cp m.cp serial
        ∙ cp_stays mid_of mid_of_sound new serial (new_at serial) refl) i;
    history = λ serial. (moves_nothing of_row change.history c.sets.history m.history serial
        ∙ history_stays mid_of mid_of_sound new serial (new_at serial) refl) i;
    deletions = λ serial. deletions_after serial i;
  }

  pub modifying_is : MakesSets c (modified_sets only named new c.sets) links change
  modifying_is = record {
    fits = fits;
    sets = sets_are;
    changed = λ x there. changed_other c.sets own rows lists only named planned gone changed is x
        (subst (λ l. Contains l x) m.changed there);
    cp = m.cp;
    history = m.history;
    deletions = m.none_changed;
    in_force = m.in_force;
    pairs = m.pairs;
    leads = m.leads;
    definitions = m.definitions;
    job = m.job;
  }
