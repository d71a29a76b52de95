-- A change that makes drafts in the long-term plan, and what it makes of a content.
use Rattle.std.proofs.Common.{◌≡◌, ◌↔◌, ◌⊎◌, ℕ, ◌+◌, ◌<◌, ◌++◌, List, [], length, refl, sym, ap, subst, ◌∙◌, inl, inr}
use Rattle.std.proofs.Common.{arith, Option, None, Some}
use Rattle.std.specs.Prelude.{unwrap_or}
use Rattle.std.specs.List.{Contains}
use Rattle.std.proofs.lemmas.List.Elements.{Contains-append_cases, Contains-append_left, Contains-append_right}
use Rattle.app_definition_records.specs.ByName.{AreNamesOf}
use Rattle.app_definitions.specs.declared.definitions.Definitions.{Definitions}
use Rattle.occurrences.specs.declared.place.CurrentRow.{CurrentRow}
use Rattle.occurrences.specs.declared.place.Place.TheVariants.{LongTerm}
use Rattle.occurrences.specs.declared.reply.Reply.{Reply}
use Rattle.occurrences.specs.declared.row.Row.{Row}
use Rattle.external_dependencies.specs.declared.links.Link.{Link}
use Rattle.planner_machine.specs.declared.content.Bounds.{Bounds}
use Rattle.planner_machine.specs.declared.content.Draft.{Draft}
use Rattle.planner_machine.specs.Content.{Content, Seat, Sets, empty_seat, midnight, seat}
use Rattle.planner_machine.specs.Drafts.{AreDrafts, NamesWithin}
use Rattle.planner_machine.specs.InForce.{PutsLists}
use Rattle.planner_machine.specs.Moves.{made, or_else, seat_made, size, with_bounds}
use Rattle.planner_machine.specs.Pairs.{ArePairs}
use Rattle.planner_machine.specs.Plans.{ChangesPlans, MakesOfRows, planned}
use Rattle.planner_machine.specs.Sound.{AreDefinitions, IsSound}
use Rattle.planner_machine.specs.RowsSound.{RowsSound}
use Rattle.planner_machine.proofs.SoundLemmas.{rows_sound}
use Rattle.plan_store_lists.specs.Rows.{HasEachOnce, look_up, of_current, of_deletion, of_row}
use Rattle.plan_store.specs.Changes.{Fits, LeadsOn, MovesNothing, after, jobs_after, lists_after, pairs_after}
use Rattle.plan_store.specs.Changes.{redefined, sets_after}
use Rattle.plan_store.specs.Views.{IsAny, ListsSet}
use Rattle.plan_store.specs.declared.changes.Change.{Change}
use Rattle.plan_store.specs.declared.changes.DefinitionChange.TheVariants.{AsBefore}
use Rattle.plan_store_pairs.proofs.ListLemmas.{none}
use Rattle.plan_store_pairs.specs.LiveRows.{AreCompleted, HasLists}
use Rattle.plan_store_pairs.proofs.RowLemmas.{of_set}
use Rattle.long_term_plan.specs.Drafting.{AreNew, NamesFor}
use Rattle.long_term_plan.specs.Making.{AreDaysAdded, MakesSets, numbered, planned_sets}
use Rattle.long_term_plan.proofs.DeleteLemmas.{serial_is}
use Rattle.long_term_plan.proofs.DraftingLemmas.{named_for_all, new_are, same_drafts}
use Rattle.long_term_plan.proofs.NumberLemmas.{made_listed, numbered_high, numbered_look, numbered_made, numbered_once}
use Rattle.long_term_plan.proofs.NumberLemmas.{planned_after}
use Rattle.plan_store_pairs.proofs.SetLemmas.{fits_nothing, fits_put, moves_nothing, moves_put}

-- what a change is that makes the drafts
pub record IsMaking (c : Content) (b : Bounds) (links : List Link) (new : List Draft) (change : Change) : Type
    0 where
  pub gone : change.ltp.gone.items ≡ []
  pub unchanged : change.ltp.changed.items ≡ []
  pub put : change.ltp.put.items ≡ numbered c.sets.issued new
  pub cp : MovesNothing change.cp
  pub history : MovesNothing change.history
  pub deletions : MovesNothing change.deletions
  pub bounds : change.bounds ≡ Some b
  pub issued : change.issued ≡ Some (c.sets.issued + length new)
  pub in_force : lists_after change.in_force c.in_force ≡ links
  pub definitions : change.definitions ≡ AsBefore
  pub job : change.job ≡ None
  pub pairs : ArePairs c.pairs links (planned_sets b new c.sets) (pairs_after change.pairs c.pairs)
  pub leads : LeadsOn c.pairs change.pairs

module _ (c : Sets) (sound : RowsSound c) (new : List Draft) where
  pub unissued : (serial : ℕ) → c.issued < serial → seat c serial ≡ empty_seat
  unissued serial past = sound.unissued serial (inr past)

  -- where a row is made, nothing stood before
  made_free : (serial : ℕ) (row : Row) → made c.issued new serial ≡ Some row → seat c serial ≡ empty_seat
  made_free serial row is =
      let (there, at) = made_listed c.issued new serial row is in
      let high = numbered_high c.issued new row there in
      unissued serial (omega (arith, high, at))

  pub cp_stays : (serial : ℕ) (m : Option Row) → made c.issued new serial ≡ m
      → c.cp serial ≡ (seat_made LongTerm m (seat c serial)).cp
  cp_stays serial None is = refl
  cp_stays serial (Some row) is = ap (λ (s : Seat). s.cp) (made_free serial row is)

  pub history_stays : (serial : ℕ) (m : Option Row) → made c.issued new serial ≡ m
      → c.history serial ≡ (seat_made LongTerm m (seat c serial)).history
  history_stays serial None is = refl
  history_stays serial (Some row) is = ap (λ (s : Seat). s.history) (made_free serial row is)

  pub deletions_stay : (serial : ℕ) (m : Option Row) → made c.issued new serial ≡ m
      → c.deletions serial ≡ (seat_made LongTerm m (seat c serial)).deletions
  deletions_stay serial None is = refl
  deletions_stay serial (Some row) is = ap (λ (s : Seat). s.deletions) (made_free serial row is)

  pub ltp_gains : (serial : ℕ) (m : Option Row)
      → or_else m (c.ltp serial) ≡ (seat_made LongTerm m (seat c serial)).ltp
  ltp_gains serial None = refl
  ltp_gains serial (Some row) = refl

  -- what stood in the long-term plan has an old serial
  stood_old : (serial : ℕ) (row : Row) → c.ltp serial ≡ Some row → made c.issued new serial ≡ None
  stood_old serial row is = elim (made c.issued new serial) as (λ m. made c.issued new serial ≡ m → m ≡ None) [
    | None ↦ λ _. refl
    | Some other ↦ λ at. let free = ap (λ (s : Seat). s.ltp) (made_free serial other at) in
        let no : None ≡ Some row = sym free ∙ is in cc
  ] refl

  module _ (b : Bounds) (keeps : RowsSound (planned_sets b new c)) (rows : List Row)
      (lists : ListsSet of_row c.ltp IsAny rows) where
    in_plan : (serial : ℕ) (row : Row) (m : Option Row) → made c.issued new serial ≡ m
        → (seat_made LongTerm m (seat c serial)).ltp ≡ Some row
        → (Contains rows row ⊎ Contains (numbered c.issued new) row) × (row.serial ≡ serial)
    in_plan serial row None is at =
        let numbered = serial_is c sound serial row at in
        (inl ((lists.exactly row).1 (subst (λ n. c.ltp n ≡ Some row) (sym numbered) at, tt)), numbered)
    in_plan serial row (Some other) is at =
        let same : other ≡ row = cc in
        let here = made_listed c.issued new serial row (is ∙ at) in (inr here.0, here.1)

    out_of_lists : (serial : ℕ) (row : Row) → (Contains rows row ⊎ Contains (numbered c.issued new) row)
        → row.serial ≡ serial → (planned_sets b new c).ltp serial ≡ Some row
    out_of_lists serial row (inl there) same =
        let at : c.ltp serial ≡ Some row = subst (λ n. c.ltp n ≡ Some row) same ((lists.exactly row).0 there).0 in
        ap (λ m. (seat_made LongTerm m (seat c serial)).ltp) (stood_old serial row at) ∙ at
    out_of_lists serial row (inr there) same =
        let at = subst (λ n. made c.issued new n ≡ Some row) same (numbered_made c.issued new row there) in
        ap (λ m. (seat_made LongTerm m (seat c serial)).ltp) at

    in_lists : (row : Row) → Contains (rows ++ numbered c.issued new) row
        ↔ ((planned_sets b new c).ltp row.serial ≡ Some row)
    in_lists row = (
      (λ there. out_of_lists row.serial row (Contains-append_cases rows (numbered c.issued new) row there) refl),
      λ at. elim (in_plan row.serial row (made c.issued new row.serial) refl at).0 [
        | inl was ↦ Contains-append_left rows (numbered c.issued new) row was
        | inr put ↦ Contains-append_right rows (numbered c.issued new) row put
      ],
    )

    -- the long-term plan then has the rows that it had and those that are made, and the others stay
    pub lists_then : (cp : List CurrentRow) → ListsSet of_current c.cp IsAny cp → (history : List Row)
        → AreCompleted c history
        → HasLists (planned_sets b new c) (rows ++ numbered c.issued new) cp history
    lists_then cp cp_are history history_are = record {
      sound = keeps;
      ltp = in_lists;
      cp = λ x. subst (λ (o : Option CurrentRow). Contains cp x ↔ (o ≡ Some x))
          (cp_stays x.row.serial (made c.issued new x.row.serial) refl) (of_set of_current c.cp cp cp_are x);
      history = λ x. subst (λ (o : Option Row). Contains history x ↔ (o ≡ Some x))
          (history_stays x.serial (made c.issued new x.serial) refl) (history_are x);
    }

module _ (c : Content) (sound : IsSound c) (b : Bounds) (links : List Link) (new : List Draft) (change : Change)
    (is : IsMaking c b links new change) where
  rows : RowsSound c.sets
  rows = rows_sound c sound

  put_free : (row : Row) → Contains change.ltp.put.items row → c.sets.ltp row.serial ≡ None
  put_free row there =
      let high = numbered_high c.sets.issued new row (subst (λ l. Contains l row) is.put there) in
      ap (λ (s : Seat). s.ltp) (unissued c.sets rows new row.serial high)

  making_fits : Fits change c
  making_fits = record {
    ltp = fits_put of_row change.ltp c.sets.ltp is.gone is.unchanged
        (subst (λ l. HasEachOnce of_row l) (sym is.put) (numbered_once c.sets.issued new)) put_free;
    cp = fits_nothing of_current change.cp c.sets.cp is.cp;
    history = fits_nothing of_row change.history c.sets.history is.history;
    deletions = fits_nothing of_deletion change.deletions c.sets.deletions is.deletions;
    job = λ job kept. let no : None ≡ Some job = sym is.job ∙ kept in cc;
  }

  abbrev m : ℕ → Option Row
  m serial = made c.sets.issued new serial

  ltp_after : (serial : ℕ)
      → (sets_after change c.sets).ltp serial ≡ (seat_made LongTerm (m serial) (seat c.sets serial)).ltp
  ltp_after serial =
      moves_put of_row change.ltp c.sets.ltp is.gone is.unchanged serial
      ∙ ap (λ (l : List Row). or_else (look_up (λ (y : Row). y.serial) l serial) (c.sets.ltp serial)) is.put
      ∙ ap (λ (o : Option Row). or_else o (c.sets.ltp serial)) (numbered_look c.sets.issued new serial)
      ∙ ltp_gains c.sets rows new serial (m serial)

  sets_are : sets_after change c.sets ≡ planned_sets b new c.sets
  sets_are = λ i. record {
    bounds = ap (λ o. or_else o c.sets.bounds) is.bounds i;
    issued = ap (λ o. unwrap_or o c.sets.issued) is.issued i;
    ltp = λ serial. ltp_after serial i;
    cp = λ serial. (moves_nothing of_current change.cp c.sets.cp is.cp serial
        ∙ cp_stays c.sets rows new serial (m serial) refl) i;
    history = λ serial. (moves_nothing of_row change.history c.sets.history is.history serial
        ∙ history_stays c.sets rows new serial (m serial) refl) i;
    deletions = λ serial. (moves_nothing of_deletion change.deletions c.sets.deletions is.deletions serial
        ∙ deletions_stay c.sets rows new serial (m serial) refl) i;
  }

  pub making_is : MakesSets c (planned_sets b new c.sets) links change
  making_is = record {
    fits = making_fits;
    sets = sets_are;
    changed = λ x there. absurd (none x (subst (λ l. Contains l x) is.unchanged there));
    cp = is.cp;
    history = is.history;
    deletions = is.deletions.changed;
    in_force = is.in_force;
    pairs = is.pairs;
    leads = is.leads;
    definitions = is.definitions;
    job = is.job;
  }

-- a change that makes the sets of a statement is what the statement does
pub changes_plans : (Makes : MakesOfRows) (Puts : PutsLists) (c : Content) (s : Sets) (links : List Link)
    (change : Change) (reply : Reply) → MakesSets c s links change → Makes c.definitions c.sets reply s
    → Puts c.definitions c.in_force links → ChangesPlans Makes Puts c reply (after change c)
changes_plans Makes Puts c s links change reply is makes puts =
    let lists : lists_after change.in_force c.in_force ≡ links = is.in_force in
    record {
      rows = subst (λ (x : Sets). Makes c.definitions c.sets reply x) (sym is.sets) makes;
      lists = subst (λ (l : List Link). Puts c.definitions c.in_force l) (sym lists) puts;
      pairs = subst (λ l. ArePairs c.pairs l (sets_after change c.sets) (pairs_after change.pairs c.pairs)) (sym lists)
          (subst (λ x. ArePairs c.pairs links x (pairs_after change.pairs c.pairs)) (sym is.sets) is.pairs);
      definitions = ap (λ d. redefined d c.definitions) is.definitions;
      jobs = ap (λ j. jobs_after j c.jobs) is.job;
    }

-- of what is named for all applications, what is new is added
pub days_added : (c : Content) → IsSound c → (b : Bounds) (first : ℕ) (all : Definitions) → all ≡ c.definitions
    → (names apps : List (List ℕ)) → AreNamesOf names all.applications → apps ≡ names → (drafts named : List Draft)
    → (AreDefinitions all → AreDrafts (NamesFor all apps first (midnight (b.last_day + 1))) drafts) → named ≡ drafts
    → (list new : List Draft) → AreNew c.sets named list → new ≡ list → AreDaysAdded c b first new
days_added c sound b first all defined names apps are same drafts named are_drafts same' list new are_new same'' =
    let end = midnight (b.last_day + 1) in
    let sound_all : AreDefinitions all = subst AreDefinitions (sym defined) sound.ranges.definitions in
    let are' : AreNamesOf apps all.applications =
    subst (λ (ns : List (List ℕ)). AreNamesOf ns all.applications) (sym same) are in
    let listed : AreDrafts (NamesFor all apps first end) named =
    subst (AreDrafts (NamesFor all apps first end)) (sym same') (are_drafts sound_all) in
    let within : AreDrafts (NamesWithin all first end) named =
    same_drafts (NamesFor all apps first end) (NamesWithin all first end) (named_for_all all apps are' first end)
    named listed in
    let within' : AreDrafts (NamesWithin c.definitions first end) named =
    subst (λ (ds : Definitions). AreDrafts (NamesWithin ds first end) named) defined within in
    subst (AreDaysAdded c b first) (sym same'')
    (new_are (NamesWithin c.definitions first end) c.sets named list within' are_new)

-- how many rows the plans would hold
pub planned_then : (c : Content) → IsSound c → (b : Bounds) (new : List Draft)
    → planned (planned_sets b new c.sets) ≡ size c.sets.ltp c.sets.issued + size c.sets.cp c.sets.issued + length new
planned_then c sound b new =
    planned_after (with_bounds b c.sets) new (λ serial past. (rows_sound c sound).unissued serial (inr past))
