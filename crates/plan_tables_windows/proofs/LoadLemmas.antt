-- What was found is brought into lists, and what of it they then have.
use Rattle.std.proofs.Common.{◌≡◌, ◌∙◌, ◌≤◌, ◌+◌, ℕ, Err, Ok, Result, None, Option, Some, List, ap, arith, inl}
use Rattle.std.proofs.Common.{inr, map, refl, subst, sym}
use Rattle.std.proofs.Math.Logic.{∥∥₁_elim}
use Rattle.std.proofs.Props.{props}
use Rattle.std.proofs.lemmas.Bool.{cases_lt}
use Rattle.std.specs.Prelude.{OnOk}
use Rattle.sqlite.specs.Held.{Held, state}
use Rattle.sqlite.specs.Store.{Ghosts}
use Rattle.occurrences.specs.declared.place.Deletion.{Deletion}
use Rattle.occurrences.specs.declared.row.Row.{Row}
use Rattle.planner_machine.specs.Content.{Content}
use Rattle.plan_store_lists.proofs.LookLemmas.{look_some}
use Rattle.plan_store.specs.HistoryReads.{HasLast, IsNoLater}
use Rattle.plan_store.specs.Parts.{IsPartOf, Knows, KnowsDeletion, Rest, with_completed, with_deleted}
use Rattle.plan_tables_windows.specs.Unknown.{HasMore}
use Rattle.plan_store.specs.declared.queries.LastQuery.{LastQuery}
use Rattle.plan_tables_windows.proofs.PartLemmas.{completed_has, completed_known, completed_part, deleted_has, deleted_part}
use Rattle.plan_tables_windows.proofs.PartLemmas.{lacking_deletion_known, lacking_known, stood_still}
use Rattle.plan_tables_schema.specs.Rows.{Tables, shown, tables_of}
use Rattle.plan_tables_schema.specs.declared.tables.Table.TheVariants as table
use Rattle.plan_tables_content.specs.Decoded.{deletion_of, row_of}
use Rattle.plan_tables_content.specs.DecodedSets.{told_deletions, told_history}
use Rattle.plan_tables_queries.specs.Finding.{FindsFact}
use Rattle.plan_tables_queries.specs.Last.{IsLastRow}
use Rattle.plan_tables_lookups.specs.declared.faults.TableFault.{TableFault}
use Rattle.plan_tables_windows.specs.Loading.{Loads, IsAnswered}
use Rattle.plan_tables_windows.specs.Fetching.{Fetches, Grows, rest_in}
use Rattle.plan_tables_windows.proofs.FetchLemmas.{as_before, gathers_found}
use Rattle.plan_tables_windows.proofs.SetLemmas.{deletion_found_set, name_set, no_prop, row_found_set, row_set}

-- ---- what holds of both holds

pub brings_either : (after was now : Content) (result : Result (Unit {0}) TableFault) (P : Content → Type 0)
    → Loads after was now result → P after → P was → P now
brings_either after was now (Ok x) P brings made stood = subst P (sym brings.ok) made
brings_either after was now (Err fault) P brings made stood = subst P (sym brings.err) stood

pub brings_ok : (after was now : Content) (result : Result (Unit {0}) TableFault) (P : Content → Type 0)
    → Loads after was now result → P after → OnOk result (P now)
brings_ok after was now (Ok x) P brings made = subst P (sym brings.ok) made
brings_ok after was now (Err fault) P brings made = tt

pub completed_grows : (c : Content) (row : Row) → Grows c (with_completed row c)
completed_grows c row = record {
  more = λ _. record {
    same = refl;
    history = stood_still c.sets.history row.serial row;
    deletions = λ _ _ is. is;
  };
  jobs = refl;
}

pub deleted_grows : (c : Content) (deletion : Deletion) → Grows c (with_deleted deletion c)
deleted_grows c deletion = record {
  more = λ _. record {
    same = refl;
    history = λ _ _ is. is;
    deletions = stood_still c.sets.deletions deletion.row.serial deletion;
  };
  jobs = refl;
}

-- ---- what stands in the tables has its serial

pub numbered_row : (all : Tables) (serial : ℕ) (row : Row) → told_history all serial ≡ Some row → row.serial ≡ serial
numbered_row all serial row is =
    (look_some (λ (r : Row). r.serial) (map row_of (map (shown table.History) (all table.History))) serial row is).1

pub numbered_deletion : (all : Tables) (serial : ℕ) (deletion : Deletion) → told_deletions all serial ≡ Some deletion
    → deletion.row.serial ≡ serial
numbered_deletion all serial deletion is =
    (look_some (λ (d : Deletion). d.row.serial) (map deletion_of (map (shown table.Deletion) (all table.Deletion)))
    serial deletion is).1

-- ---- by its serial

module _ {S : Type 0} (g : Ghosts S) (old new : Held S) (serial : ℕ) (was : Content) where
  abbrev all : Tables
  all = tables_of (state g old).now.trees

  module _ (row : Row)
      (finds : FindsFact {T = Option Row} g old new (Ok (Some row)) (λ c found. found ≡ c.sets.history serial))
      (now : Content) (result : Result (Unit {0}) TableFault)
      (brings : Loads (with_completed row was) was now result) where
    pub gathers_row : Fetches g old new was now result (λ rest c. Knows rest c serial)
    gathers_row = gathers_found g old new _ was (λ rest c. Knows rest c serial) (Some row) finds now
        (brings_either (with_completed row was) was now result (Grows was) brings (completed_grows was row)
        (as_before was))
        result brings.memory
        (λ of part found.
        let rest : Rest = rest_in (state g old) in
        let stands : rest.history serial ≡ Some row =
        ∥∥₁_elim found (row_found_set _ _) (λ (h : Some row ≡ rest.history serial). sym h) in
        let number : row.serial ≡ serial = numbered_row all serial row stands in
        let at : rest.history row.serial ≡ Some row = subst (λ n. rest.history n ≡ Some row) (sym number) stands in (
          brings_either (with_completed row was) was now result (IsPartOf rest) brings
              (completed_part rest was row at part) part,
          brings_ok (with_completed row was) was now result (λ c. Knows rest c serial) brings
              (subst (λ n. Knows rest (with_completed row was) n) number (completed_known rest was row at part)),
        ))

  pub gathers_no_row : FindsFact {T = Option Row} g old new (Ok None) (λ c found. found ≡ c.sets.history serial)
      → Fetches {T = Unit {0}} g old new was was (Ok tt) (λ rest c. Knows rest c serial)
  gathers_no_row finds = gathers_found g old new _ was (λ rest c. Knows rest c serial) None finds was (as_before was)
      (Ok tt) tt
      (λ of part found. (
        part,
        lacking_known (rest_in (state g old)) was part serial
            (∥∥₁_elim found (row_found_set _ _) (λ (h : None ≡ (rest_in (state g old)).history serial). sym h)),
      ))

  module _ (deletion : Deletion)
      (finds : FindsFact {T = Option Deletion} g old new (Ok (Some deletion))
      (λ c found. found ≡ c.sets.deletions serial))
      (now : Content) (result : Result (Unit {0}) TableFault)
      (brings : Loads (with_deleted deletion was) was now result) where
    pub gathers_deletion : Fetches g old new was now result (λ rest c. KnowsDeletion rest c serial)
    gathers_deletion = gathers_found g old new _ was (λ rest c. KnowsDeletion rest c serial) (Some deletion) finds now
        (brings_either (with_deleted deletion was) was now result (Grows was) brings (deleted_grows was deletion)
        (as_before was))
        result brings.memory
        (λ of part found.
        let rest : Rest = rest_in (state g old) in
        let stands : rest.deletions serial ≡ Some deletion =
        ∥∥₁_elim found (deletion_found_set _ _) (λ (h : Some deletion ≡ rest.deletions serial). sym h) in
        let number : deletion.row.serial ≡ serial = numbered_deletion all serial deletion stands in
        let at : rest.deletions deletion.row.serial ≡ Some deletion =
        subst (λ n. rest.deletions n ≡ Some deletion) (sym number) stands in (
          brings_either (with_deleted deletion was) was now result (IsPartOf rest) brings
              (deleted_part rest was deletion at part) part,
          brings_ok (with_deleted deletion was) was now result (λ c. KnowsDeletion rest c serial) brings
              (subst (λ n. KnowsDeletion rest (with_deleted deletion was) n) number
              (deleted_has rest was deletion at part ∙ sym at)),
        ))

  pub gathers_no_deletion : FindsFact {T = Option Deletion} g old new (Ok None)
      (λ c found. found ≡ c.sets.deletions serial)
      → Fetches {T = Unit {0}} g old new was was (Ok tt) (λ rest c. KnowsDeletion rest c serial)
  gathers_no_deletion finds = gathers_found g old new _ was (λ rest c. KnowsDeletion rest c serial) None finds was
      (as_before was) (Ok tt) tt
      (λ of part found. (
        part,
        lacking_deletion_known (rest_in (state g old)) was part serial
            (∥∥₁_elim found (deletion_found_set _ _)
            (λ (h : None ≡ (rest_in (state g old)).deletions serial). sym h)),
      ))

-- ---- the last of an application

-- it arrives no earlier than another
no_later : (history : ℕ → Option Row) (app : List ℕ) (moment : ℕ) (r : Row)
    → ∥ IsLastRow history app moment (Some r) ∥₁ → (serial : ℕ) (row : Row) → history serial ≡ Some row
    → row.key.app ≡ app → row.key.ia ≤ moment → IsNoLater row r
no_later history app moment r last serial row is of_app early = elim (cases_lt row.key.ia r.key.ia) [
  | inl lower ↦ inl lower
  | inr late ↦
      let same : row ≡ r = ∥∥₁_elim last (row_set _ _) (λ (h : IsLastRow history app moment (Some r)).
      h.alone serial row is of_app (omega (arith, late, h.last serial row is of_app early))) in
      inr (ap (λ (x : Row). x.key.ia) same, omega (arith, ap (λ (x : Row). x.serial) same))
]

le_prop : (a b : ℕ) → IsProp (a ≤ b)
le_prop a b = hlevel props

has_last : (history shown : ℕ → Option Row) (app : List ℕ) (moment : ℕ) (r : Row)
    → ∥ IsLastRow history app moment (Some r) ∥₁ → shown r.serial ≡ Some r → HasLast history shown app (moment + 1)
has_last history shown app moment r last has serial row is of_app early =
    let within : r.key.ia ≤ moment = ∥∥₁_elim last (le_prop _ _)
    (λ (h : IsLastRow history app moment (Some r)). h.before) in (
      r,
      has,
      ∥∥₁_elim last (name_set _ _) (λ (h : IsLastRow history app moment (Some r)). h.of),
      omega (arith, within),
      no_later history app moment r last serial row is of_app (omega (arith, early)),
    )

pub last_still : (rest : Rest) (was now : Content) (app : List ℕ) (minute : ℕ) → HasMore rest was now
    → HasLast rest.history was.sets.history app minute → HasLast rest.history now.sets.history app minute
last_still rest was now app minute more has serial row is of_app early =
    let (r, at, of, in_time, late) = has serial row is of_app early in
    (r, more.history r.serial r at, of, in_time, late)

module _ {S : Type 0} (g : Ghosts S) (old new : Held S) (ask : LastQuery) (was : Content) where
  module _ (row : Row)
      (finds : FindsFact {T = Option Row} g old new (Ok (Some row)) (λ c found.
      IsLastRow c.sets.history ask.app ask.moment found))
      (now : Content) (result : Result (Unit {0}) TableFault)
      (brings : Loads (with_completed row was) was now result) where
    pub gathers_last : Fetches g old new was now result (IsAnswered ask)
    gathers_last = gathers_found g old new _ was (IsAnswered ask) (Some row) finds now
        (brings_either (with_completed row was) was now result (Grows was) brings (completed_grows was row)
        (as_before was))
        result brings.memory
        (λ of part found.
        let rest : Rest = rest_in (state g old) in
        let at : rest.history row.serial ≡ Some row = ∥∥₁_elim found (row_found_set _ _)
        (λ (h : IsLastRow rest.history ask.app ask.moment (Some row)). h.has) in (
          brings_either (with_completed row was) was now result (IsPartOf rest) brings
              (completed_part rest was row at part) part,
          brings_ok (with_completed row was) was now result (IsAnswered ask rest) brings
              (has_last rest.history (with_completed row was).sets.history ask.app ask.moment row found
              (completed_has rest was row at part)),
        ))

  pub gathers_no_last : FindsFact {T = Option Row} g old new (Ok None) (λ c found.
      IsLastRow c.sets.history ask.app ask.moment found)
      → Fetches {T = Unit {0}} g old new was was (Ok tt) (IsAnswered ask)
  gathers_no_last finds = gathers_found g old new _ was (IsAnswered ask) None finds was (as_before was) (Ok tt) tt
      (λ of part found. (
        part,
        λ serial row is of_app early. absurd (∥∥₁_elim found no_prop
            (λ (h : IsLastRow (rest_in (state g old)).history ask.app ask.moment None).
            h serial row is of_app (omega (arith, early)))),
      ))
