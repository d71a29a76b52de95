-- The rows of definitions are taken by their tables, once those of their names are out: each comes once.
use Rattle.std.proofs.Common.{◌≡◌, ◌↔◌, ◌∙◌, ℕ, ℤ, false, List, [], ◌∷◌, length, inr, refl, sym, ap, subst}
use Rattle.std.proofs.Common.{arith}
use Rattle.std.specs.Prelude.{IsSome, ⊤, take}
use Rattle.std.specs.List.{AllPairs, Contains}
use Rattle.std.proofs.lemmas.Bool.{false≢true}
use Rattle.sqlite.specs.Order.{Row as Values}
use Rattle.sqlite.specs.Rowids.TheVariants.{Chosen}
use Rattle.sqlite_rules.specs.Edit.{next_rowid, with_rowid}
use Rattle.sqlite_value.specs.declared.value.Value.TheVariants.{Int}
use Rattle.work_calendars.specs.Calendar.{CalendarEntries}
use Rattle.plan_periods.specs.declared.periods.Period.{Period}
use Rattle.run_cycles.specs.declared.cycles.RunCycle.{RunCycle}
use Rattle.app_definition_records.specs.ByName.{overlaid}
use Rattle.app_definition_records.specs.declared.applications.Application.{Application}
use Rattle.app_definition_records.specs.declared.predecessors.Predecessor.{Predecessor}
use Rattle.plan_store_lists.proofs.KeyLemmas.{contains_first, contains_later}
use Rattle.plan_tables_schema.specs.Form.{has_rowid}
use Rattle.plan_tables_schema.specs.Forms.{form}
use Rattle.plan_tables_schema.specs.Rows.{AreOfKinds, Tables, placed, stored, with_cells}
use Rattle.plan_tables_schema.specs.Accepted.{HasParents, AcceptsRow}
use Rattle.plan_tables_schema.specs.declared.tables.Table.{Table}
use Rattle.plan_tables_schema.specs.declared.tables.Table.TheVariants as table
use Rattle.plan_tables_definitions.specs.Adding.{HaveOwnKeys}
use Rattle.plan_tables_definitions.proofs.StorableRows.{applications_storable, calendars_storable, cycles_storable}
use Rattle.plan_tables_definitions.proofs.StorableRows.{offsets_storable, periods_storable, predecessors_storable}
use Rattle.plan_tables_content.specs.Content.{AreEach, ByName, IsApplicationRow, IsNamed, IsOfSome}
use Rattle.plan_tables_content.specs.Facts.{IsCalendarRow, IsCycleRow, IsOffsetRow, IsPeriodRow, IsPredecessorRow, cycle_values}
use Rattle.plan_tables_writing.specs.Redefining.{AreRowsOf, cycles_gone, name_key, rows_of}
use Rattle.plan_tables_writing.specs.Accepted.{AcceptsCycles, AcceptsEach, AcceptsNamed}
use Rattle.plan_tables_writing.specs.declared.redefining.DefinitionMoves.{DefinitionMoves}
use Rattle.plan_tables_writing.specs.Writing.{with_each, without_each}
use Rattle.plan_tables_constraints.specs.Room.{HaveRoom}
use Rattle.plan_tables_constraints.proofs.EachTaken.{RoomFor, StandBeside, each_taken, room_for_one, room_for_rest, room_without}
use Rattle.plan_tables_constraints.proofs.FormRows.{AreCells, HaveSameKey, next_taken, numbered_so}
use Rattle.plan_tables_constraints.proofs.Held.{Shows, matched}
use Rattle.plan_tables_constraints.proofs.NameTables.{HasName, IsShown, by_name, merged_shown, named_tells, overlaid_new}
use Rattle.plan_tables_constraints.proofs.NameTables.{shows_rows}
use Rattle.plan_tables_constraints.proofs.NamedRows.{application_named, application_shown, calendar_named, calendar_shown}
use Rattle.plan_tables_constraints.proofs.NamedRows.{cycle_named, cycle_shown, offset_named, offset_shown, period_named}
use Rattle.plan_tables_constraints.proofs.NamedRows.{period_shown, predecessor_named, predecessor_shown}
use Rattle.plan_tables_constraints.proofs.OffsetParents.{offset_parents}
use Rattle.plan_tables_constraints.proofs.OneRow.{one_application, one_calendar, one_cycle, one_offset, one_period}
use Rattle.plan_tables_constraints.proofs.OneRow.{one_predecessor}
use Rattle.plan_tables_constraints.proofs.SetMoves.{at_itself, at_other, shows_without, without_other, with_other}

abbrev AreOthers : Values → Values → Type 0
AreOthers v w = v ≡ w → ⊥

-- rows that differ in their first cells are others
each_once : (cells : ℕ) (rows : List Values) → HaveOwnKeys cells rows → AllPairs AreOthers rows
each_once cells rows own i j d lt within same = own i j d lt within (ap (take cells) same)

-- the rows have cells that the columns may have, and there is room for all of them in the table
pub record FindRows (t : Table) (rows : List Values) (all : Tables) : Type 0 where
  pub cells : (v : Values) → Contains rows v → AreCells (form t).columns v
  pub room : HaveRoom (length rows) (all t)

module _ {D : Type 0} (t : Table) (IsRow : List ℕ → D → Values → Type 0)
    (by : (key v : Values) → matched t key v ≡ by_name key v)
    (named : (name : List ℕ) (d : D) (v : Values) → IsRow name d v → HasName name v)
    (shows : (name : List ℕ) (d : D) (v : Values) → IsRow name d v → IsShown t v)
    (front : has_rowid (form t).key ≡ false) (old more : ByName D) (Keeps : Tables → Type 0)
    (keeps : (v : Values) (now : Tables) → Keeps now → Keeps (with_cells t v now)) where
  abbrev Is : Values → Type 0
  Is v = IsOfSome IsRow (overlaid old more) v

  abbrev Room : List Values → Tables → Type 0
  Room xs now = RoomFor xs (now t) × Keeps now × ((v : Values) → Contains xs v → AreCells (form t).columns v)

  less_room : (x : Values) (xs : List Values) (now : Tables) → Is x → Room (x ∷ xs) now
      → Room xs (with_cells t x now)
  less_room x xs now so (room, kept, cells) =
      let (n, le, has) = room_for_one x xs (now t) room in
      let numbered = numbered_so t front now n has x (cells x (contains_first x xs)) in (
        subst (RoomFor xs) (sym (at_itself t _ now)) (subst (λ r. RoomFor xs (placed r (now t))) (sym numbered)
            (room_for_rest t x xs x now room)),
        keeps x now kept,
        λ v has. cells v (contains_later x v xs has),
      )

  module _ (kinds : (v : Values) → Is v → AreOfKinds t v)
      (own : (v w : Values) → Is v → Is w → HaveSameKey t v w → v ≡ w)
      (parents : (v : Values) (now : Tables) (id : ℤ) → Is v → Keeps now → HasParents t (Int id ∷ v) now)
      (names : List (List ℕ)) (rows : List Values) (all mid : Tables)
      (gone : mid t ≡ without_each t name_key names all t) {cells : ℕ} (are : AreRowsOf cells IsRow more names rows)
      (held : (v : Values) → Shows t (all t) v ↔ IsOfSome IsRow old v) where
    one_of_rows : (x : Values) (xs : List Values) (now : Tables) → Is x → Room (x ∷ xs) now
        → StandBeside t rows_of Is AreOthers (x ∷ []) (now t) → AcceptsRow t x now
    one_of_rows x xs now so (room, kept, cells) beside =
        let (n, le, has) = room_for_one x xs (now t) room in
        next_taken t front now n has x (cells x (contains_first x xs)) (kinds x so) (λ w there same.
        let (y, is, these, far) = beside w there in
        far x (contains_first x []) (sym is ∙ own w x (subst Is (sym is) these) so same))
        (parents x now (next_rowid (now t)) so kept)

    all_shown : (w : Values) → Contains rows w → IsShown t w
    all_shown w has = let (name, d, at, is) = (are.rows_are w).0 has in shows name d w is

    come : (v : Values) → Contains rows v → Is v
    come v has = let (name, d, at, is) = (are.rows_are v).0 has in (name, d, overlaid_new old more name d at, is)

    beside_these : StandBeside t rows_of Is AreOthers rows (mid t)
    beside_these w there = (
      w,
      refl,
      (merged_shown t IsRow by named shows old more names rows all mid gone are held w).0
          ((shows_rows t rows all_shown mid w).1 (inr there)),
      λ v has same.
          let (name, d, at, is) = (are.rows_are v).0 has in
          let k = (shows_without t name_key names all w).0 (subst (λ r. Shows t r w) gone there) in
          let of_name : Contains names name = (are.names_are.exactly name).1 (subst IsSome (sym at) refl) in
          false≢true (sym (k.1 name of_name) ∙ by (name_key name) w ∙ ap (by_name (name_key name)) same
          ∙ named_tells name v (named name d v is)),
    )

    named_taken : FindRows t rows mid → Keeps mid → AcceptsEach t rows_of rows mid
    named_taken found kept = each_taken t rows_of Is AreOthers Room
        (λ v (name, d, at, is). shows name d v is) one_of_rows less_room rows mid (each_once cells rows are.own) come
        ((length rows, omega arith, found.room), kept, found.cells) beside_these

-- nothing is asked of other tables
abbrev Anything : Tables → Type 0
Anything now = ⊤

-- the run cycles of these definitions are shown
abbrev ShowsCycles : ByName (List RunCycle) → Tables → Type 0
ShowsCycles all now = (w : Values) → IsOfSome IsCycleRow all w → Shows table.RunCycle (now table.RunCycle) w

offset_refers : (all : ByName (List RunCycle)) (v : Values) (now : Tables) (id : ℤ) → IsOfSome IsOffsetRow all v
    → ShowsCycles all now → HasParents table.Offset (Int id ∷ v) now
offset_refers all v now id (name, d, at, (p, has, place, k, got, is)) cycles =
    subst (λ x. HasParents table.Offset (Int id ∷ x) now) (sym is)
    (offset_parents now name p place k id (cycles (cycle_values name p) (name, d, at, (p, has, refl))))

-- ---- whole tables

-- such are those of sound definitions, where there is room
pub found_rows : {D : Type 0} {cells : ℕ} (t : Table) (IsRow : List ℕ → D → Values → Type 0) (old more : ByName D)
    (names : List (List ℕ)) (rows : List Values) (all : Tables) → AreRowsOf cells IsRow more names rows
    → ((v : Values) → IsOfSome IsRow (overlaid old more) v → AreCells (form t).columns v)
    → HaveRoom (length rows) (all t) → FindRows t rows all
found_rows t IsRow old more names rows all are cells room = record {
  cells = λ v has.
      let (name, d, at, is) = (are.rows_are v).0 has in
      cells v (name, d, overlaid_new old more name d at, is);
  room = room;
}

-- rows find room where others are out
found_left : (t : Table) (names : List (List ℕ)) (rows : List Values) (all mid : Tables)
    → mid t ≡ without_each t name_key names all t → FindRows t rows all → FindRows t rows mid
found_left t names rows all mid gone found = record {
  cells = found.cells;
  room = subst (HaveRoom (length rows)) (sym gone) (room_without (length rows) t name_key names all found.room);
}

module _ (names : List (List ℕ)) (rows : List Values) (all : Tables) where
  pub applications_taken : (old more : ByName Application) → AreRowsOf 1 IsApplicationRow more names rows
      → ((v : Values) → Shows table.Application (all table.Application) v ↔ IsOfSome IsApplicationRow old v)
      → FindRows table.Application rows all → AcceptsNamed table.Application names rows all
  applications_taken old more are held found = named_taken table.Application IsApplicationRow (λ key v. refl)
      application_named application_shown refl old more Anything (λ v now kept. tt)
      (λ v fact. (applications_storable (overlaid old more) v fact).kinds)
      (λ v w one two same. one_application (overlaid old more) v w one two same.0) (λ v now id so kept. tt) names
      rows all (without_each table.Application name_key names all) refl are held
      (found_left table.Application names rows all _ refl found) tt

  pub calendars_taken : (old more : ByName CalendarEntries) → AreRowsOf 3 IsCalendarRow more names rows
      → ((v : Values) → Shows table.CalendarEntry (all table.CalendarEntry) v ↔ IsOfSome IsCalendarRow old v)
      → FindRows table.CalendarEntry rows all → AcceptsNamed table.CalendarEntry names rows all
  calendars_taken old more are held found = named_taken table.CalendarEntry IsCalendarRow (λ key v. refl)
      calendar_named calendar_shown refl old more Anything (λ v now kept. tt)
      (λ v fact. (calendars_storable (overlaid old more) v fact).kinds)
      (λ v w one two same. one_calendar (overlaid old more) v w one two same.0 same.1.0 same.1.1.0)
      (λ v now id so kept. tt) names rows all (without_each table.CalendarEntry name_key names all) refl are held
      (found_left table.CalendarEntry names rows all _ refl found) tt

  pub periods_taken : (old more : ByName Period) → AreRowsOf 2 IsPeriodRow more names rows
      → ((v : Values) → Shows table.Period (all table.Period) v ↔ IsOfSome IsPeriodRow old v)
      → FindRows table.Period rows all → AcceptsNamed table.Period names rows all
  periods_taken old more are held found = named_taken table.Period IsPeriodRow (λ key v. refl) period_named
      period_shown refl old more Anything (λ v now kept. tt)
      (λ v fact. (periods_storable (overlaid old more) v fact).kinds)
      (λ v w one two same. one_period (overlaid old more) v w one two same.0 same.1.0)
      (λ v now id so kept. tt) names rows all (without_each table.Period name_key names all) refl are held
      (found_left table.Period names rows all _ refl found) tt

  pub predecessors_taken : (old more : ByName (List Predecessor))
      → AreEach (IsNamed (λ (p : Predecessor). p.name)) (overlaid old more)
      → AreRowsOf 2 IsPredecessorRow more names rows
      → ((v : Values) → Shows table.Predecessor (all table.Predecessor) v ↔ IsOfSome IsPredecessorRow old v)
      → FindRows table.Predecessor rows all → AcceptsNamed table.Predecessor names rows all
  predecessors_taken old more each are held found = named_taken table.Predecessor IsPredecessorRow (λ key v. refl)
      predecessor_named predecessor_shown refl old more Anything (λ v now kept. tt)
      (λ v fact. (predecessors_storable (overlaid old more) v fact).kinds)
      (λ v w one two same. one_predecessor (overlaid old more) each v w one two same.0 same.1.0)
      (λ v now id so kept. tt)
      names rows all (without_each table.Predecessor name_key names all) refl are held
      (found_left table.Predecessor names rows all _ refl found) tt

-- run cycles, and then their offsets
module _ (moves : DefinitionMoves) (all : Tables) (old more : ByName (List RunCycle))
    (each : AreEach (IsNamed (λ (cycle : RunCycle). cycle.name)) (overlaid old more))
    (are : AreRowsOf 2 IsCycleRow more moves.names.items moves.rows.items)
    (offsets_are : AreRowsOf 3 IsOffsetRow more moves.names.items moves.offsets.items)
    (held : (v : Values) → Shows table.RunCycle (all table.RunCycle) v ↔ IsOfSome IsCycleRow old v)
    (held_offsets : (v : Values) → Shows table.Offset (all table.Offset) v ↔ IsOfSome IsOffsetRow old v) where
  abbrev bare : Tables
  bare = without_each table.Offset name_key moves.names.items all

  abbrev left : Tables
  left = cycles_gone moves.names.items all

  abbrev cycled : Tables
  cycled = with_each table.RunCycle rows_of moves.rows.items left

  bare_cycles : bare table.RunCycle ≡ all table.RunCycle
  bare_cycles = without_other table.Offset name_key table.RunCycle refl moves.names.items all

  bare_held : (v : Values) → Shows table.RunCycle (bare table.RunCycle) v ↔ IsOfSome IsCycleRow old v
  bare_held v = subst (λ r. Shows table.RunCycle r v ↔ IsOfSome IsCycleRow old v) (sym bare_cycles) (held v)

  cycled_offsets : cycled table.Offset ≡ bare table.Offset
  cycled_offsets = with_other table.RunCycle rows_of table.Offset refl moves.rows.items left
      ∙ without_other table.RunCycle name_key table.Offset refl moves.names.items bare

  pub cycles_taken : FindRows table.RunCycle moves.rows.items all → FindRows table.Offset moves.offsets.items all
      → AcceptsCycles moves all
  cycles_taken found found_offsets = (
    named_taken table.RunCycle IsCycleRow (λ key v. refl) cycle_named cycle_shown refl old more Anything
        (λ v now kept. tt) (λ v fact. (cycles_storable (overlaid old more) v fact).kinds)
        (λ v w one two same. one_cycle (overlaid old more) each v w one two same.0 same.1.0) (λ v now id so kept. tt)
        moves.names.items moves.rows.items bare left refl are bare_held
        (found_left table.RunCycle moves.names.items moves.rows.items bare left refl (record {
          cells = found.cells;
          room = subst (HaveRoom (length moves.rows.items)) (sym bare_cycles) found.room;
        })) tt,
    named_taken table.Offset IsOffsetRow (λ key v. refl) offset_named offset_shown refl old more
        (ShowsCycles (overlaid old more))
        (λ v now kept w fact. subst (λ r. Shows table.RunCycle r w)
        (sym (at_other table.Offset table.RunCycle (placed (with_rowid Chosen (now table.Offset) (stored table.Offset v))
        (now table.Offset)) now refl)) (kept w fact))
        (λ v fact. (offsets_storable (overlaid old more) v fact).kinds)
        (λ v w one two same. one_offset (overlaid old more) each v w one two same.0 same.1.0 same.1.1.0)
        (offset_refers (overlaid old more))
        moves.names.items moves.offsets.items all cycled cycled_offsets offsets_are held_offsets
        (found_left table.Offset moves.names.items moves.offsets.items all cycled cycled_offsets found_offsets)
        (λ w fact. (merged_shown table.RunCycle IsCycleRow (λ key v. refl) cycle_named cycle_shown old more
        moves.names.items moves.rows.items bare left refl are bare_held w).1 fact),
  )
