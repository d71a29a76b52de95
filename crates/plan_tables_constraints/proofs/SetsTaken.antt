-- What moves in a set is taken by its table, where the set after the moves is one of a sound content.
use Rattle.std.proofs.Common.{◌≡◌, ◌↔◌, ◌<◌, ◌^◌, ◌∙◌, ℕ, true, false, List, [], ◌∷◌, inl, inr, refl, sym, ap, subst}
use Rattle.std.proofs.Common.{Option, Some, None, arith}
use Rattle.std.specs.Prelude.{⊤}
use Rattle.std.specs.List.{Contains}
use Rattle.std.proofs.lemmas.Bool.{false≢true}
use Rattle.sqlite.specs.Order.{Row as Values, column}
use Rattle.sqlite.specs.Rowids.TheVariants.{Chosen}
use Rattle.sqlite_rules.specs.Edit.{with_rowid}
use Rattle.occurrences.specs.declared.place.CurrentRow.{CurrentRow}
use Rattle.occurrences.specs.declared.place.Deletion.{Deletion}
use Rattle.occurrences.specs.declared.place.Place.TheVariants.{Current, Deleted, History, LongTerm}
use Rattle.occurrences.specs.declared.row.Row.{Row}
use Rattle.planner_machine.specs.Content.{Content, Seat, empty_seat, seat}
use Rattle.planner_machine.specs.Sound.{IsRow, IsSound}
use Rattle.plan_store_lists.specs.Rows.{look_up}
use Rattle.plan_store_lists.proofs.KeyLemmas.{contains_first}
use Rattle.plan_tables_schema.specs.Rows.{Tables, shown, stored}
use Rattle.plan_tables_schema.specs.Accepted.{AcceptsRow}
use Rattle.plan_tables_schema.specs.declared.tables.Table.{Table}
use Rattle.plan_tables_schema.specs.declared.tables.Table.TheVariants as table
use Rattle.plan_store.specs.Changes.{FitsSet, moved_set}
use Rattle.plan_store.specs.declared.changes.Moves.{Moves}
use Rattle.plan_store_lists.proofs.LookLemmas.{look_at}
use Rattle.plan_store.proofs.PlaceLemmas.{stands_cp, stands_deleted, stands_history, stands_ltp}
use Rattle.plan_store.proofs.ViewLemmas.{issued_from}
use Rattle.plan_tables_content.specs.Content.{IsOfSet, IsUnderOwn}
use Rattle.plan_tables_content.specs.Facts.{current_values, deletion_values, row_values}
use Rattle.plan_tables_content.proofs.SameOptions.{none_some}
use Rattle.plan_tables_writing.specs.Accepted.{AcceptsMoves}
use Rattle.plan_tables_writing.specs.Writing.{with_each, without_each}
use Rattle.plan_tables_writing.proofs.KindLemmas.{cp_storable, deletions_storable, history_storable, ltp_storable}
use Rattle.plan_tables_constraints.proofs.EachTaken.{StandBeside, each_taken}
use Rattle.plan_tables_constraints.proofs.FormRows.{each_shown}
use Rattle.plan_tables_constraints.proofs.Held.{Shows, matched}
use Rattle.plan_tables_constraints.proofs.MovedSets.{is_changed, is_put, is_rest, lacking, not_put, one_each}
use Rattle.plan_tables_constraints.proofs.RowTakes.{HasOtherNumber, IsOtherRow, current_taken, deletion_taken, history_taken}
use Rattle.plan_tables_constraints.proofs.RowTakes.{ltp_taken}
use Rattle.plan_tables_constraints.proofs.SetMoves.{shows_with, shows_without}

-- the set has it under its serial
abbrev pub IsIn : {X : Type 0} → (X → Row) → (ℕ → Option X) → X → Type 0
IsIn row_of set x = set (row_of x).serial ≡ Some x

abbrev pub HaveOther : {X : Type 0} → (X → Row) → X → X → Type 0
HaveOther row_of x y = (row_of x).serial ≡ (row_of y).serial → ⊥

abbrev AnyRoom : {X : Type 0} → List X → Tables → Type 0
AnyRoom xs now = ⊤

-- the rows show what is in the set, and none of this serial
abbrev pub LacksSerial : {X : Type 0} → Table → (X → Values) → (X → Row) → (ℕ → Option X) → X → List Values → Type 0
LacksSerial t values_of row_of set x rows =
    StandBeside t values_of (IsIn row_of set) (HaveOther row_of) (x ∷ []) rows

module _ {X : Type 0} (row_of : X → Row) (moves : Moves X) (set : ℕ → Option X) (fits : FitsSet row_of moves set)
    (own : IsUnderOwn (λ (x : X). (row_of x).serial) set) (t : Table) (values_of key_of : X → Values)
    (told : (x y : X) → matched t (key_of x) (values_of y) ≡ true → (row_of x).serial ≡ (row_of y).serial)
    (tells : (x y : X) → (row_of x).serial ≡ (row_of y).serial → matched t (key_of x) (values_of y) ≡ true)
    (shows : (x : X) (rows : List Values) → shown t (with_rowid Chosen rows (stored t
    (values_of x))) ≡ values_of x) (all : Tables)
    (held : (v : Values) → Shows t (all t) v ↔ IsOfSet values_of set v) where
  abbrev number : X → ℕ
  number x = (row_of x).serial

  abbrev then : ℕ → Option X
  then n = moved_set row_of moves set n

  put_in : (x : X) → Contains moves.put.items x → IsIn row_of then x
  put_in x has = is_put row_of moves set fits own (number x) x
      (look_at number moves.put.items (one_each row_of moves.put.items fits.put_once) x (number x) has refl)

  changed_in : (x : X) → Contains moves.changed.items x → IsIn row_of then x
  changed_in x has =
      let was = fits.changes x has in
      is_changed row_of moves set fits own (number x) x
      (not_put row_of moves set fits own (number x) was.0 was.1)
      (look_at number moves.changed.items (one_each row_of moves.changed.items fits.changed_once) x (number x) has refl)

  abbrev bare : Tables
  bare = without_each t key_of moves.changed.items (without_each t key_of moves.gone.items all)

  -- what is left stood in the set and stands there still, under another serial than what changes
  left : (v : Values) → Shows t (bare t) v → (x : X) × (v ≡ values_of x) × (set (number x) ≡ Some x)
      × IsIn row_of then x × ((y : X) → Contains moves.changed.items y → HaveOther row_of x y)
  left v there =
      let k = (shows_without t key_of moves.changed.items (without_each t key_of moves.gone.items all) v).0 there in
      let h = (shows_without t key_of moves.gone.items all v).0 k.0 in
      let (n, x, stands, is) = (held v).0 h.0 in
      let numbered : number x ≡ n = own n x stands in
      let no_change : look_up number moves.changed.items n ≡ None =
      lacking row_of moves set fits own t values_of key_of told tells shows moves.changed.items n x numbered
      (λ y has. subst (λ w. matched t (key_of y) w ≡ false) is (k.1 y has)) in
      let no_gone : look_up number moves.gone.items n ≡ None =
      lacking row_of moves set fits own t values_of key_of told tells shows moves.gone.items n x numbered
      (λ y has. subst (λ w. matched t (key_of y) w ≡ false) is (h.1 y has)) in
      let later : then n ≡ Some x = is_rest row_of moves set fits own n
      (not_put row_of moves set fits own n x stands) no_change no_gone ∙ stands in (
        x,
        is,
        subst (λ m. set m ≡ Some x) (sym numbered) stands,
        subst (λ m. then m ≡ Some x) (sym numbered) later,
        λ y has same. false≢true (sym (subst (λ w. matched t (key_of y) w ≡ false) is (k.1 y has))
            ∙ tells y x (sym same)),
      )

  module _ (one : (x : X) (now : Tables) → IsIn row_of then x → LacksSerial t values_of row_of then x (now t)
      → AcceptsRow t (values_of x) now) where
    pub moves_taken : AcceptsMoves t values_of key_of moves all
    moves_taken = (
      each_taken t values_of (IsIn row_of then) (HaveOther row_of) AnyRoom (λ x so. shows x)
          (λ x xs now so room beside. one x now so beside) (λ x xs now so room. tt) moves.changed.items bare
          fits.changed_once changed_in tt first,
      each_taken t values_of (IsIn row_of then) (HaveOther row_of) AnyRoom (λ x so. shows x)
          (λ x xs now so room beside. one x now so beside) (λ x xs now so room. tt) moves.put.items
          (with_each t values_of moves.changed.items bare) fits.put_once put_in tt later,
    )
      where
        first : StandBeside t values_of (IsIn row_of then) (HaveOther row_of) moves.changed.items (bare t)
        first v there = let (y, is, was, so, far) = left v there in (y, is, so, far)

        later : StandBeside t values_of (IsIn row_of then) (HaveOther row_of) moves.put.items
            (with_each t values_of moves.changed.items bare t)
        later v there = elim ((shows_with t values_of shows moves.changed.items bare v).0 there) [
          | inl new ↦
              let was = fits.changes new.0 new.1 in (
                new.0,
                new.2,
                changed_in new.0 new.1,
                λ x has same. none_some (set (number x)) was.0 (fits.new x has) (ap set (sym same) ∙ was.1),
              )
          | inr old ↦
              let (y, is, was, so, far) = left v old in
              (y, is, so, λ x has same. none_some (set (number x)) y (fits.new x has) (ap set (sym same) ∙ was))
        ]

-- ---- rows of a sound content

module _ (d : Content) (sound : IsSound d) where
  small_from : (serial : ℕ) → (seat d.sets serial ≡ empty_seat → ⊥) → serial < 2 ^ 63
  small_from serial there =
      let within = issued_from d.sets sound.serials serial there in
      omega (arith, within.1, sound.sizes.issued)

  pub ltp_row : (x : Row) → d.sets.ltp x.serial ≡ Some x → IsRow x × (x.serial < 2 ^ 63)
  ltp_row x is = (
    sound.ranges.rows x.serial (record { row = x; place = LongTerm }) (stands_ltp d.sets sound.serials x.serial x is),
    small_from x.serial (λ empty. none_some (d.sets.ltp x.serial) x (ap (λ (s : Seat). s.ltp) empty) is),
  )

  pub history_row : (x : Row) → d.sets.history x.serial ≡ Some x → IsRow x × (x.serial < 2 ^ 63)
  history_row x is = (
    sound.ranges.rows x.serial (record { row = x; place = History }) (stands_history d.sets sound.serials x.serial x is),
    small_from x.serial (λ empty. none_some (d.sets.history x.serial) x (ap (λ (s : Seat). s.history) empty) is),
  )

  pub cp_row : (x : CurrentRow) → d.sets.cp x.row.serial ≡ Some x → IsRow x.row × (x.row.serial < 2 ^ 63)
  cp_row x is = (
    sound.ranges.rows x.row.serial (record { row = x.row; place = Current x.status }) (stands_cp d.sets sound.serials x.row.serial x is),
    small_from x.row.serial (λ empty. none_some (d.sets.cp x.row.serial) x (ap (λ (s : Seat). s.cp) empty) is),
  )

  pub deletion_row : (x : Deletion) → d.sets.deletions x.row.serial ≡ Some x → IsRow x.row × (x.row.serial < 2 ^ 63)
  deletion_row x is = (
    sound.ranges.rows x.row.serial (record { row = x.row; place = Deleted x.reason }) (stands_deleted d.sets sound.serials x.row.serial x is),
    small_from x.row.serial (λ empty. none_some (d.sets.deletions x.row.serial) x (ap (λ (s : Seat). s.deletions) empty)
        is),
  )

  ltp_key : (x y : Row) → d.sets.ltp x.serial ≡ Some x → d.sets.ltp y.serial ≡ Some y → y.key ≡ x.key
      → y.serial ≡ x.serial
  ltp_key x y is at same = sound.keys y.serial x.serial (record { row = y; place = LongTerm })
      (record { row = x; place = LongTerm }) (stands_ltp d.sets sound.serials y.serial y at)
      (stands_ltp d.sets sound.serials x.serial x is) tt tt same

  history_key : (x y : Row) → d.sets.history x.serial ≡ Some x → d.sets.history y.serial ≡ Some y → y.key ≡ x.key
      → y.serial ≡ x.serial
  history_key x y is at same = sound.keys y.serial x.serial (record { row = y; place = History })
      (record { row = x; place = History }) (stands_history d.sets sound.serials y.serial y at)
      (stands_history d.sets sound.serials x.serial x is) tt tt same

  module _ (now : Tables) where
    pub ltp_one : (x : Row) → d.sets.ltp x.serial ≡ Some x
        → LacksSerial table.LongTerm row_values (λ (r : Row). r) d.sets.ltp x (now table.LongTerm)
        → AcceptsRow table.LongTerm (row_values x) now
    ltp_one x is beside =
        let (row, small) = ltp_row x is in
        ltp_taken now x row small (ltp_storable x) (each_shown (IsOtherRow x) table.LongTerm (now table.LongTerm)
        (λ v there.
        let (y, shows, stands, far) = beside v there in
        record {
          other = y;
          shows = shows;
          serial = far x (contains_first x []);
          key = λ same. far x (contains_first x []) (ltp_key x y is stands same);
        }))

    pub history_one : (x : Row) → d.sets.history x.serial ≡ Some x
        → LacksSerial table.History row_values (λ (r : Row). r) d.sets.history x (now table.History)
        → AcceptsRow table.History (row_values x) now
    history_one x is beside =
        let (row, small) = history_row x is in
        history_taken now x row small (history_storable x) (each_shown (IsOtherRow x) table.History (now table.History)
        (λ v there.
        let (y, shows, stands, far) = beside v there in
        record {
          other = y;
          shows = shows;
          serial = far x (contains_first x []);
          key = λ same. far x (contains_first x []) (history_key x y is stands same);
        }))

    pub cp_one : (x : CurrentRow) → d.sets.cp x.row.serial ≡ Some x
        → LacksSerial table.Current current_values (λ (r : CurrentRow). r.row) d.sets.cp x (now table.Current)
        → AcceptsRow table.Current (current_values x) now
    cp_one x is beside =
        let (row, small) = cp_row x is in
        current_taken now x row small (cp_storable x)
        (each_shown (HasOtherNumber x.row.serial) table.Current (now table.Current) (λ v there.
        let (y, shows, stands, far) = beside v there in
        (y.row.serial, ap (λ (w : Values). column w 0) shows, far x (contains_first x []))))

    pub deletion_one : (x : Deletion) → d.sets.deletions x.row.serial ≡ Some x
        → LacksSerial table.Deletion deletion_values (λ (r : Deletion). r.row) d.sets.deletions x (now table.Deletion)
        → AcceptsRow table.Deletion (deletion_values x) now
    deletion_one x is beside =
        let (row, small) = deletion_row x is in
        deletion_taken now x row small (deletions_storable x)
        (each_shown (HasOtherNumber x.row.serial) table.Deletion (now table.Deletion) (λ v there.
        let (y, shows, stands, far) = beside v there in
        (y.row.serial, ap (λ (w : Values). column w 0) shows, far x (contains_first x []))))
