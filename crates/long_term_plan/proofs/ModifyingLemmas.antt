-- What a modification changes, and what it makes of the sets.
use Rattle.std.proofs.Common.{◌≡◌, ◌≢◌, ◌↔◌, ℕ, ◌≤◌, Bool, true, false, List, [], ◌∷◌, length, filter, map, refl, sym}
use Rattle.std.proofs.Common.{ap, subst, ◌∙◌, inl, inr, Option, None, Some, cond}
use Rattle.std.specs.Prelude.{is_none, is_some, nat_eq, option_map, if◌then◌else◌}
use Rattle.std.specs.List.{Contains}
use Rattle.std.specs.Option.{option_and_then}
use Rattle.std.proofs.lemmas.List.Kept.{AllPairs-filter}
use Rattle.occurrences.specs.declared.place.Deletion.{Deletion}
use Rattle.occurrences.specs.declared.row.Row.{Row}
use Rattle.planner_machine.specs.declared.content.Draft.{Draft}
use Rattle.planner_machine.specs.Content.{Seat, Sets}
use Rattle.planner_machine.specs.Modify.{draft_with, looks_at, stamped, withdrawn}
use Rattle.planner_machine.specs.Moves.{keep, or_else, size}
use Rattle.planner_machine.specs.RowsSound.{RowsSound}
use Rattle.planner_machine.proofs.SeatLemmas.{cases_issued}
use Rattle.plan_store_lists.specs.Rows.{HasEachOnce, look_up, of_deletion, of_row}
use Rattle.plan_store.specs.Changes.{FitsSet}
use Rattle.plan_store.specs.Views.{IsAny, ListsSet}
use Rattle.plan_store.specs.declared.changes.Moves.{Moves}
use Rattle.plan_store_lists.proofs.LookLemmas.{look_none, look_some}
use Rattle.plan_store.proofs.ViewLemmas.{once_from_rows, size_listed, size_same}
use Rattle.plan_store_pairs.proofs.ListLemmas.{filter_has, filter_keeps}
use Rattle.long_term_plan.specs.Making.{numbered}
use Rattle.long_term_plan.specs.Modifying.{AreParted, looks, outcome}
use Rattle.long_term_plan.proofs.DeleteLemmas.{serial_is}
use Rattle.long_term_plan.proofs.NumberLemmas.{numbered_high, numbered_once}
use Rattle.long_term_plan.proofs.PairwiseLemmas.{map_pairs}
use Rattle.long_term_plan.proofs.PartingLemmas.{mapped_all, mapped_has, mapped_once}

abbrev serial_of : Row → ℕ
serial_of row = row.serial

-- ---- a row that stays keeps its serial and its key

abbrev IsSelf : Row → Row → Type 0
IsSelf row x = (x.serial ≡ row.serial) × (x.key ≡ row.key)

pub stays_self : (only : Option (List ℕ)) (named : List Draft) (row x : Row) → outcome only named row ≡ Some x
    → IsSelf row x
stays_self only named row x is = by_look (looks_at (looks only) row) is
  where
    by_draft : (d : Option Draft) → option_map (λ draft. stamped draft row) d ≡ Some x → IsSelf row x
    by_draft None at = cc
    by_draft (Some draft) at = let same : stamped draft row ≡ x = cc in
        (sym (ap (λ (r : Row). r.serial) same), sym (ap (λ (r : Row). r.key) same))

    by_look : (b : Bool)
        → (if b then option_map (λ draft. stamped draft row) (draft_with row.key named) else Some row) ≡ Some x
        → IsSelf row x
    by_look true at = by_draft (draft_with row.key named) at
    by_look false at = let same : row ≡ x = cc in
        (sym (ap (λ (r : Row). r.serial) same), sym (ap (λ (r : Row). r.key) same))

-- the deletions of rows that are withdrawn, by serial
pub look_withdrawn : (rows : List Row) (serial : ℕ)
    → look_up (λ (d : Deletion). d.row.serial) (map withdrawn rows) serial ≡ option_map withdrawn
    (look_up serial_of rows serial)
look_withdrawn [] serial = refl
look_withdrawn (row ∷ rows) serial = elim (nat_eq row.serial serial) as
    (λ b. cond b (Some (withdrawn row)) (look_up (λ (d : Deletion). d.row.serial) (map withdrawn rows) serial)
    ≡ option_map withdrawn (cond b (Some row) (look_up serial_of rows serial))) [
      | true ↦ refl
      | false ↦ look_withdrawn rows serial
    ]

pub once_withdrawn : (rows : List Row) → HasEachOnce of_row rows → HasEachOnce of_deletion (map withdrawn rows)
once_withdrawn rows once = map_pairs (λ (a b : Deletion). a.row.serial ≡ b.row.serial → ⊥) withdrawn rows once

module _ (c : Sets) (sound : RowsSound c) (rows : List Row) (lists : ListsSet of_row c.ltp IsAny rows) where
  -- the list of a whole set is its look-up
  look_rows : (serial : ℕ) → look_up serial_of rows serial ≡ c.ltp serial
  look_rows serial = by_look (look_up serial_of rows serial) refl (c.ltp serial) refl
    where
      by_look : (o : Option Row) → look_up serial_of rows serial ≡ o → (p : Option Row) → c.ltp serial ≡ p → o ≡ p
      by_look (Some x) is p at =
          let (there, same) = look_some serial_of rows serial x is in
          sym (subst (λ n. c.ltp n ≡ Some x) same ((lists.exactly x).0 there).0) ∙ at
      by_look None is None at = refl
      by_look None is (Some x) at =
          let own = serial_is c sound serial x at in
          absurd (look_none serial_of rows serial is x
          ((lists.exactly x).1 (subst (λ n. c.ltp n ≡ Some x) (sym own) at, tt)) own)

  stands : (row : Row) → Contains rows row → c.ltp row.serial ≡ Some row
  stands row there = ((lists.exactly row).0 there).0

  pub within : (row : Row) → Contains rows row → (1 ≤ row.serial) × (row.serial ≤ c.issued)
  within row there = elim (cases_issued c.issued row.serial) [
    | inl in_range ↦ in_range
    | inr past ↦ let empty = ap (λ (s : Seat). s.ltp) (sound.unissued row.serial past) in
        let no : None ≡ Some row = sym empty ∙ stands row there in cc
  ]

  rows_once : HasEachOnce of_row rows
  rows_once = once_from_rows of_row rows lists.rows

  module _ (only : Option (List ℕ)) (named : List Draft) (planned gone changed : List Row)
      (is : AreParted (outcome only named) rows planned gone changed) where
    abbrev f : Row → Option Row
    f = outcome only named

    abbrev goes : Row → Bool
    goes row = is_none (f row)

    self : (row x : Row) → f row ≡ Some x → x.serial ≡ row.serial
    self row x at = (stays_self only named row x at).0

    -- the look-up of those that are withdrawn
    keep_look : (o : Option Row) (serial : ℕ) → look_up serial_of rows serial ≡ o
        → look_up serial_of (filter goes rows) serial ≡ keep goes o
    keep_look o serial at = by_look (look_up serial_of (filter goes rows) serial) refl o at
      where
        by_look : (p : Option Row) → look_up serial_of (filter goes rows) serial ≡ p → (o : Option Row)
            → look_up serial_of rows serial ≡ o → p ≡ keep goes o
        by_look (Some x) at_p o at_o =
            let (there, same) = look_some serial_of (filter goes rows) serial x at_p in
            let (in_rows, passes) = filter_has goes rows x there in
            let here : o ≡ Some x = sym at_o ∙ look_rows serial
            ∙ subst (λ n. c.ltp n ≡ Some x) same (stands x in_rows) in
            sym (ap (keep goes) here ∙ ap (λ (b : Bool). if b then Some x else None) passes)
        by_look None at_p None at_o = refl
        by_look None at_p (Some x) at_o = by_test (goes x) refl
          where
            by_test : (b : Bool) → goes x ≡ b → None ≡ (if b then Some x else None)
            by_test false fails = refl
            by_test true passes =
                let (there, same) = look_some serial_of rows serial x at_o in
                absurd (look_none serial_of (filter goes rows) serial at_p x (filter_keeps goes rows x there passes)
                same)

    pub gone_look : (serial : ℕ) → look_up serial_of gone serial ≡ keep goes (c.ltp serial)
    gone_look serial =
        ap (λ (l : List Row). look_up serial_of l serial) is.go
        ∙ keep_look (c.ltp serial) serial (look_rows serial)

    -- what is listed as changed under a serial is what became of the row there
    changed_is : (serial : ℕ) (y : Row) → look_up serial_of changed serial ≡ Some y → (row : Row)
        × (c.ltp serial ≡ Some row) × (f row ≡ Some y)
    changed_is serial y at =
        let (there, same) = look_some serial_of changed serial y at in
        let (row, in_rows, becomes, _) = is.change.from y there in
        (row, subst (λ n. c.ltp n ≡ Some row) (sym (self row y becomes) ∙ same) (stands row in_rows), becomes)

    -- and isn't there as it is
    pub changed_other : (x : Row) → Contains changed x → c.ltp x.serial ≢ Some x
    changed_other x there at =
        let (row, in_rows, becomes, other) = is.change.from x there in
        let both : Some row ≡ Some x =
        sym (stands row in_rows) ∙ subst (λ n. c.ltp n ≡ Some x) (self row x becomes) at in
        let one : row ≡ x = cc in other (sym one)

    -- a set serial by serial
    pub moved_ltp : (serial : ℕ) (o : Option Row) → c.ltp serial ≡ o → (p : Option Row)
        → look_up serial_of changed serial ≡ p
        → or_else p (if is_some (keep goes o) then None else o) ≡ option_and_then f o
    moved_ltp serial None at None listed = refl
    moved_ltp serial None at (Some y) listed =
        let (row, stood, becomes) = changed_is serial y listed in
        let no : None ≡ Some row = sym at ∙ stood in cc
    moved_ltp serial (Some row) at (Some y) listed =
        let (other, stood, becomes) = changed_is serial y listed in
        let both : Some other ≡ Some row = sym stood ∙ at in
        let same : other ≡ row = cc in
        sym (subst (λ r. f r ≡ Some y) same becomes)
    moved_ltp serial (Some row) at None listed = by_outcome (f row) refl
      where
        by_outcome : (o : Option Row) → f row ≡ o
            → (if is_some (keep goes (Some row)) then None else Some row) ≡ o
        by_outcome None becomes =
            let passes : goes row ≡ true = ap is_none becomes in
            ap (λ (b : Bool). if is_some (if b then Some row else None) then None else Some row) passes
        by_outcome (Some x) becomes =
            let fails : goes row ≡ false = ap is_none becomes in
            let in_rows = (lists.exactly row).1
            (subst (λ n. c.ltp n ≡ Some row) (sym (serial_is c sound serial row at)) at, tt) in
            ap (λ (b : Bool). if is_some (if b then Some row else None) then None else Some row) fails
            ∙ elim (is.change.all row x in_rows becomes) [
              | inl there ↦ absurd (look_none serial_of changed serial listed x there
                  (self row x becomes ∙ serial_is c sound serial row at))
              | inr same ↦ ap Some (sym same)
            ]

    pub planned_has : (x : Row) → Contains planned x ↔ (option_and_then f (c.ltp x.serial) ≡ Some x)
    planned_has x = (forward, backward (c.ltp x.serial) refl)
      where
        forward : Contains planned x → option_and_then f (c.ltp x.serial) ≡ Some x
        forward there =
            let (row, in_rows, becomes) = mapped_has f rows x (subst (λ l. Contains l x) is.stay there) in
            let at : c.ltp x.serial ≡ Some row =
            subst (λ n. c.ltp n ≡ Some row) (sym (self row x becomes)) (stands row in_rows) in
            ap (option_and_then f) at ∙ becomes

        backward : (o : Option Row) → c.ltp x.serial ≡ o → option_and_then f o ≡ Some x
            → Contains planned x
        backward None at becomes = cc
        backward (Some row) at becomes =
            let own = serial_is c sound x.serial row at in
            let in_rows = (lists.exactly row).1 (subst (λ n. c.ltp n ≡ Some row) (sym own) at, tt) in
            subst (λ l. Contains l x) (sym is.stay) (mapped_all f rows row x in_rows becomes)

    planned_once : HasEachOnce of_row planned
    planned_once = subst (HasEachOnce of_row) (sym is.stay) (mapped_once f self rows rows_once)

    pub gone_once : HasEachOnce of_row gone
    gone_once = subst (HasEachOnce of_row) (sym is.go)
        (AllPairs-filter (λ (x y : Row). x.serial ≡ y.serial → ⊥) goes rows rows_once)

    pub gone_in : (row : Row) → Contains gone row → Contains rows row × (goes row ≡ true)
    gone_in row there = filter_has goes rows row (subst (λ l. Contains l row) is.go there)

    -- how many stay, and how many are withdrawn
    planned_look : (serial : ℕ) → look_up serial_of planned serial ≡ option_and_then f (c.ltp serial)
    planned_look serial = by_look (look_up serial_of planned serial) refl
        (option_and_then f (c.ltp serial)) refl
      where
        by_look : (o : Option Row) → look_up serial_of planned serial ≡ o → (p : Option Row)
            → option_and_then f (c.ltp serial) ≡ p → o ≡ p
        by_look (Some x) at p at_p =
            let (there, same) = look_some serial_of planned serial x at in
            sym (subst (λ n. option_and_then f (c.ltp n) ≡ Some x) same ((planned_has x).0 there)) ∙ at_p
        by_look None at None at_p = refl
        by_look None at (Some x) at_p = absurd (none_there (c.ltp serial) refl at_p)
          where
            none_there : (q : Option Row) → c.ltp serial ≡ q → option_and_then f q ≡ Some x → ⊥
            none_there None at_q becomes = cc
            none_there (Some row) at_q becomes =
                let own : x.serial ≡ serial = self row x becomes ∙ serial_is c sound serial row at_q in
                let here : option_and_then f (c.ltp x.serial) ≡ Some x =
                subst (λ n. option_and_then f (c.ltp n) ≡ Some x) (sym own) at_p in
                look_none serial_of planned serial at x ((planned_has x).1 here) own

    pub count_planned : length planned ≡ size (λ serial. option_and_then f (c.ltp serial)) c.issued
    count_planned =
        size_listed of_row c.issued planned planned_once (λ x there.
        let (row, in_rows, becomes) = mapped_has f rows x (subst (λ l. Contains l x) is.stay there) in
        subst (λ n. (1 ≤ n) × (n ≤ c.issued)) (sym (self row x becomes)) (within row in_rows))
        ∙ size_same (look_up serial_of planned) (λ serial. option_and_then f (c.ltp serial)) c.issued
        (λ serial _. planned_look serial)

    pub count_gone : length gone ≡ size (λ serial. keep goes (c.ltp serial)) c.issued
    count_gone =
        size_listed of_row c.issued gone gone_once (λ x there. within x (gone_in x there).0)
        ∙ size_same (look_up serial_of gone) (λ serial. keep goes (c.ltp serial)) c.issued
        (λ serial _. gone_look serial)

    -- what goes stands there, what changes stands there under its key, and what comes is new
    pub fits_parted : (new : List Draft) (moves : Moves Row) → moves.gone.items ≡ gone
        → moves.changed.items ≡ changed → moves.put.items ≡ numbered c.issued new
        → FitsSet of_row moves c.ltp
    fits_parted new moves gone_is same_changed put = record {
      gone_once = subst (HasEachOnce of_row) (sym gone_is) gone_once;
      changed_once = subst (HasEachOnce of_row) (sym same_changed) (is.change.once rows_once self);
      put_once = subst (HasEachOnce of_row) (sym put) (numbered_once c.issued new);
      goes = λ x there. stands x (gone_in x (subst (λ l. Contains l x) gone_is there)).0;
      changes = λ x there.
          let (row, in_rows, becomes, _) = is.change.from x (subst (λ l. Contains l x) same_changed there) in
          let (serial, key) = stays_self only named row x becomes in (
            row,
            subst (λ n. c.ltp n ≡ Some row) (sym serial) (stands row in_rows),
            λ i. record { app = (sym key i).app; ia = (sym key i).ia; serial = sym serial i },
          );
      stays = λ x there.
          let (row, in_rows, becomes, _) = is.change.from x (subst (λ l. Contains l x) same_changed there) in
          let at : c.ltp x.serial ≡ Some row =
          subst (λ n. c.ltp n ≡ Some row) (sym (self row x becomes)) (stands row in_rows) in
          let fails : goes row ≡ false = ap is_none becomes in
          ap (λ (l : List Row). look_up serial_of l x.serial) gone_is ∙ gone_look x.serial ∙ ap (keep goes) at
          ∙ ap (λ (b : Bool). if b then Some row else None) fails;
      new = λ x there.
          let high = numbered_high c.issued new x (subst (λ l. Contains l x) put there) in
          ap (λ (s : Seat). s.ltp) (sound.unissued x.serial (inr high));
    }
