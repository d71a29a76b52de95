-- How many rows both plans have.
use Rattle.std.proofs.Common.{◌≡◌, ℕ, ◌+◌, ◌≤◌, List, [], ◌∷◌, length, refl, sym, ap, ap₂, zero, suc, arith}
use Rattle.std.proofs.Common.{None}
use Rattle.std.proofs.lemmas.List.{length-append, length-map}
use Rattle.occurrences.specs.declared.place.CurrentRow.{CurrentRow}
use Rattle.occurrences.specs.declared.place.Deletion.{Deletion}
use Rattle.occurrences.specs.declared.row.Row.{Row}
use Rattle.planner_machine.specs.Plans.{planned}
use Rattle.occurrences.specs.declared.place.Place.{Place}
use Rattle.occurrences.specs.declared.place.Place.TheVariants.{LongTerm, Current, History, Deleted}
use Rattle.planner_machine.specs.Content.{Seat, Sets, alone, seat}
use Rattle.planner_machine.specs.Moves.{bit, size}
use Rattle.planner_machine.specs.Sound.{AreNumbered, IsUnplanned}
use Rattle.plan_store_lists.specs.Rows.{look_up, of_current, of_deletion, of_row}
use Rattle.plan_store.specs.Contents.{content_of}
use Rattle.plan_store.specs.declared.contents.Content.{Content as Kept}
use Rattle.plan_store_lists.proofs.LookLemmas.{look_has, look_none}
use Rattle.plan_store.proofs.ViewLemmas.{once_from_rows, size_listed, within_cp, within_ltp}
use Rattle.plan_store_soundness.specs.Listing.{IsBare, deleted_place, in_place, placed_list}
use Rattle.plan_store_soundness.proofs.NumberedLemmas.{HasRows, has_rows, listed, seated_from_numbered}

pub planned_rows : (kept : Kept) → HasRows kept → AreNumbered (content_of kept).sets
    → planned (content_of kept).sets ≡ length kept.ltp.items + length kept.cp.items
planned_rows kept rows numbered =
    let ltp = size_listed of_row kept.issued kept.ltp.items (once_from_rows of_row kept.ltp.items rows.ltp)
    (within_ltp (content_of kept).sets numbered kept.ltp.items rows.ltp (λ serial. refl)) in
    let cp = size_listed of_current kept.issued kept.cp.items (once_from_rows of_current kept.cp.items rows.cp)
    (within_cp (content_of kept).sets numbered kept.cp.items rows.cp (λ serial. refl)) in
    ap₂ (λ x y. x + y) (sym ltp) (sym cp)

-- a list in which no number is found is empty
pub none_found : {X : Type 0} (number_of : X → ℕ) (xs : List X) → ((n : ℕ) → look_up number_of xs n ≡ None) → xs ≡ []
none_found number_of [] none = refl
none_found number_of (x ∷ xs) none =
    absurd (look_none number_of (x ∷ xs) (number_of x) (none (number_of x)) x (zero, omega arith, refl) refl)

found_none : {X : Type 0} (number_of : X → ℕ) (xs : List X) → xs ≡ [] → (n : ℕ) → look_up number_of xs n ≡ None
found_none number_of xs is n = ap (λ l. look_up number_of l n) is

pub bare_to : (kept : Kept) → IsBare kept → IsUnplanned (content_of kept)
bare_to kept bare = record {
  rows = λ serial.
      let ltp = found_none (λ (r : Row). r.serial) kept.ltp.items bare.rows.ltp serial in
      let cp = found_none (λ (c : CurrentRow). c.row.serial) kept.cp.items bare.rows.cp serial in
      let history = found_none (λ (r : Row). r.serial) kept.history.items bare.rows.history serial in
      let deletions = found_none (λ (d : Deletion). d.row.serial) kept.deletions.items bare.rows.deletions serial in
      λ i. record { ltp = ltp i; cp = cp i; history = history i; deletions = deletions i };
  pairs = bare.pairs;
  in_force = bare.in_force;
  issued = bare.issued;
}

pub bare_from : (kept : Kept) → IsUnplanned (content_of kept) → IsBare kept
bare_from kept none = record {
  issued = none.issued;
  rows = record {
    ltp = none_found (λ (r : Row). r.serial) kept.ltp.items (λ n. ap (λ (x : Seat). x.ltp) (none.rows n));
    cp = none_found (λ (c : CurrentRow). c.row.serial) kept.cp.items (λ n. ap (λ (x : Seat). x.cp) (none.rows n));
    history = none_found (λ (r : Row). r.serial) kept.history.items (λ n. ap (λ (x : Seat). x.history) (none.rows n));
    deletions = none_found (λ (d : Deletion). d.row.serial) kept.deletions.items
        (λ n. ap (λ (x : Seat). x.deletions) (none.rows n));
  };
  pairs = none.pairs;
  in_force = none.in_force;
}

bits : (s : Sets) (serial : ℕ) (row : Row) (place : Place) → seat s serial ≡ alone row place
    → bit (s.ltp serial) + bit (s.cp serial) + bit (s.history serial) + bit (s.deletions serial) ≡ 1
bits s serial row LongTerm is =
    let a : bit (s.ltp serial) ≡ 1 = ap (λ (x : Seat). bit x.ltp) is in
    let b : bit (s.cp serial) ≡ 0 = ap (λ (x : Seat). bit x.cp) is in
    let c : bit (s.history serial) ≡ 0 = ap (λ (x : Seat). bit x.history) is in
    let d : bit (s.deletions serial) ≡ 0 = ap (λ (x : Seat). bit x.deletions) is in omega arith
bits s serial row (Current status) is =
    let a : bit (s.ltp serial) ≡ 0 = ap (λ (x : Seat). bit x.ltp) is in
    let b : bit (s.cp serial) ≡ 1 = ap (λ (x : Seat). bit x.cp) is in
    let c : bit (s.history serial) ≡ 0 = ap (λ (x : Seat). bit x.history) is in
    let d : bit (s.deletions serial) ≡ 0 = ap (λ (x : Seat). bit x.deletions) is in omega arith
bits s serial row History is =
    let a : bit (s.ltp serial) ≡ 0 = ap (λ (x : Seat). bit x.ltp) is in
    let b : bit (s.cp serial) ≡ 0 = ap (λ (x : Seat). bit x.cp) is in
    let c : bit (s.history serial) ≡ 1 = ap (λ (x : Seat). bit x.history) is in
    let d : bit (s.deletions serial) ≡ 0 = ap (λ (x : Seat). bit x.deletions) is in omega arith
bits s serial row (Deleted reason) is =
    let a : bit (s.ltp serial) ≡ 0 = ap (λ (x : Seat). bit x.ltp) is in
    let b : bit (s.cp serial) ≡ 0 = ap (λ (x : Seat). bit x.cp) is in
    let c : bit (s.history serial) ≡ 0 = ap (λ (x : Seat). bit x.history) is in
    let d : bit (s.deletions serial) ≡ 1 = ap (λ (x : Seat). bit x.deletions) is in omega arith

all_sizes : (s : Sets) → AreNumbered s → (n : ℕ) → n ≤ s.issued
    → size s.ltp n + size s.cp n + size s.history n + size s.deletions n ≡ n
all_sizes s numbered zero within = refl
all_sizes s numbered (suc n) within =
    let (p, stands) = numbered.placed (suc n) (omega arith) within in
    let here = bits s (suc n) p.row p.place stands in
    let before = all_sizes s numbered n (omega arith) in omega arith

placed_length : (kept : Kept) → length (placed_list kept)
    ≡ length kept.ltp.items + length kept.cp.items + length kept.history.items + length kept.deletions.items
placed_length kept = simp (length-append, length-map)

-- there are as many rows as serials are issued
pub rows_count : (kept : Kept) → AreNumbered (content_of kept).sets → length (placed_list kept) ≡ kept.issued
rows_count kept numbered =
    let rows = has_rows kept in
    let within = (seated_from_numbered kept rows numbered).within in
    let ltp = size_listed of_row kept.issued kept.ltp.items (once_from_rows of_row kept.ltp.items rows.ltp)
    (within_ltp (content_of kept).sets numbered kept.ltp.items rows.ltp (λ serial. refl)) in
    let cp = size_listed of_current kept.issued kept.cp.items (once_from_rows of_current kept.cp.items rows.cp)
    (within_cp (content_of kept).sets numbered kept.cp.items rows.cp (λ serial. refl)) in
    let history = size_listed of_row kept.issued kept.history.items
    (once_from_rows of_row kept.history.items rows.history)
    (λ row there. within (in_place History row) (listed kept rows (in_place History row)
    (look_has (λ (r : Row). r.serial) kept.history.items rows.history.one_each row there))) in
    let deletions = size_listed of_deletion kept.issued kept.deletions.items
    (once_from_rows of_deletion kept.deletions.items rows.deletions)
    (λ deletion there. within (deleted_place deletion) (listed kept rows (deleted_place deletion)
    (look_has (λ (d : Deletion). d.row.serial) kept.deletions.items rows.deletions.one_each deletion there))) in
    let whole = all_sizes (content_of kept).sets numbered kept.issued (omega arith) in
    let long = placed_length kept in omega arith
