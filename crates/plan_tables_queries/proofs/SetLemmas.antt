-- History and the deletions, as their tables have them and as a listing shows them.
use Rattle.std.proofs.Common.{◌≡◌, ◌∙◌, ◌↔◌, ◌&&◌, ℕ, true, List, [], ◌∷◌, Some, None, refl, sym, ap, Equal, Ordering}
use Rattle.std.proofs.Common.{Less, Greater, is_eq}
use Rattle.std.proofs.Math.Logic.{∥∥₁_elim}
use Rattle.std.proofs.Props.{props}
use base.Stored.{Coded-set}
use Rattle.std.specs.Cmp.Lexicographic.{nat_list_cmp_total, slice_cmp}
use Rattle.std.specs.FinMap.{nat_cmp-IsAntisymmetric, slice_cmp-IsAntisymmetric}
use Rattle.std.specs.Ordering.{nat_cmp}
use Rattle.std.proofs.lemmas.Cmp.{tied_itself}
use Rattle.sqlite.specs.declared.types.Value.TheVariants.{Text}
use Rattle.sqlite_sql.specs.declared.ops.CompareOp.TheVariants.{Eq}
use Rattle.occurrences.specs.Place.{reason_letter}
use Rattle.occurrences.specs.Status.{status_letter}
use Rattle.occurrences.specs.contracts.place.CurrentRow as current
use Rattle.occurrences.specs.contracts.place.Deletion as deletion
use Rattle.occurrences.specs.contracts.row.Row as row
use Rattle.occurrences.specs.declared.place.CurrentRow.{CurrentRow}
use Rattle.occurrences.specs.declared.place.Deletion.{Deletion}
use Rattle.occurrences.specs.declared.place.Place.{Place}
use Rattle.occurrences.specs.declared.place.Place.TheVariants.{LongTerm, Current, History, Deleted}
use Rattle.occurrences.specs.declared.row.Row.{Row}
use Rattle.occurrences.specs.declared.status.Status.TheVariants.{C}
use Rattle.planner_machine.specs.Content.{Content, Seat, alone, seat}
use Rattle.planner_machine.specs.Shown.{InDeletions, InHistory, IsPlaceOf}
use Rattle.planner_machine.specs.Sound.{IsSound}
use Rattle.plan_store.proofs.PlaceLemmas.{stands_deleted, stands_history}
use Rattle.plan_tables_content.specs.Facts.{deletion_values, row_values}
use Rattle.plan_tables_content.specs.Decoded.{deletion_of, row_of}
use Rattle.plan_tables_content.proofs.Decoded.{deletion_back as told_back, one_deletion, one_row, row_back}
use Rattle.plan_tables_loading.specs.Cells.{IsNumberedRow}
use Rattle.plan_tables_schema.specs.declared.tables.Table.TheVariants as table
use Rattle.plan_tables_lookups.specs.Looks.{question}
use Rattle.plan_tables_lookups.specs.Question.{is_so}
use Rattle.plan_tables_lookups.specs.declared.looks.Look.TheVariants.{DeletionsListed, DeletionsOf, HistoryListed, HistoryOf}
use Rattle.plan_tables_queries.proofs.SerialLemmas.{completed_formed, deleted_formed}
use Rattle.plan_tables_queries.proofs.TestLemmas.{alone_of, of_alone, so_texts}
use Rattle.plan_tables_queries.proofs.KnownLemmas.{IsReadSet}
use Rattle.plan_tables_queries.proofs.ListingLemmas.{AsksFor, IsShownSet}

-- ---- the sets

deletion_set : IsSet Deletion
deletion_set = Coded-set deletion.the_row.coded

row_set : IsSet Row
row_set = Coded-set row.the_row.coded

current_set : IsSet CurrentRow
current_set = Coded-set current.the_row.coded

seat_set : IsSet Seat
seat_set = hlevel (props, row_set, current_set, deletion_set)

module _ (c : Content) (sound : ∥ IsSound c ∥₁) where
  deletion_back : (n : ℕ) (row : Row) (at : Place) → seat c.sets n ≡ alone row at → IsPlaceOf InDeletions at
      → (x : Deletion) × (c.sets.deletions n ≡ Some x) × (x.row ≡ row) × (Deleted x.reason ≡ at)
  deletion_back n row LongTerm stands is = absurd is
  deletion_back n row (Current status) stands is = absurd is
  deletion_back n row History stands is = absurd is
  deletion_back n row (Deleted reason) stands is =
      (record { row = row; reason = reason }, ap (λ (s : Seat). s.deletions) stands, refl, refl)

  history_back : (n : ℕ) (row : Row) (at : Place) → seat c.sets n ≡ alone row at → IsPlaceOf InHistory at
      → (x : Row) × (c.sets.history n ≡ Some x) × (x ≡ row) × (History ≡ at)
  history_back n row LongTerm stands is = absurd is
  history_back n row (Current status) stands is = absurd is
  history_back n row History stands is = (row, ap (λ (s : Seat). s.history) stands, refl, refl)
  history_back n row (Deleted reason) stands is = absurd is

  pub deletions_shown : IsShownSet deletion_values (λ (d : Deletion). d.row)
      (λ (d : Deletion). reason_letter d.reason) (λ (d : Deletion). Deleted d.reason)
      c.sets.deletions InDeletions c
  deletions_shown = record {
    one = one_deletion;
    shows = λ d. refl;
    leads = λ d. refl;
    stands = λ n d has. ∥∥₁_elim sound (seat_set _ _) (λ is. stands_deleted c.sets is.serials n d has);
    within = λ d. tt;
    back = deletion_back;
  }

  pub history_shown : IsShownSet row_values (λ (row : Row). row) (λ (row : Row). status_letter C)
      (λ (row : Row). History) c.sets.history InHistory c
  history_shown = record {
    one = one_row;
    shows = λ row. refl;
    leads = λ row. refl;
    stands = λ n row has. ∥∥₁_elim sound (seat_set _ _) (λ is. stands_history c.sets is.serials n row has);
    within = λ row. tt;
    back = history_back;
  }

pub deletions_read : IsReadSet table.Deletion deletion_values deletion_of (λ (d : Deletion). d.row.serial)
    (λ (d : Deletion). IsNumberedRow d.row) (λ (c : Content). c.sets.deletions)
deletions_read = record {
  is_set = deletion_set;
  back = told_back;
  facts = λ all c is. is.facts table.Deletion;
  own = λ c representable. representable.deletions;
  formed = deleted_formed;
}

pub history_read : IsReadSet table.History row_values row_of (λ (row : Row). row.serial) IsNumberedRow
    (λ (c : Content). c.sets.history)
history_read = record {
  is_set = row_set;
  back = row_back;
  facts = λ all c is. is.facts table.History;
  own = λ c representable. representable.history;
  formed = completed_formed;
}

-- ---- the questions

tie_from : (o : Ordering) → is_eq o ≡ true → o ≡ Equal
tie_from Less h = cc
tie_from Equal h = refl
tie_from Greater h = cc

of_name : (a b : List ℕ) → is_so Eq (Text a) (Text b) ≡ true → a ≡ b
of_name a b h = slice_cmp-IsAntisymmetric nat_cmp-IsAntisymmetric a b (tie_from _ (sym (so_texts a b) ∙ h))

name_of : (a b : List ℕ) → a ≡ b → is_so Eq (Text a) (Text b) ≡ true
name_of a b same =
    so_texts a b ∙ ap is_eq (ap (λ l. slice_cmp nat_cmp a l) (sym same) ∙ tied_itself nat_list_cmp_total a)

name_test : (a b : List ℕ) → ((is_so Eq (Text a) (Text b) && true) ≡ true) ↔ (a ≡ b)
name_test a b = (λ h. of_name a b (alone_of _ h), λ same. of_alone _ (name_of a b same))

pub all_deletions : AsksFor deletion_values (λ (d : Deletion). d.row) (question DeletionsListed) [] None
all_deletions = record {
  passing = λ d. (λ h. tt, λ h. refl);
  by_columns = λ a b. refl;
  many = refl;
  own = refl;
}

pub deletions_of : (app : List ℕ)
    → AsksFor deletion_values (λ (d : Deletion). d.row) (question DeletionsOf) (Text app ∷ []) (Some app)
deletions_of app = record {
  passing = λ d. name_test d.row.key.app app;
  by_columns = λ a b. refl;
  many = refl;
  own = refl;
}

pub all_history : AsksFor row_values (λ (row : Row). row) (question HistoryListed) [] None
all_history = record {
  passing = λ row. (λ h. tt, λ h. refl);
  by_columns = λ a b. refl;
  many = refl;
  own = refl;
}

pub history_of : (app : List ℕ)
    → AsksFor row_values (λ (row : Row). row) (question HistoryOf) (Text app ∷ []) (Some app)
history_of app = record {
  passing = λ row. name_test row.key.app app;
  by_columns = λ a b. refl;
  many = refl;
  own = refl;
}
