-- Deleting from the long-term plan.
use Rattle.std.proofs.Common.{◌≡◌, ℕ, true, false, [], refl, sym, ap, ◌∙◌, inl, inr, Option, None, Some}
use Rattle.std.specs.Prelude.{Bool, if◌then◌else◌}
use Rattle.app_definitions.specs.declared.definitions.Definitions.{Definitions}
use Rattle.occurrences.specs.Place.{IsLive}
use Rattle.occurrences.specs.declared.key.Key.{Key}
use Rattle.occurrences.specs.declared.place.Place.{Place}
use Rattle.occurrences.specs.declared.place.Place.TheVariants.{LongTerm, Current, History, Deleted}
use Rattle.occurrences.specs.declared.place.Reason.TheVariants.{Operator}
use Rattle.occurrences.specs.declared.reply.Reply.{Reply}
use Rattle.occurrences.specs.declared.reply.Reply.TheVariants.{Numbered}
use Rattle.occurrences.specs.declared.row.Row.{Row}
use Rattle.external_dependencies.specs.declared.rows.PlacedRow.{PlacedRow}
use Rattle.planner_machine.specs.declared.content.Bounds.{Bounds}
use Rattle.planner_machine.specs.Content.{Seat, Sets, IsOnlyAt, alone}
use Rattle.planner_machine.specs.Delete.{Deletes, delete_move}
use Rattle.planner_machine.specs.Fate.{DeletionFate, place_after_deletion}
use Rattle.planner_machine.specs.Laws.{Follows}
use Rattle.planner_machine.specs.Moves.{each, has_key}
use Rattle.planner_machine.specs.RowsSound.{IsPlacedIn, RowsSound}
use Rattle.planner_machine.proofs.SeatLemmas.{IsMove, cases_issued, going, move_follows, move_sound}

delete_alone : (key : Key) (row : Row) (was : Place)
    → delete_move key (alone row was) ≡ alone row (place_after_deletion key row was)
delete_alone key row LongTerm = by_test (has_key key row) refl
  where
    by_test : (b : Bool) → has_key key row ≡ b
        → delete_move key (alone row LongTerm) ≡ alone row (if b then Deleted Operator else LongTerm)
    by_test true is = rw is refl
    by_test false is = rw is refl
delete_alone key row (Current status) = refl
delete_alone key row History = refl
delete_alone key row (Deleted reason) = refl

delete_is_move : (key : Key) → IsMove (delete_move key) (going (place_after_deletion key))
delete_is_move key = record {
  empty = refl;
  alone = λ p. delete_alone key p.row p.place;
  serial = λ p. refl;
  key = λ p. refl;
}

pub delete_live : (key : Key) (row : Row) (was : Place) → IsLive (place_after_deletion key row was) → IsLive was
delete_live key row LongTerm live = tt
delete_live key row (Current status) live = live
delete_live key row History live = live
delete_live key row (Deleted reason) live = live

delete_arrives : (key : Key) (o : Option Bounds) (row : Row) (was : Place)
    → IsPlacedIn o (record { row = row; place = was })
    → IsPlacedIn o (record { row = row; place = place_after_deletion key row was })
delete_arrives key None row was arrives = absurd arrives
delete_arrives key (Some b) row LongTerm arrives = by_test (has_key key row)
  where
    by_test : (v : Bool) → IsPlacedIn (Some b) (record {
      row = row;
      place = (if v then Deleted Operator else LongTerm);
    })
    by_test true = tt
    by_test false = arrives
delete_arrives key (Some b) row (Current status) arrives = arrives
delete_arrives key (Some b) row History arrives = arrives
delete_arrives key (Some b) row (Deleted reason) arrives = arrives

ltp_place : (row : Row) (place : Place) (planned : Row) → (alone row place).ltp ≡ Some planned
    → alone row place ≡ alone planned LongTerm
ltp_place row LongTerm planned is = let same : row ≡ planned = cc in ap (λ r. alone r LongTerm) same
ltp_place row (Current status) planned is = cc
ltp_place row History planned is = cc
ltp_place row (Deleted reason) planned is = cc

pub stands_in_ltp : (c : Sets) → RowsSound c → (serial : ℕ) (row : Row) → c.ltp serial ≡ Some row
    → IsOnlyAt c serial (record { row = row; place = LongTerm })
stands_in_ltp c sound serial row is = elim (cases_issued c.issued serial) [
  | inl within ↦
      let (p, there) = sound.placed serial within.0 within.1 in
      there ∙ ltp_place p.row p.place row (ap (λ (s : Seat). s.ltp) (sym there) ∙ is)
  | inr past ↦ let none = ap (λ (s : Seat). s.ltp) (sound.unissued serial past) in absurd cc
]

pub delete_sound : (key : Key) (c : Sets) → RowsSound c → RowsSound (each (delete_move key) c)
delete_sound key c sound =
    move_sound (delete_move key) (going (place_after_deletion key)) (delete_is_move key) c sound c.bounds sound.bounds
    (λ p. delete_arrives key c.bounds p.row p.place) (λ p. delete_live key p.row p.place)

pub delete_follows : (key : Key) (place : Place) (c : Sets) → RowsSound c
    → Follows place (DeletionFate key) [] c (each (delete_move key) c)
delete_follows key place c sound =
    move_follows (delete_move key) (going (place_after_deletion key)) (delete_is_move key) c sound c.bounds place

pub delete_does_one : (key : Key) (all : Definitions) (c : Sets) (reply reply' : Reply) (c' c'' : Sets) → RowsSound c
    → Deletes key all c reply c' → Deletes key all c reply' c'' → (reply ≡ reply') × (c' ≡ c'')
delete_does_one key all c reply reply' c' c'' sound a b =
    let p : PlacedRow = record { row = a.planned.row; place = LongTerm } in
    let q : PlacedRow = record { row = b.planned.row; place = LongTerm } in
    let same = sound.keys a.serial b.serial p q (stands_in_ltp c sound a.serial a.planned.row a.planned.stands)
    (stands_in_ltp c sound b.serial b.planned.row b.planned.stands) tt tt (a.planned.keyed
    ∙ sym b.planned.keyed) in
    (a.replies ∙ ap Numbered same ∙ sym b.replies, a.becomes ∙ sym b.becomes)
