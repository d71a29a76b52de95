-- Where the rows of a content stand.
use Rattle.std.proofs.Common.{◌≡◌, ◌≢◌, ℕ, ap, subst, Some, None, Option}
use Rattle.occurrences.specs.Place.{IsLive}
use Rattle.occurrences.specs.declared.key.Key.{Key}
use Rattle.occurrences.specs.declared.place.CurrentRow.{CurrentRow}
use Rattle.occurrences.specs.declared.place.Deletion.{Deletion}
use Rattle.occurrences.specs.declared.place.Place.{Place}
use Rattle.occurrences.specs.declared.place.Place.TheVariants.{LongTerm, Current, History, Deleted}
use Rattle.occurrences.specs.declared.row.Row.{Row}
use Rattle.external_dependencies.specs.declared.rows.PlacedRow.{PlacedRow}
use Rattle.planner_machine.specs.Content.{Seat, Sets, IsOnlyAt, alone, empty_seat, seat}
use Rattle.planner_machine.specs.Sound.{AreNumbered}
use Rattle.plan_store.specs.Views.{IsCurrentRow, IsLiveRow, IsPlannedRow}
use Rattle.plan_store.proofs.ViewLemmas.{issued_from}

pub some_is : {X : Type 0} (o : Option X) (x y : X) → o ≡ Some x → o ≡ Some y → x ≡ y
some_is o x y a b = cc

pub none_some : {X : Type 0} (o : Option X) (x : X) → o ≡ None → o ≡ Some x → ⊥
none_some o x a b = cc

module _ (s : Sets) (numbered : AreNumbered s) where
  -- what stands under a serial that the test finds not empty
  at_serial : (serial : ℕ) → (seat s serial ≡ empty_seat → ⊥) → (p : PlacedRow) × IsOnlyAt s serial p
  at_serial serial there = let within = issued_from s numbered serial there in numbered.placed serial within.0 within.1

  pub stands_ltp : (serial : ℕ) (row : Row) → s.ltp serial ≡ Some row
      → IsOnlyAt s serial (record { row = row; place = LongTerm })
  stands_ltp serial row is =
      let at = at_serial serial (λ empty. none_some (s.ltp serial) row (ap (λ (x : Seat). x.ltp) empty) is) in
      by_place at.0.place at.0.row at.1
    where
      by_place : (place : Place) (found : Row) → seat s serial ≡ alone found place → seat s serial ≡ alone row LongTerm
      by_place LongTerm found stands = subst (λ r. seat s serial ≡ alone r LongTerm)
          (some_is (s.ltp serial) found row (ap (λ (x : Seat). x.ltp) stands) is) stands
      by_place (Current status) found stands = absurd (none_some (s.ltp serial) row (ap (λ (x : Seat). x.ltp) stands)
          is)
      by_place History found stands = absurd (none_some (s.ltp serial) row (ap (λ (x : Seat). x.ltp) stands) is)
      by_place (Deleted reason) found stands = absurd (none_some (s.ltp serial) row (ap (λ (x : Seat). x.ltp) stands)
          is)

  pub stands_cp : (serial : ℕ) (current : CurrentRow) → s.cp serial ≡ Some current
      → IsOnlyAt s serial (record { row = current.row; place = Current current.status })
  stands_cp serial current is =
      let at = at_serial serial (λ empty. none_some (s.cp serial) current (ap (λ (x : Seat). x.cp) empty) is) in
      by_place at.0.place at.0.row at.1
    where
      by_place : (place : Place) (found : Row) → seat s serial ≡ alone found place → seat s serial
          ≡ alone current.row (Current current.status)
      by_place LongTerm found stands = absurd (none_some (s.cp serial) current (ap (λ (x : Seat). x.cp) stands) is)
      by_place (Current status) found stands =
          let same : record { row = found; status = status } ≡ current =
          some_is (s.cp serial) (record { row = found; status = status }) current (ap (λ (x : Seat). x.cp) stands)
          is in
          subst (λ (c : CurrentRow). seat s serial ≡ alone c.row (Current c.status)) same stands
      by_place History found stands = absurd (none_some (s.cp serial) current (ap (λ (x : Seat). x.cp) stands) is)
      by_place (Deleted reason) found stands = absurd (none_some (s.cp serial) current (ap (λ (x : Seat). x.cp) stands)
          is)

  pub stands_history : (serial : ℕ) (row : Row) → s.history serial ≡ Some row
      → IsOnlyAt s serial (record { row = row; place = History })
  stands_history serial row is =
      let at = at_serial serial (λ empty. none_some (s.history serial) row (ap (λ (x : Seat). x.history) empty) is) in
      by_place at.0.place at.0.row at.1
    where
      by_place : (place : Place) (found : Row) → seat s serial ≡ alone found place → seat s serial ≡ alone row History
      by_place LongTerm found stands = absurd (none_some (s.history serial) row (ap (λ (x : Seat). x.history) stands)
          is)
      by_place (Current status) found stands =
          absurd (none_some (s.history serial) row (ap (λ (x : Seat). x.history) stands) is)
      by_place History found stands = subst (λ r. seat s serial ≡ alone r History)
          (some_is (s.history serial) found row (ap (λ (x : Seat). x.history) stands) is) stands
      by_place (Deleted reason) found stands =
          absurd (none_some (s.history serial) row (ap (λ (x : Seat). x.history) stands) is)

  pub stands_deleted : (serial : ℕ) (deletion : Deletion) → s.deletions serial ≡ Some deletion
      → IsOnlyAt s serial (record { row = deletion.row; place = Deleted deletion.reason })
  stands_deleted serial deletion is =
      let at = at_serial serial (λ empty. none_some (s.deletions serial) deletion (ap (λ (x : Seat). x.deletions) empty)
      is) in
      by_place at.0.place at.0.row at.1
    where
      by_place : (place : Place) (found : Row) → seat s serial ≡ alone found place → seat s serial ≡ alone deletion.row
          (Deleted deletion.reason)
      by_place LongTerm found stands =
          absurd (none_some (s.deletions serial) deletion (ap (λ (x : Seat). x.deletions) stands) is)
      by_place (Current status) found stands =
          absurd (none_some (s.deletions serial) deletion (ap (λ (x : Seat). x.deletions) stands) is)
      by_place History found stands =
          absurd (none_some (s.deletions serial) deletion (ap (λ (x : Seat). x.deletions) stands) is)
      by_place (Deleted reason) found stands =
          let same : record { row = found; reason = reason } ≡ deletion = some_is (s.deletions serial)
          (record { row = found; reason = reason }) deletion (ap (λ (x : Seat). x.deletions) stands) is in
          subst (λ (d : Deletion). seat s serial ≡ alone d.row (Deleted d.reason)) same stands

-- no live occurrence has the key
pub live_none : (s : Sets) (key : Key) → IsPlannedRow s key None → IsCurrentRow s key None
    → ((serial : ℕ) (row : Row) → s.history serial ≡ Some row → row.key ≢ key) → IsLiveRow s key None
live_none s key planned current history serial p stands live keyed = by_place p.place p.row stands live keyed
  where
    by_place : (place : Place) (row : Row) → seat s serial ≡ alone row place → IsLive place → row.key ≡ key → ⊥
    by_place LongTerm row stands live keyed = planned serial row (ap (λ (x : Seat). x.ltp) stands) keyed
    by_place (Current status) row stands live keyed = current serial (record { row = row; status = status })
        (ap (λ (x : Seat). x.cp) stands) keyed live
    by_place History row stands live keyed = history serial row (ap (λ (x : Seat). x.history) stands) keyed
    by_place (Deleted reason) row stands live keyed = live
