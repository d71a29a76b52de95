-- How many rows the plans hold, where no statement makes any.
use Rattle.std.proofs.Common.{◌≡◌, ℕ, zero, suc, ◌+◌, ◌≤◌, [], sym, subst, inl, inr, arith}
use Rattle.std.proofs.lemmas.Bool.{cases_lt}
use Rattle.occurrences.specs.declared.place.Place.{Place}
use Rattle.occurrences.specs.declared.place.Place.TheVariants.{LongTerm, Current, History, Deleted}
use Rattle.occurrences.specs.declared.row.Row.{Row}
use Rattle.occurrences.specs.declared.serial.TheConstants.{GREATEST_SERIAL}
use Rattle.planner_machine.specs.Content.{Seat, Sets, alone, seat}
use Rattle.planner_machine.specs.Fate.{Fate}
use Rattle.planner_machine.specs.Laws.{Follows}
use Rattle.planner_machine.specs.Moves.{bit, size}
use Rattle.planner_machine.specs.Plans.{HoldTooMany, planned}
use Rattle.planner_machine.specs.Sound.{HaveSizes}
use Rattle.planner_machine.specs.declared.limits.TheConstants.{MOST_PLANNED_ROWS}
use Rattle.planner_machine.proofs.FollowLemmas.{FateKeeps, IsInPlans}
use Rattle.planner_machine.specs.RowsSound.{RowsSound}

-- where the sets don't hold too many
pub within_sizes : (s : Sets) → (HoldTooMany s → ⊥) → HaveSizes s
within_sizes s few = record {
  planned = elim (cases_lt MOST_PLANNED_ROWS (planned s)) [ inl over ↦ absurd (few (inl over)) | inr le ↦ le ];
  issued = elim (cases_lt GREATEST_SERIAL s.issued) [ inl over ↦ absurd (few (inr over)) | inr le ↦ le ];
}

abbrev seat_bits : Seat → ℕ
seat_bits s = bit s.ltp + bit s.cp

-- a row that leaves the plans or stays takes no more room than before
fewer : (row row' : Row) (was now : Place) → (IsInPlans now → IsInPlans was)
    → seat_bits (alone row' now) ≤ seat_bits (alone row was)
fewer row row' LongTerm LongTerm keeps = omega arith
fewer row row' LongTerm (Current b) keeps = omega arith
fewer row row' LongTerm History keeps = omega arith
fewer row row' LongTerm (Deleted b) keeps = omega arith
fewer row row' (Current a) LongTerm keeps = omega arith
fewer row row' (Current a) (Current b) keeps = omega arith
fewer row row' (Current a) History keeps = omega arith
fewer row row' (Current a) (Deleted b) keeps = omega arith
fewer row row' History LongTerm keeps = absurd (keeps tt)
fewer row row' History (Current b) keeps = absurd (keeps tt)
fewer row row' History History keeps = omega arith
fewer row row' History (Deleted b) keeps = omega arith
fewer row row' (Deleted a) LongTerm keeps = absurd (keeps tt)
fewer row row' (Deleted a) (Current b) keeps = absurd (keeps tt)
fewer row row' (Deleted a) History keeps = omega arith
fewer row row' (Deleted a) (Deleted b) keeps = omega arith

module _ (place : Place) (fate : Fate) (s s' : Sets) (sound : RowsSound s) (keeps : FateKeeps fate)
    (f : Follows place fate [] s s') where
  at_each : (n : ℕ) → n ≤ s.issued → size s'.ltp n + size s'.cp n ≤ size s.ltp n + size s.cp n
  at_each zero le = omega arith
  at_each (suc n) le =
      let before = at_each n (omega arith) in
      let (p, there) = sound.placed (suc n) (omega arith) le in
      let (q, goes, at) = f.old (suc n) p there in
      let here : seat_bits (seat s' (suc n)) ≤ seat_bits (seat s (suc n)) =
      subst (λ x. seat_bits x ≤ seat_bits (seat s (suc n))) (sym at)
      (subst (λ x. seat_bits (alone q.row q.place) ≤ seat_bits x) (sym there)
      (fewer p.row q.row p.place q.place (keeps.planned p q goes))) in
      omega arith

  pub sizes_stay : HaveSizes s → HaveSizes s'
  sizes_stay sizes =
      let same : s'.issued ≡ s.issued = let issues = f.issues in omega arith in
      let less = at_each s.issued (omega arith) in
      let P : ℕ → Type 0 = λ n. size s'.ltp n + size s'.cp n ≤ size s.ltp s.issued + size s.cp s.issued in
      let less' : P s'.issued = subst P (sym same) less in
      let few = sizes.planned in let issued = sizes.issued in
      record { planned = omega arith; issued = omega arith }
