-- A start, and what it leaves: what starts has complete predecessors alone.
use Rattle.std.proofs.Common.{◌≡◌, ◌≢◌, ℕ, zero, suc, ◌+◌, ◌<◌, ◌⊎◌, true, false, refl, sym, ap, subst, ◌∙◌, inl, inr}
use Rattle.std.proofs.Common.{arith}
use Rattle.std.specs.Prelude.{Bool, Contains, if◌then◌else◌}
use Rattle.std.proofs.lemmas.Bool.{cases_lt}
use Rattle.occurrences.proofs.KeyLemmas.{same_key}
use Rattle.occurrences.specs.Place.{IsComplete, IsLive, IsOpen}
use Rattle.occurrences.specs.declared.key.Key.{Key}
use Rattle.occurrences.specs.declared.place.Place.{Place}
use Rattle.occurrences.specs.declared.place.Place.TheVariants.{LongTerm, Current, History, Deleted}
use Rattle.occurrences.specs.declared.refusal.Refusal.{Refusal}
use Rattle.occurrences.specs.declared.refusal.Refusal.TheVariants.{PredecessorUncompleted}
use Rattle.occurrences.specs.declared.row.Row.{Row}
use Rattle.occurrences.specs.declared.status.Action.{Action}
use Rattle.occurrences.specs.declared.status.Action.TheVariants.{Start, Complete, Fail, Reset, Delete}
use Rattle.occurrences.specs.declared.status.Status.TheVariants.{W, S, E, C, D}
use Rattle.external_dependencies.specs.declared.rows.PlacedRow.{PlacedRow}
use Rattle.planner_machine.specs.Act.{ActionRefused, IsCurrent, IsLeastUncompleted, acted_status}
use Rattle.planner_machine.specs.Content.{Content, Seat, Sets, IsOnlyAt}
use Rattle.planner_machine.specs.Fate.{place_after_action}
use Rattle.planner_machine.specs.Moves.{has_key}
use Rattle.planner_machine.specs.Pairs.{IsCompleteAt, pair_of}
use Rattle.planner_machine.proofs.ActionLemmas.{action_live}
use Rattle.planner_machine.specs.RowsSound.{RowsSound}
use Rattle.planner_machine.proofs.SeatLemmas.{cases_issued, not_empty, one_place}

-- whether a serial is complete
decide_complete : (c : Sets) → RowsSound c → (n : ℕ) → IsCompleteAt c n ⊎ (IsCompleteAt c n → ⊥)
decide_complete c sound n = elim (cases_issued c.issued n) [
  | inl within ↦ let (p, there) = sound.placed n within.0 within.1 in at p there p.place refl
  | inr past ↦ inr (λ is. not_empty c n is.0 is.1 (sound.unissued n past))
]
  where
    at : (p : PlacedRow) → IsOnlyAt c n p → (place : Place) → p.place ≡ place → IsCompleteAt c n
        ⊎ (IsCompleteAt c n → ⊥)
    at p there LongTerm is =
        inr (λ (q, here, done). subst IsComplete (ap (λ (x : PlacedRow). x.place) (one_place c n q p here there)
        ∙ is) done)
    at p there (Current W) is =
        inr (λ (q, here, done). let not : W ≡ C = subst IsComplete
        (ap (λ (x : PlacedRow). x.place) (one_place c n q p here there) ∙ is) done in cc)
    at p there (Current S) is =
        inr (λ (q, here, done). let not : S ≡ C = subst IsComplete
        (ap (λ (x : PlacedRow). x.place) (one_place c n q p here there) ∙ is) done in cc)
    at p there (Current E) is =
        inr (λ (q, here, done). let not : E ≡ C = subst IsComplete
        (ap (λ (x : PlacedRow). x.place) (one_place c n q p here there) ∙ is) done in cc)
    at p there (Current C) is = inl (p, there, subst IsComplete (sym is) refl)
    at p there (Current D) is =
        inr (λ (q, here, done). let not : D ≡ C = subst IsComplete
        (ap (λ (x : PlacedRow). x.place) (one_place c n q p here there) ∙ is) done in cc)
    at p there History is = inl (p, there, subst IsComplete (sym is) tt)
    at p there (Deleted reason) is =
        inr (λ (q, here, done). subst IsComplete (ap (λ (x : PlacedRow). x.place) (one_place c n q p here there)
        ∙ is) done)

-- where none is the least that is not complete, all are
pub all_complete : (s : Content) → RowsSound s.sets → (serial : ℕ) → ((n : ℕ) → IsLeastUncompleted s serial n → ⊥)
    → (n : ℕ) → Contains s.pairs (pair_of serial n) → IsCompleteAt s.sets n
all_complete s sound serial none n there = below (n + 1) n (omega arith) there
  where
    below : (k n : ℕ) → n < k → Contains s.pairs (pair_of serial n) → IsCompleteAt s.sets n
    below zero n lt at = absurd (omega arith)
    below (suc k) n lt at = elim (decide_complete s.sets sound n) [
      | inl is ↦ is
      | inr is_not ↦ absurd (none n (
        (at, is_not),
        λ m un. elim (cases_lt m n) [
          | inr le ↦ le
          | inl less ↦ absurd (un.1 (below k m (omega arith) un.0))
        ],
      ))
    ]

module _ (key : Key) (s : Content) (sound : RowsSound s.sets) where
  -- what a waiting row becomes, closed and live, it becomes by a start
  waited : (action : Action) → ((q : Refusal) → ActionRefused key action s q → ⊥) → (serial : ℕ) (row : Row)
      → IsOnlyAt s.sets serial (record { row = row; place = Current W }) → (b : Bool) → has_key key row ≡ b
      → (if b then acted_status action W else W) ≢ D → ((if b then acted_status action W else W) ≡ W → ⊥) → (n : ℕ)
      → Contains s.pairs (pair_of serial n) → IsCompleteAt s.sets n
  waited action none serial row there false is live closed = absurd (closed refl)
  waited Start none serial row there true is live closed =
      let current : IsCurrent s.sets key serial W =
      record {
        row = row;
        stands = ap (λ (x : Seat). x.cp) there;
        keyed = same_key row.key key is;
        live = λ e. cc;
      } in
      all_complete s sound serial (λ n least. none (PredecessorUncompleted n) (refl, (serial, W, current, least)))
  waited Complete none serial row there true is live closed = absurd (closed refl)
  waited Fail none serial row there true is live closed = absurd (closed refl)
  waited Reset none serial row there true is live closed = absurd (closed refl)
  waited Delete none serial row there true is live closed = absurd (live refl)

  pub action_closes : (action : Action) → ((q : Refusal) → ActionRefused key action s q → ⊥)
      → (serial : ℕ) (row : Row) (was : Place) → IsOnlyAt s.sets serial (record { row = row; place = was })
      → IsLive (place_after_action key action row was) → (IsOpen (place_after_action key action row was) → ⊥)
      → (IsLive was × (IsOpen was → ⊥))
      ⊎ (IsOpen was × ((n : ℕ) → Contains s.pairs (pair_of serial n) → IsCompleteAt s.sets n))
  action_closes action none serial row LongTerm there live closed = absurd (closed tt)
  action_closes action none serial row (Current W) there live closed =
      inr (refl, waited action none serial row there (has_key key row) refl live closed)
  action_closes action none serial row (Current S) there live closed = inl ((λ e. cc), λ e. cc)
  action_closes action none serial row (Current E) there live closed = inl ((λ e. cc), λ e. cc)
  action_closes action none serial row (Current C) there live closed = inl ((λ e. cc), λ e. cc)
  action_closes action none serial row (Current D) there live closed =
      absurd (action_live key action row (Current D) live refl)
  action_closes action none serial row History there live closed = inl (tt, λ e. e)
  action_closes action none serial row (Deleted reason) there live closed = absurd live
