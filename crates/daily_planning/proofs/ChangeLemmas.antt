-- What a change makes of a content where it moves rows alone.
use Rattle.std.proofs.Common.{◌≡◌, ℕ, ◌≤◌, List, [], refl, sym, ap, subst, inl, inr, Option, Some, None}
use Rattle.std.specs.Prelude.{is_some, if◌then◌else◌}
use Rattle.std.specs.List.{Contains}
use Rattle.occurrences.specs.declared.place.CurrentRow.{CurrentRow}
use Rattle.occurrences.specs.declared.place.Place.TheVariants.{LongTerm, Current}
use Rattle.occurrences.specs.declared.row.Row.{Row}
use Rattle.external_dependencies.specs.declared.pairs.Pair.{Pair}
use Rattle.planner_machine.specs.Content.{Content, Seat, Sets}
use Rattle.planner_machine.specs.Moves.{or_else}
use Rattle.planner_machine.proofs.ActionLemmas.{stands_in_cp}
use Rattle.planner_machine.proofs.DeleteLemmas.{stands_in_ltp}
use Rattle.planner_machine.specs.RowsSound.{RowsSound}
use Rattle.planner_machine.proofs.SeatLemmas.{cases_issued, not_empty}
use Rattle.plan_store_lists.specs.Rows.{HasEachOnce, look_up}
use Rattle.plan_store.specs.Changes.{FitsSet, after, jobs_after, lists_after, moved_set, pairs_after, redefined, sets_after}
use Rattle.plan_store.specs.declared.changes.Change.{Change}
use Rattle.plan_store.specs.declared.changes.DefinitionChange.TheVariants.{AsBefore}
use Rattle.plan_store.specs.declared.changes.Moves.{Moves}
use Rattle.external_dependencies.specs.declared.change.PairChange.{PairChange}
use Rattle.daily_planning.proofs.SetLemmas.{filter_everything, nothing, once_nothing}

module _ {X : Type 0} (row_of : X → Row) (moves : Moves X) (gone changed put : List X)
    (gone_is : moves.gone.items ≡ gone) (changed_is : moves.changed.items ≡ changed)
    (put_is : moves.put.items ≡ put) where
  -- a set after known moves
  pub moved_is : (old : ℕ → Option X) (serial : ℕ)
      → moved_set row_of moves old serial ≡ or_else (look_up (λ x. (row_of x).serial) put serial)
      (or_else (look_up (λ x. (row_of x).serial) changed serial)
      (if is_some (look_up (λ x. (row_of x).serial) gone serial) then None else old serial))
  moved_is old serial = rw (gone_is, changed_is, put_is) refl

-- moves without changes fit
pub fits_moves : {X : Type 0} (row_of : X → Row) (moves : Moves X) (gone put : List X) → moves.gone.items ≡ gone
    → moves.changed.items ≡ [] → moves.put.items ≡ put → (set : ℕ → Option X) → HasEachOnce row_of gone
    → HasEachOnce row_of put → ((x : X) → Contains gone x → set (row_of x).serial ≡ Some x)
    → ((x : X) → Contains put x → set (row_of x).serial ≡ None) → FitsSet row_of moves set
fits_moves row_of moves gone put gone_is changed_is put_is set once once' goes new = record {
  gone_once = subst (HasEachOnce row_of) (sym gone_is) once;
  changed_once = subst (HasEachOnce row_of) (sym changed_is) (once_nothing row_of);
  put_once = subst (HasEachOnce row_of) (sym put_is) once';
  goes = λ x there. goes x (subst (λ l. Contains l x) gone_is there);
  changes = λ x there. absurd (nothing x (subst (λ l. Contains l x) changed_is there));
  stays = λ x there. absurd (nothing x (subst (λ l. Contains l x) changed_is there));
  new = λ x there. new x (subst (λ l. Contains l x) put_is there);
}

pub no_pairs_move : (change : PairChange) → change.removed ≡ [] → change.added ≡ [] → (pairs : List Pair)
    → pairs_after change pairs ≡ pairs
no_pairs_move change removed added pairs = rw (removed, added) (filter_everything _ pairs (λ x. refl))

-- nothing changes but the sets and the pairs
pub after_moves : (change : Change) (c : Content) → change.definitions ≡ AsBefore → change.in_force ≡ None
    → change.job ≡ None → (s : Sets) → sets_after change c.sets ≡ s → (pairs : List Pair)
    → pairs_after change.pairs c.pairs ≡ pairs
    → after change c ≡ record {
      definitions = c.definitions;
      sets = s;
      in_force = c.in_force;
      pairs = pairs;
      jobs = c.jobs;
    }
after_moves change c definitions in_force job s sets pairs moved =
    let all : redefined change.definitions c.definitions ≡ c.definitions = ap
    (λ d. redefined d c.definitions) definitions in
    let lists = ap (λ o. lists_after o c.in_force) in_force in
    λ i. record {
      definitions = all i;
      sets = sets i;
      in_force = lists i;
      pairs = moved i;
      jobs = λ number. (ap (λ o. jobs_after o c.jobs number) job) i;
    }

module _ (s : Sets) (sound : RowsSound s) where
  -- a row stands in one set
  pub planned_alone : (serial : ℕ) (row : Row) → s.ltp serial ≡ Some row → s.cp serial ≡ None
  planned_alone serial row is = ap (λ (x : Seat). x.cp) (stands_in_ltp s sound serial row is)

  pub current_alone : (serial : ℕ) (current : CurrentRow) → s.cp serial ≡ Some current
      → (s.ltp serial ≡ None) × (s.history serial ≡ None) × (s.deletions serial ≡ None)
  current_alone serial current is =
      let there = stands_in_cp s sound serial current is in
      (ap (λ (x : Seat). x.ltp) there, ap (λ (x : Seat). x.history) there, ap (λ (x : Seat). x.deletions) there)

  pub planned_numbered : (serial : ℕ) (row : Row) → s.ltp serial ≡ Some row → row.serial ≡ serial
  planned_numbered serial row is = sound.numbered serial (record { row = row; place = LongTerm })
      (stands_in_ltp s sound serial row is)

  pub planned_issued : (serial : ℕ) (row : Row) → s.ltp serial ≡ Some row → (1 ≤ serial) × (serial ≤ s.issued)
  planned_issued serial row is = elim (cases_issued s.issued serial) [
    | inl within ↦ within
    | inr past ↦ absurd (not_empty s serial (record { row = row; place = LongTerm })
        (stands_in_ltp s sound serial row is) (sound.unissued serial past))
  ]

  pub current_numbered : (serial : ℕ) (current : CurrentRow) → s.cp serial ≡ Some current
      → current.row.serial ≡ serial
  current_numbered serial current is = sound.numbered serial
      (record { row = current.row; place = Current current.status }) (stands_in_cp s sound serial current is)

  pub current_issued : (serial : ℕ) (current : CurrentRow) → s.cp serial ≡ Some current
      → (1 ≤ serial) × (serial ≤ s.issued)
  current_issued serial current is = elim (cases_issued s.issued serial) [
    | inl within ↦ within
    | inr past ↦ absurd (not_empty s serial (record { row = current.row; place = Current current.status })
        (stands_in_cp s sound serial current is) (sound.unissued serial past))
  ]
