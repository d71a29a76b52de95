-- Changes that a content admits.
use Rattle.std.proofs.Common.{◌≡◌, ℕ, List, [], sym, ap, subst, arith}
use Rattle.std.proofs.Common.{None, Option}
use Rattle.std.specs.List.{Contains}
use Rattle.occurrences.specs.declared.row.Row.{Row}
use Rattle.plan_store_lists.specs.Rows.{HasEachOnce, look_up}
use Rattle.plan_store_lists.proofs.KeyLemmas.{nothing}
use Rattle.plan_store.specs.Changes.{FitsSet}
use Rattle.plan_store.specs.declared.changes.Moves.{Moves}

module _ {X : Type 0} (row_of : X → Row) where
  abbrev serial_of : X → ℕ
  serial_of x = (row_of x).serial

  none_once : (xs : List X) → xs ≡ [] → HasEachOnce row_of xs
  none_once xs is = subst (HasEachOnce row_of) (sym is) (λ i j d below lt _. absurd (omega arith))

  not_in : (xs : List X) → xs ≡ [] → (x : X) → Contains xs x → ⊥
  not_in xs is x there = nothing x (subst (λ l. Contains l x) is there)

  lacks_none : (xs : List X) → xs ≡ [] → (serial : ℕ) → look_up serial_of xs serial ≡ None
  lacks_none xs is serial = ap (λ l. look_up serial_of l serial) is

  module _ (moves : Moves X) (set : ℕ → Option X) where
    -- rows are put, and nothing else moves
    pub fits_put : moves.gone.items ≡ [] → moves.changed.items ≡ [] → HasEachOnce row_of moves.put.items
        → ((x : X) → Contains moves.put.items x → set (serial_of x) ≡ None) → FitsSet row_of moves set
    fits_put gone changed once new = record {
      gone_once = none_once moves.gone.items gone;
      changed_once = none_once moves.changed.items changed;
      put_once = once;
      goes = λ x there. absurd (not_in moves.gone.items gone x there);
      changes = λ x there. absurd (not_in moves.changed.items changed x there);
      stays = λ x there. lacks_none moves.gone.items gone (serial_of x);
      new = new;
    }
