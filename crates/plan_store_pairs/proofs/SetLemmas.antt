-- What small changes make of a set.
use Rattle.std.proofs.Common.{◌≡◌, ℕ, Bool, true, false, cond, List, [], ◌∷◌, refl, sym, ap, subst}
use Rattle.std.proofs.Common.{arith, Some, None, Option}
use Rattle.std.specs.Prelude.{is_some, nat_eq, if◌then◌else◌}
use Rattle.std.specs.List.{Contains}
use Rattle.occurrences.specs.declared.row.Row.{Row}
use Rattle.planner_machine.specs.Moves.{keep, or_else}
use Rattle.plan_store_lists.specs.Rows.{HasEachOnce, look_up}
use Rattle.plan_store.specs.Changes.{FitsSet, MovesNothing, moved_set}
use Rattle.plan_store.specs.declared.changes.Moves.{Moves}
use Rattle.plan_store_pairs.proofs.ListLemmas.{none, only_one}

module _ {X : Type 0} (row_of : X → Row) where
  once_nothing : HasEachOnce row_of []
  once_nothing i j d lt within = absurd (omega (arith, lt, within))

  once_one : (x : X) → HasEachOnce row_of (x ∷ [])
  once_one x i j d lt within = absurd (omega (arith, lt, within))

  abbrev none_in : (xs : List X) → xs ≡ [] → (x : X) → Contains xs x → ⊥
  none_in xs is x there = none x (subst (λ ys. Contains ys x) is there)

  module _ (moves : Moves X) (set : ℕ → Option X) where
    pub fits_nothing : MovesNothing moves → FitsSet row_of moves set
    fits_nothing is = record {
      gone_once = subst (HasEachOnce row_of) (sym is.gone) once_nothing;
      changed_once = subst (HasEachOnce row_of) (sym is.changed) once_nothing;
      put_once = subst (HasEachOnce row_of) (sym is.put) once_nothing;
      goes = λ x there. absurd (none_in moves.gone.items is.gone x there);
      changes = λ x there. absurd (none_in moves.changed.items is.changed x there);
      stays = λ x there. absurd (none_in moves.changed.items is.changed x there);
      new = λ x there. absurd (none_in moves.put.items is.put x there);
    }

    pub moves_nothing : MovesNothing moves → (serial : ℕ) → moved_set row_of moves set serial ≡ set serial
    moves_nothing is serial = rw (is.put, is.changed, is.gone) refl

    -- one goes
    pub fits_taken : (x : X) → moves.gone.items ≡ x ∷ [] → moves.changed.items ≡ [] → moves.put.items ≡ []
        → set (row_of x).serial ≡ Some x → FitsSet row_of moves set
    fits_taken x gone changed put stands = record {
      gone_once = subst (HasEachOnce row_of) (sym gone) (once_one x);
      changed_once = subst (HasEachOnce row_of) (sym changed) once_nothing;
      put_once = subst (HasEachOnce row_of) (sym put) once_nothing;
      goes = λ y there. subst (λ (z : X). set (row_of z).serial ≡ Some z)
          (only_one x y (subst (λ ys. Contains ys y) gone there)) stands;
      changes = λ y there. absurd (none_in moves.changed.items changed y there);
      stays = λ y there. absurd (none_in moves.changed.items changed y there);
      new = λ y there. absurd (none_in moves.put.items put y there);
    }

    pub moves_taken : (x : X) → moves.gone.items ≡ x ∷ [] → moves.changed.items ≡ [] → moves.put.items ≡ []
        → (serial : ℕ)
        → moved_set row_of moves set serial ≡ (if nat_eq (row_of x).serial serial then None else set serial)
    moves_taken x gone changed put serial = rw (put, changed, gone)
        (elim (nat_eq (row_of x).serial serial) as (λ b.
        (if is_some (cond b (Some x) None) then None else set serial) ≡ (if b then None else set serial))
        [ true ↦ refl | false ↦ refl ])

    -- several come, and nothing else moves
    pub fits_put : moves.gone.items ≡ [] → moves.changed.items ≡ [] → HasEachOnce row_of moves.put.items
        → ((x : X) → Contains moves.put.items x → set (row_of x).serial ≡ None) → FitsSet row_of moves set
    fits_put gone changed once new = record {
      gone_once = subst (HasEachOnce row_of) (sym gone) once_nothing;
      changed_once = subst (HasEachOnce row_of) (sym changed) once_nothing;
      put_once = once;
      goes = λ y there. absurd (none_in moves.gone.items gone y there);
      changes = λ y there. absurd (none_in moves.changed.items changed y there);
      stays = λ y there. absurd (none_in moves.changed.items changed y there);
      new = new;
    }

    pub moves_put : moves.gone.items ≡ [] → moves.changed.items ≡ [] → (serial : ℕ)
        → moved_set row_of moves set serial ≡ or_else (look_up (λ y. (row_of y).serial) moves.put.items serial)
        (set serial)
    moves_put gone changed serial = rw (changed, gone) refl

    pub fits_one : (x : X) → moves.gone.items ≡ [] → moves.changed.items ≡ [] → moves.put.items ≡ x ∷ []
        → set (row_of x).serial ≡ None → FitsSet row_of moves set
    fits_one x gone changed put new = fits_put gone changed (subst (HasEachOnce row_of) (sym put) (once_one x))
        (λ y there. subst (λ (z : X). set (row_of z).serial ≡ None)
        (only_one x y (subst (λ ys. Contains ys y) put there)) new)

    pub moves_one : (x : X) → moves.gone.items ≡ [] → moves.changed.items ≡ [] → moves.put.items ≡ x ∷ [] → (serial : ℕ)
        → moved_set row_of moves set serial ≡ (if nat_eq (row_of x).serial serial then Some x else set serial)
    moves_one x gone changed put serial = rw (put, changed, gone)
        (elim (nat_eq (row_of x).serial serial) as (λ b. or_else (cond b (Some x) None)
        (set serial) ≡ (if b then Some x else set serial)) [ true ↦ refl | false ↦ refl ])

module _ {X : Type 0} (passes : X → Bool) where
  pub keep_some : (o : Option X) (x : X) → keep passes o ≡ Some x → (o ≡ Some x) × (passes x ≡ true)
  keep_some None x is = cc
  keep_some (Some y) x is = elim (passes y) as (λ b. passes y ≡ b → (if b then Some y else None) ≡ Some x
      → (Some y ≡ Some x) × (passes x ≡ true)) [
        | true ↦ λ t same. let here : y ≡ x = cc in (same, subst (λ z. passes z ≡ true) here t)
        | false ↦ λ _ no. cc
      ] refl is

  pub some_keep : (o : Option X) (x : X) → o ≡ Some x → passes x ≡ true → keep passes o ≡ Some x
  some_keep o x is t = subst (λ p. keep passes p ≡ Some x) (sym is) (ap (λ b. if b then Some x else None) t)
