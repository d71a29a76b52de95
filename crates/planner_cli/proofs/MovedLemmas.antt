-- What a change takes from a set and puts into it, by the set before and after.
use Rattle.std.proofs.Common.{◌≡◌, ◌∙◌, ℕ, List, refl, sym, subst, Bool, true, false, None, Option, Some}
use Rattle.std.specs.List.{Contains}
use Rattle.std.specs.Prelude.{is_some, if◌then◌else◌}
use Rattle.occurrences.specs.declared.row.Row.{Row}
use Rattle.planner_machine.specs.Moves.{or_else}
use Rattle.plan_store_lists.specs.Rows.{HasEachOnce, OneEach, look_up}
use Rattle.plan_store.specs.Changes.{FitsSet, moved_set}
use Rattle.plan_store.specs.declared.changes.Moves.{Moves}
use Rattle.plan_store_lists.proofs.LookLemmas.{look_has, look_lacks, look_none, look_some}
use Rattle.planner_cli.proofs.ShownLists.{one_each}

some_none : {X : Type 0} (o : Option X) (x : X) → o ≡ Some x → o ≡ None → ⊥
some_none o x a b = cc

one_some : {X : Type 0} (o : Option X) (x y : X) → o ≡ Some x → o ≡ Some y → x ≡ y
one_some o x y a b = cc

module _ {X : Type 0} (row_of : X → Row) where
  abbrev serial_of : X → ℕ
  serial_of x = (row_of x).serial

  abbrev one_serial : (xs : List X) → HasEachOnce row_of xs → OneEach serial_of xs
  one_serial xs once = one_each serial_of xs once

  module _ (moves : Moves X) (set : ℕ → Option X) (fits : FitsSet row_of moves set) where
    abbrev later : ℕ → Option X
    later serial = moved_set row_of moves set serial

    pub put_was : (x : X) → Contains moves.put.items x → set (serial_of x) ≡ None
    put_was x there = fits.new x there

    pub put_is : (x : X) → Contains moves.put.items x → later (serial_of x) ≡ Some x
    put_is x there =
        let found : look_up serial_of moves.put.items (serial_of x) ≡ Some x =
        look_has serial_of moves.put.items (one_serial moves.put.items fits.put_once) x there in
        rw found refl

    pub gone_was : (x : X) → Contains moves.gone.items x → set (serial_of x) ≡ Some x
    gone_was x there = fits.goes x there

    pub gone_is : (x : X) → Contains moves.gone.items x → later (serial_of x) ≡ None
    gone_is x there =
        let not_put : look_up serial_of moves.put.items (serial_of x) ≡ None =
        look_lacks serial_of moves.put.items (serial_of x)
        (λ y at same. some_none (set (serial_of x)) x (fits.goes x there)
        (subst (λ n. set n ≡ None) same (fits.new y at))) in
        let not_changed : look_up serial_of moves.changed.items (serial_of x) ≡ None =
        look_lacks serial_of moves.changed.items (serial_of x)
        (λ y at same. look_none serial_of moves.gone.items (serial_of y) (fits.stays y at) x there (sym same)) in
        let gone : look_up serial_of moves.gone.items (serial_of x) ≡ Some x =
        look_has serial_of moves.gone.items (one_serial moves.gone.items fits.gone_once) x there in
        rw (not_put, not_changed, gone) refl

    -- nothing stands under a serial of what isn't put, changed or there before
    not_changed_there : (serial : ℕ) → set serial ≡ None → look_up serial_of moves.changed.items serial ≡ None
    not_changed_there serial none = look_lacks serial_of moves.changed.items serial (λ y at same.
        let (was, there, alike) = fits.changes y at in
        some_none (set serial) was (subst (λ n. set n ≡ Some was) same there) none)

    pub is_put : (serial : ℕ) (x : X) → set serial ≡ None → later serial ≡ Some x → Contains moves.put.items x
    is_put serial x none is = elim (look_up serial_of moves.put.items serial) as
        (λ o. look_up serial_of moves.put.items serial ≡ o → Contains moves.put.items x) [
          | Some y ↦ λ found.
              let now : later serial ≡ Some y = rw found refl in
              subst (Contains moves.put.items) (one_some (later serial) y x now is)
              (look_some serial_of moves.put.items serial y found).0
          | None ↦ λ found.
              let rest : later serial ≡ (if is_some (look_up serial_of moves.gone.items serial) then None else set
              serial) = rw (found, not_changed_there serial none) refl in
              absurd (some_none (later serial) x is
              (rest ∙ still (is_some (look_up serial_of moves.gone.items serial))))
        ] refl
      where
        still : (b : Bool) → (if b then None else set serial) ≡ None
        still true = refl
        still false = none

    pub is_gone : (serial : ℕ) (x : X) → set serial ≡ Some x → later serial ≡ None → Contains moves.gone.items x
    is_gone serial x some is = elim (look_up serial_of moves.gone.items serial) as
        (λ o. look_up serial_of moves.gone.items serial ≡ o → Contains moves.gone.items x) [
          | Some y ↦ λ found.
              let (there, same) = look_some serial_of moves.gone.items serial y found in
              let was : set serial ≡ Some y = subst (λ n. set n ≡ Some y) same (fits.goes y there) in
              subst (Contains moves.gone.items) (one_some (set serial) y x was some) there
          | None ↦ λ found.
              absurd (left (look_up serial_of moves.put.items serial) (look_up serial_of moves.changed.items serial)
              (let e : later serial ≡ or_else (look_up serial_of moves.put.items serial)
              (or_else (look_up serial_of moves.changed.items serial) (set serial)) = rw found refl in sym e ∙ is))
        ] refl
      where
        left : (o p : Option X) → or_else o (or_else p (set serial)) ≡ None → ⊥
        left (Some y) p e = cc
        left None (Some y) e = cc
        left None None e = some_none (set serial) x some e
