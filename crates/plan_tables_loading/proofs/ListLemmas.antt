-- Lists in the order of numbers, and the sets that have what they list.
use Rattle.std.proofs.Common.{◌≡◌, ◌↔◌, ℕ, List, get_or, refl, sym, ap, subst, ◌∙◌, inl, inr, arith, Option, Some, None}
use Rattle.std.specs.Prelude.{is_some, if◌then◌else◌}
use Rattle.std.specs.List.{Contains}
use Rattle.std.proofs.lemmas.Bool.{cases_order}
use Rattle.std.proofs.lemmas.List.{get_or_default}
use Rattle.occurrences.specs.declared.row.Row.{Row}
use Rattle.planner_machine.specs.Moves.{or_else}
use Rattle.plan_store_lists.specs.Rows.{HasEachOnce, OneEach, look_up, of_current, of_deletion, of_row}
use Rattle.planner_machine.specs.Content.{Content, nothing_known}
use Rattle.plan_store.specs.Changes.{after, Fits, FitsSet, moved_set}
use Rattle.plan_store.specs.declared.changes.Change.{Change}
use Rattle.plan_store.specs.declared.changes.Moves.{Moves}
use Rattle.plan_store.proofs.FitLemmas.{fits_put}
use Rattle.plan_store_lists.proofs.LookLemmas.{look_some, look_at}
use Rattle.plan_tables_loading.specs.Lists.{HasRows, HoldsEach, Puts, PutsRows}
use Rattle.plan_tables_loading.specs.Order.{NumbersRise}
use Rattle.plan_tables_loading.specs.declared.lists.PlanRows.{PlanRows}

module _ {X : Type 0} (number_of : X → ℕ) where
  pub one_each : (xs : List X) → NumbersRise number_of xs → OneEach number_of xs
  one_each xs rise x y (i, lt_i, at_i) (j, lt_j, at_j) same =
      let at_j' : get_or xs j x ≡ y = get_or_default xs j x y lt_j ∙ at_j in
      let alike : number_of (get_or xs i x) ≡ number_of (get_or xs j x) = ap number_of at_i ∙ same
      ∙ ap number_of (sym at_j') in
      elim (cases_order i j) [
        | inl is ↦ sym at_i ∙ ap (λ n. get_or xs n x) is ∙ at_j'
        | inr (inl below) ↦ absurd (omega (arith, rise i j x below lt_j, alike))
        | inr (inr above) ↦ absurd (omega (arith, rise j i x above lt_i, alike))
      ]

  pub holds_each : (xs : List X) → NumbersRise number_of xs → HoldsEach number_of xs (look_up number_of xs)
  holds_each xs rise n x = (
    (λ is. look_some number_of xs n x is),
    λ there. look_at number_of xs (one_each xs rise) x n there.0 there.1,
  )

module _ {X : Type 0} (row_of : X → Row) where
  abbrev serial_of : X → ℕ
  serial_of x = (row_of x).serial

  pub once : (xs : List X) → NumbersRise serial_of xs → HasEachOnce row_of xs
  once xs rise i j d below lt same = omega (arith, rise i j d below lt, same)

  module _ (moves : Moves X) (xs : List X) (puts : Puts moves xs) (rise : NumbersRise serial_of xs) where
    abbrev at_empty : ℕ → Option X
    at_empty n = None

    put_rise : NumbersRise serial_of moves.put.items
    put_rise = subst (NumbersRise serial_of) (sym puts.put) rise

    -- rows are put into an empty set
    pub fits_empty : FitsSet row_of moves at_empty
    fits_empty = fits_put row_of moves at_empty puts.gone puts.changed (once moves.put.items put_rise) (λ x there. refl)

    abbrev from_lists : List X → List X → List X → ℕ → Option X
    from_lists put was went n = or_else (look_up serial_of put n) (or_else (look_up serial_of was n)
        (if is_some (look_up serial_of went n) then None else None))

    or_none : (o : Option X) → or_else o None ≡ o
    or_none None = refl
    or_none (Some x) = refl

    is_put : (n : ℕ) → moved_set row_of moves at_empty n ≡ look_up serial_of xs n
    is_put n = (λ i. from_lists (puts.put i) (puts.changed i) (puts.gone i) n) ∙ or_none (look_up serial_of xs n)

    pub holds_put : HoldsEach serial_of xs (moved_set row_of moves at_empty)
    holds_put n x = subst (λ (o : Option X). (o ≡ Some x) ↔ (Contains xs x × (serial_of x ≡ n))) (sym (is_put n))
        (holds_each serial_of xs rise n x)

module _ (rows : PlanRows) (change : Change) (puts : PutsRows rows change) where
  fits_nothing : Fits change nothing_known
  fits_nothing = record {
    ltp = fits_empty of_row change.ltp rows.ltp.items puts.to_ltp rows.ltp_order;
    cp = fits_empty of_current change.cp rows.cp.items puts.to_cp rows.cp_order;
    history = fits_empty of_row change.history rows.history.items puts.to_history rows.history_order;
    deletions = fits_empty of_deletion change.deletions rows.deletions.items puts.to_deletions rows.deletion_order;
    job = λ job is. refl;
  }

  pub fits_first : (c : Content) → c ≡ nothing_known → Fits change c
  fits_first c is = subst (Fits change) (sym is) fits_nothing

  has_nothing_else : HasRows rows (after change nothing_known).sets
  has_nothing_else = record {
    ltp = holds_put of_row change.ltp rows.ltp.items puts.to_ltp rows.ltp_order;
    cp = holds_put of_current change.cp rows.cp.items puts.to_cp rows.cp_order;
    history = holds_put of_row change.history rows.history.items puts.to_history rows.history_order;
    deletions = holds_put of_deletion change.deletions rows.deletions.items puts.to_deletions rows.deletion_order;
  }

  pub has_first : (c new : Content) → c ≡ nothing_known → new ≡ after change c → HasRows rows new.sets
  has_first c new is made = subst (λ (d : Content). HasRows rows d.sets) (sym (made ∙ ap (after change) is))
      has_nothing_else
