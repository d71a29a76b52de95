-- All rows of a table tell all that its set has.
use Rattle.std.proofs.Common.{◌≡◌, ◌∙◌, ℕ, List, Option, Some, Contains, map, refl, sym, ap, subst}
use Rattle.std.specs.List.Sorted.{IsPermutation}
use Rattle.std.proofs.lemmas.List.Sorted.{Contains-permutation, IsPermutation-sym}
use Rattle.sqlite.specs.Order.{Row as Values}
use Rattle.occurrences.specs.declared.row.Row.{Row}
use Rattle.planner_machine.specs.Content.{Content}
use Rattle.planner_machine.specs.Sound.{IsSound}
use Rattle.app_definition_records.proofs.RisingLemmas.{Contains-map, Contains-map_back}
use Rattle.plan_store_lists.specs.Rows.{OneEach, look_up}
use Rattle.plan_store_lists.proofs.LookLemmas.{look_at, look_some}
use Rattle.plan_store.specs.Parts.{ListsAll}
use Rattle.plan_tables_schema.specs.Rows.{Tables, shown}
use Rattle.plan_tables_lookups.specs.Looks.{question}
use Rattle.plan_tables_lookups.specs.declared.looks.Look.{Look}
use Rattle.plan_tables_content.specs.Content.{IsContentOf}
use Rattle.plan_tables_content.proofs.SameOptions.{is_some, same_options}
use Rattle.plan_tables_queries.specs.Decoding.{HasMalformed}
use Rattle.plan_tables_queries.proofs.NumberLemmas.{IsNumberedSet}

module _ {X : Type 0} (look : Look) (values_of : X → Values) (row_of : X → Row) (Is : X → Type 0)
    (set_of : Content → ℕ → Option X)
    (kind : IsNumberedSet look values_of (λ x. (row_of x).serial) Is (λ _. Unit {0}) set_of)
    (all : Tables) (c : Content) (is : IsContentOf all c) where
  abbrev serial_of : X → ℕ
  serial_of x = (row_of x).serial

  abbrev rows : List Values
  rows = map (shown (question look).table) (all (question look).table)

  module _ (found : List X) (same : IsPermutation rows (map values_of found)) where
    only : (x : X) → Contains found x → set_of c (serial_of x) ≡ Some x
    only x there =
        let (n, y, at, values) = (kind.facts all c is (values_of x)).0
        (Contains-permutation _ _ (values_of x) (IsPermutation-sym _ _ same) (Contains-map values_of found x there)) in
        let own : serial_of y ≡ n = kind.own c is.representable n y at in
        subst (λ (z : X). set_of c (serial_of z) ≡ Some z) (sym (kind.one x y tt tt values))
        (subst (λ k. set_of c k ≡ Some y) (sym own) at)

    has : (n : ℕ) (x : X) → set_of c n ≡ Some x → Contains found x
    has n x at =
        let (y, there, values) = Contains-map_back values_of found (values_of x) (Contains-permutation _ _ (values_of x)
        same ((kind.facts all c is (values_of x)).1 (n, x, at, refl))) in
        subst (Contains found) (kind.one y x tt tt values) there

    one_each : OneEach serial_of found
    one_each x y in_x in_y e = is_some x y (sym (only x in_x) ∙ ap (set_of c) e ∙ only y in_y)

    looked_up : (n : ℕ) (x : X) → look_up serial_of found n ≡ Some x → set_of c n ≡ Some x
    looked_up n x e =
        let (there, numbered) = look_some serial_of found n x e in
        subst (λ k. set_of c k ≡ Some x) numbered (only x there)

    pub lists_all : ListsAll row_of found (set_of c)
    lists_all = record {
      only = only;
      found = λ n. same_options (look_up serial_of found n) (set_of c n) (looked_up n)
          (λ x at. look_at serial_of found one_each x n (has n x at) (kind.own c is.representable n x at));
    }

  -- each of its rows tells
  pub tells_each : IsSound c → HasMalformed Is values_of rows → ⊥
  tells_each sound (row, there, none) =
      let (n, x, at, values) = (kind.facts all c is row).0 there in
      none x (kind.formed c sound n x at) (sym values)
