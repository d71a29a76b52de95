-- What follows from a content that tables are merely known to have.
use Rattle.std.proofs.Common.{◌≡◌, ◌∙◌, ◌↔◌, ℕ, List, Contains, Option, None, Some, map, refl, sym, ap, subst}
use Rattle.std.proofs.Math.Logic.{∥∥₁_elim}
use Rattle.std.proofs.Props.{props}
use base.Stored.{Coded-set}
use mathlib.Core.HLevel.{⊥_prop}
use Rattle.sqlite.specs.Order.{Row as Values}
use Rattle.sqlite_value.specs.contracts.row.Row as values
use Rattle.app_definition_records.proofs.RisingLemmas.{Contains-map, Contains-map_back}
use Rattle.plan_store_lists.specs.Rows.{look_up}
use Rattle.plan_store_lists.proofs.LookLemmas.{look_none, look_some}
use Rattle.planner_machine.specs.Content.{Content}
use Rattle.planner_machine.specs.Sound.{IsSound}
use Rattle.plan_tables_schema.specs.Rows.{Tables, shown}
use Rattle.plan_tables_schema.specs.declared.tables.Table.{Table}
use Rattle.plan_tables_content.specs.Content.{IsContentOf, IsOfSet, IsRepresentable, IsUnderOwn}

values_set : IsSet Values
values_set = Coded-set values.the_row.coded

-- how a set stands in a table, and is read back from the values of its rows
pub record IsReadSet {X : Type 0} (t : Table) (values_of : X → Values) (fact_of : Values → X) (number_of : X → ℕ)
    (Is : X → Type 0) (set_of : Content → ℕ → Option X) : Type 0 where
  pub is_set : IsSet X
  pub back : (x : X) → fact_of (values_of x) ≡ x
  pub facts : (all : Tables) (c : Content) → IsContentOf all c → (v : Values)
      → Contains (map (shown t) (all t)) v ↔ IsOfSet values_of (set_of c) v
  pub own : (c : Content) → IsRepresentable c → IsUnderOwn number_of (set_of c)
  pub formed : (c : Content) → IsSound c → (n : ℕ) (x : X) → set_of c n ≡ Some x → Is x

module _ {X : Type 0} (t : Table) (values_of : X → Values) (fact_of : Values → X) (number_of : X → ℕ) (Is : X → Type 0)
    (set_of : Content → ℕ → Option X) (read : IsReadSet t values_of fact_of number_of Is set_of) (all : Tables)
    (c : Content) (known : ∥ IsContentOf all c ∥₁) where
  abbrev rows : List Values
  rows = map (shown t) (all t)

  option_set : IsSet (Option X)
  option_set = hlevel (props, read.is_set)

  -- the fact that is read back from a row has its values
  tells_back : (v : Values) → Contains rows v → values_of (fact_of v) ≡ v
  tells_back v there = ∥∥₁_elim known (values_set _ _) (λ is.
      let (n, x, at, values) = (read.facts all c is v).0 there in
      ap (λ w. values_of (fact_of w)) values ∙ ap values_of (read.back x) ∙ sym values)

  -- and the set has it
  has_told : (v : Values) → Contains rows v → set_of c (number_of (fact_of v)) ≡ Some (fact_of v)
  has_told v there = ∥∥₁_elim known (option_set _ _) (λ is.
      let (n, x, at, values) = (read.facts all c is v).0 there in
      let same : fact_of v ≡ x = ap fact_of values ∙ read.back x in
      subst (λ (z : X). set_of c (number_of z) ≡ Some z) (sym same)
      (subst (λ k. set_of c k ≡ Some x) (sym (read.own c is.representable n x at)) at))

  looked_up : (n : ℕ) (x : X) → set_of c n ≡ Some x → look_up number_of (map fact_of rows) n ≡ Some x
  looked_up n x at = go (look_up number_of (map fact_of rows) n) refl
    where
      go : (o : Option X) → look_up number_of (map fact_of rows) n ≡ o → o ≡ Some x
      go None none = absurd (∥∥₁_elim known ⊥_prop (λ is. look_none number_of (map fact_of rows) n none x
          (subst (Contains (map fact_of rows)) (read.back x)
          (Contains-map fact_of rows (values_of x) ((read.facts all c is (values_of x)).1 (n, x, at, refl))))
          (read.own c is.representable n x at)))
      go (Some y) some =
          let (there, numbered) = look_some number_of (map fact_of rows) n y some in
          let (v, here, is) = Contains-map_back fact_of rows y there in
          let own : set_of c (number_of y) ≡ Some y =
          subst (λ (z : X). set_of c (number_of z) ≡ Some z) is (has_told v here) in
          sym own ∙ ap (set_of c) numbered ∙ at

  -- what the set has is told by a row
  has_row : (n : ℕ) (x : X) → set_of c n ≡ Some x → Contains rows (values_of x)
  has_row n x at =
      let (told, numbered) = look_some number_of (map fact_of rows) n x (looked_up n x at) in
      let (v, there, is) = Contains-map_back fact_of rows x told in
      subst (Contains rows) (sym (tells_back v there) ∙ ap values_of is) there

  pub facts_known : (v : Values) → Contains rows v ↔ IsOfSet values_of (set_of c) v
  facts_known v = (
    (λ there. (number_of (fact_of v), fact_of v, has_told v there, sym (tells_back v there))),
    λ (n, x, at, values). subst (Contains rows) (sym values) (has_row n x at),
  )
