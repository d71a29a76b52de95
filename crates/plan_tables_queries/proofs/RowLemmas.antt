-- The rows of a question are those of a set's facts that pass its tests.
use Rattle.std.proofs.Common.{◌≡◌, ◌↔◌, ℕ, true, List, Option, Some, Contains, map, refl}
use Rattle.std.specs.List.Sorted.{IsPermutation}
use Rattle.std.proofs.lemmas.List.Sorted.{Contains-permutation, IsPermutation-sym}
use Rattle.sqlite.specs.Order.{Row}
use Rattle.plan_store_lists.proofs.KeyLemmas.{contains_filter, filter_contains}
use Rattle.plan_tables_schema.specs.Rows.{Tables, shown}
use Rattle.plan_tables_lookups.specs.Question.{Question, asked_for, passes}
use Rattle.plan_tables_content.specs.Content.{IsOfSet}
use Rattle.plan_tables_queries.specs.Decoding.{HasMalformed, TellsNone, TellsNot}
use Rattle.plan_tables_lookups.specs.declared.faults.TableFault.{TableFault}
use Rattle.plan_tables_lookups.specs.declared.faults.TableFault.TheVariants.{Memory, Malformed, Store}
use Rattle.plan_tables_queries.proofs.FindLemmas.{IsOfRow}

-- what rows don't tell is not the tables' fault
pub is_of_row : {X : Type 0} (Is : X → Type 0) (values_of : X → Row) (rows : List Row) (fault : TableFault)
    → TellsNot Is values_of rows fault → IsOfRow fault
is_of_row Is values_of rows Memory tells = tt
is_of_row Is values_of rows Malformed tells = tt
is_of_row Is values_of rows (Store error) tells = tells

pub none_of_row : {X : Type 0} (Is : X → Type 0) (values_of : X → Row) (row : Row) (fault : TableFault)
    → TellsNone Is values_of row fault → IsOfRow fault
none_of_row Is values_of row Memory tells = tt
none_of_row Is values_of row Malformed tells = tt
none_of_row Is values_of row (Store error) tells = tells

-- one of the rows tells nothing
pub none_among : {X : Type 0} (Is : X → Type 0) (values_of : X → Row) (rows : List Row) (row : Row) → Contains rows row
    → (fault : TableFault) → TellsNone Is values_of row fault → TellsNot Is values_of rows fault
none_among Is values_of rows row there Memory tells = tt
none_among Is values_of rows row there Malformed tells = (row, there, tells)
none_among Is values_of rows row there (Store error) tells = tells

pub untold_of : {X : Type 0} (Is : X → Type 0) (values_of : X → Row) (rows : List Row) (fault : TableFault)
    → TellsNot Is values_of rows fault → fault ≡ Malformed → HasMalformed Is values_of rows
untold_of Is values_of rows Memory tells e = absurd (let k = e in cc)
untold_of Is values_of rows Malformed tells e = tells
untold_of Is values_of rows (Store error) tells e = absurd tells

-- something that the set has, and whose values pass
pub record IsAsked {X : Type 0} (q : Question) (asked : Row) (values_of : X → Row) (set : ℕ → Option X) (row : Row)
    : Type 0 where
  pub number : ℕ
  pub fact : X
  pub has : set number ≡ Some fact
  pub is : row ≡ values_of fact
  pub pass : passes q asked row ≡ true

module _ {X : Type 0} (q : Question) (asked : Row) (all : Tables) (values_of : X → Row) (set : ℕ → Option X)
    (facts : (v : Row) → Contains (map (shown q.table) (all q.table)) v ↔ IsOfSet values_of set v)
    (rows : List Row) (same : IsPermutation (asked_for q asked all) rows) where
  pub is_asked : (row : Row) → Contains rows row → IsAsked q asked values_of set row
  is_asked row there =
      let kept = contains_filter (passes q asked) _ row
      (Contains-permutation rows _ row (IsPermutation-sym _ rows same) there) in
      let fact = (facts row).0 kept.0 in
      record { number = fact.0; fact = fact.1; has = fact.2; is = fact.3; pass = kept.1 }

  pub asked_is : (n : ℕ) (x : X) → set n ≡ Some x → passes q asked (values_of x) ≡ true → Contains rows (values_of x)
  asked_is n x has pass = Contains-permutation _ rows (values_of x) same
      (filter_contains (passes q asked) _ (values_of x) ((facts (values_of x)).1 (n, x, has, refl)) pass)
