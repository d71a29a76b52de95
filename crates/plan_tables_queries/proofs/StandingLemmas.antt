-- Where the tables of a plan stand in a schema, that can be computed.
use Rattle.std.proofs.Common.{◌≡◌, ◌∙◌, ◌⊎◌, ℕ, Bool, true, false, inl, inr, List, Option, Some, None, ap, sym, subst}
use Rattle.std.proofs.Common.{slice_get, true≢false}
use Rattle.std.proofs.Math.Logic.{∥∥₁_elim}
use Rattle.std.proofs.Props.{props}
use Rattle.std.specs.List.{AllByRecursion-prop}
use Rattle.std.specs.Prelude.{unwrap_or}
use base.Stored.{Coded-set}
use Rattle.sqlite.specs.Schema.{Schema}
use Rattle.sqlite.specs.Table.{Table as Described}
use Rattle.sqlite_schema.specs.Names.{same_name, table_named}
use Rattle.sqlite_schema.specs.contracts.schema.Reference as reference
use Rattle.sqlite_schema.specs.contracts.schema.Table as described
use Rattle.sqlite_schema.specs.declared.schema.Reference.{Reference}
use Rattle.sqlite_trees.specs.Props.{IsAscending-prop}
use Rattle.sqlite_trees.specs.Tree.{IsAscending}
use Rattle.plan_tables_schema.specs.Named.{first_named}
use Rattle.plan_tables_schema.specs.Places.{TableIsAt, TreesDiffer}
use Rattle.plan_tables_schema.specs.Schema.{HasTables, IsAside, RefersAside, name, table_at, to_run_cycle}
use Rattle.plan_tables_schema.specs.declared.tables.Table.{Table}
use Rattle.plan_tables_schema.specs.declared.tables.Table.TheVariants.{Offset, RunCycle}
use Rattle.plan_tables_schema.proofs.FoundLemmas.{named_there}

-- ---- there is one proof at most

described_set : IsSet Described
described_set = Coded-set described.the_row.coded

reference_set : IsSet Reference
reference_set = Coded-set reference.the_row.coded

stands_prop : (schema : Schema) (d : Described) (at : ℕ) → IsProp (TableIsAt schema d at)
stands_prop schema d at = hlevel (props, described_set)

apart_prop : (ts : List Described) → IsProp (IsAscending TreesDiffer ts)
apart_prop ts = IsAscending-prop TreesDiffer (λ s t. hlevel props) ts

either_prop : {A B : Type 0} → IsProp A → IsProp B → (A → B → ⊥) → IsProp (A ⊎ B)
either_prop a b none (inl x) (inl y) = ap inl (a x y)
either_prop a b none (inl x) (inr y) = absurd (none x y)
either_prop a b none (inr x) (inl y) = absurd (none y x)
either_prop a b none (inr x) (inr y) = ap inr (b x y)

-- a reference to the run cycles is not aside
not_aside : (ref : Reference) → IsAside ref → ref ≡ to_run_cycle → ⊥
unfolding same_name
not_aside ref aside is =
    true≢false (subst (λ (r : Reference). same_name (name RunCycle) r.parent ≡ false) is (aside RunCycle))

refer_prop : (schema : Schema) (n : ℕ) → IsProp (RefersAside schema n)
refer_prop schema n = AllByRecursion-prop _ (λ child. AllByRecursion-prop _ (λ ref. either_prop (hlevel props)
    (hlevel (props, described_set, reference_set)) (λ aside own. not_aside ref aside own.1)) child.references)
    schema.tables

-- ---- where they stand

abbrev tree_in : Option Described → ℕ
tree_in (Some d) = d.tree
tree_in None = 0

abbrev at_of : Schema → Table → ℕ
at_of schema t = unwrap_or (table_named schema (name t)) 0

abbrev tree_of : Schema → Table → ℕ
tree_of schema t = tree_in (first_named schema.tables (name t))

module _ (schema : Schema) (has : HasTables schema) where
  at_is : (t : Table) → at_of schema t ≡ has.at t
  at_is t = ap (λ o. unwrap_or o 0) (has.stands t).named

  tree_is : (t : Table) → tree_of schema t ≡ has.trees t
  tree_is t = ap tree_in (named_there schema (table_at (has.trees t) t) (has.at t) (has.stands t))

  stands_so : (t : Table) → TableIsAt schema (table_at (tree_of schema t) t) (at_of schema t)
  stands_so t = subst (λ n. TableIsAt schema (table_at n t) (at_of schema t)) (sym (tree_is t))
      (subst (TableIsAt schema (table_at (has.trees t) t)) (sym (at_is t)) (has.stands t))

-- where tables stand, it is known where
pub standing : (schema : Schema) → ∥ HasTables schema ∥₁ → HasTables schema
standing schema there = record {
  at = at_of schema;
  trees = tree_of schema;
  stands = λ t. ∥∥₁_elim there (stands_prop schema _ _) (λ has. stands_so schema has t);
  apart = ∥∥₁_elim there (apart_prop schema.tables) (λ has. has.apart);
  refer = ∥∥₁_elim there (refer_prop schema _)
      (λ has. subst (RefersAside schema) (sym (tree_is schema has Offset)) has.refer);
}
