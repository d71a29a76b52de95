-- Indexes of the tables of a plan, by hand or of their keys.
use Rattle.std.proofs.Common.{◌≡◌, ◌≢◌, ◌⊎◌, ◌↔◌, ◌==◌, ℕ, Bool, IsTrue, true, false, inl, inr, List, [], ◌∷◌, refl, sym, ap, subst, arith}
use Rattle.std.proofs.lemmas.Bool.Decides.{nat_tests}
use Rattle.std.proofs.lemmas.List.Elements.{All-from_recursion, recursion_from_All}
use Rattle.sqlite_rules.proofs.ListLemmas.{all_from, all_has}
use Rattle.sqlite_schema.specs.declared.schema.Index.{Index}
use Rattle.sqlite_schema.specs.declared.schema.Schema.{Schema}
use Rattle.sqlite_schema.specs.declared.schema.Table.{Table as Described}
use Rattle.sqlite_value.specs.Keys.{plain}
use Rattle.sqlite_value.specs.declared.keys.Order.{Order}
use Rattle.plan_tables_schema.specs.Schema.{HasOnlyKeyIndexes, HasTables, IsKeyIndex, orders, plan_schema, table, table_at, uniques}
use Rattle.plan_tables_schema.proofs.EachLemmas.{all_each, each}
use Rattle.plan_tables_schema.proofs.FoundLemmas.{named_there}
use Rattle.plan_tables_schema.specs.declared.tables.Table.{Table}
use Rattle.plan_tables_schema.specs.declared.tables.Table.TheVariants.{Meta}
use Rattle.plan_tables_schema.specs.declared.tables.Table.TheVariants.{Current}
use Rattle.plan_tables_schema.specs.declared.tables.Table.TheVariants.{Deletion, Job}
use Rattle.plan_tables_opening.specs.Indexes.{AreOwn, IsOfKey, IsOwn, IsOwnOf}

-- a key of the plan is in rising order
is_plain : (t : Table) (o : Order) → orders t ≡ o ∷ [] → o ≡ plain
is_plain Meta o is = absurd (cc)
is_plain Current o is = absurd (cc)
is_plain Deletion o is = absurd (cc)
is_plain Job o is = absurd (cc)
is_plain t o is = cc

one_order : (t : Table) (places : List ℕ) (o : Order) → uniques t ≡ places ∷ [] → o ≡ plain → orders t ≡ o ∷ []
one_order Meta places o is plain = absurd (cc)
one_order Current places o is plain = absurd (cc)
one_order Deletion places o is plain = absurd (cc)
one_order Job places o is plain = absurd (cc)
one_order t places o is plain = ap (λ (x : Order). x ∷ []) (sym plain)

module _ (schema : Schema) (has : HasTables schema) where
  own_of : (t : Table) (i : Index) → IsOwnOf schema.tables i (table t)
      → (i.table ≢ has.trees t) ⊎ IsOfKey (table t) i
  unfolding IsOwnOf
  own_of t i h = rw (named_there schema (table_at (has.trees t) t) (has.at t) (has.stands t)) at h

  of_own : (t : Table) (i : Index) → (i.table ≢ has.trees t) ⊎ IsOfKey (table t) i
      → IsOwnOf schema.tables i (table t)
  unfolding IsOwnOf
  of_own t i h = rw (named_there schema (table_at (has.trees t) t) (has.at t) (has.stands t)) h

  to_index : (i : Index) → ((t : Table) → IsOwnOf schema.tables i (table t)) → IsKeyIndex has.trees i
  to_index i h t same = elim (own_of t i (h t)) [
    | inl other ↦ absurd (other same)
    | inr key ↦ (key.columns, is_plain t i.order key.order)
  ]

  from_index : (i : Index) → IsKeyIndex has.trees i → (t : Table) → IsOwnOf schema.tables i (table t)
  from_index i own t = of_own t i (go (i.table == has.trees t) refl)
    where
      go : (b : Bool) → (i.table == has.trees t) ≡ b → (i.table ≢ has.trees t) ⊎ IsOfKey (table t) i
      go true is =
          let same : i.table ≡ has.trees t = grind (arith, nat_tests, is) in
          let key = own t same in
          inr (record { columns = key.0; order = one_order t i.columns i.order key.0 key.1 })
      go false is = inl (λ same. absurd (grind (arith, nat_tests, is, same)))

pub own_iff : (schema : Schema) (made : List Described) → made ≡ plan_schema.tables → HasTables schema
    → AreOwn schema.tables made schema.indexes ↔ HasOnlyKeyIndexes schema
own_iff schema made is has = (
  λ own it.
      let all = subst (λ (ds : List Described). AreOwn schema.tables ds schema.indexes) is own in
      all_from (IsKeyIndex it.trees) schema.indexes (λ i there. to_index schema it i (each table (IsOwnOf schema.tables i)
      (all_has (IsOwn schema.tables plan_schema.tables) schema.indexes i
      (recursion_from_All (IsOwn schema.tables plan_schema.tables) schema.indexes all) there))),
  λ own. subst (λ (ds : List Described). AreOwn schema.tables ds schema.indexes) (sym is)
      (All-from_recursion (IsOwn schema.tables plan_schema.tables) schema.indexes
      (all_from (IsOwn schema.tables plan_schema.tables) schema.indexes (λ i there. all_each table
      (IsOwnOf schema.tables i) (from_index schema has i (all_has (IsKeyIndex has.trees) schema.indexes i (own has)
      there))))),
)

-- so it is where the lists are those of the schema
pub own_told : (schema own : Schema) {indexes : List Index} {tables made : List Described} → indexes ≡ schema.indexes
    → tables ≡ schema.tables → made ≡ plan_schema.tables → schema ≡ own → HasTables own → (told : Bool)
    → IsTrue told ↔ AreOwn tables made indexes → IsTrue told ↔ HasOnlyKeyIndexes own
own_told schema own {indexes} {tables} {made} are stand is same has told both =
    let lists : AreOwn tables made indexes ≡ AreOwn schema.tables made schema.indexes =
    λ i. AreOwn (stand i) made (are i) in
    let it = own_iff schema made is (subst HasTables (sym same) has) in (
      (λ yes. subst HasOnlyKeyIndexes same (it.0 (subst (λ (X : Type 0). X) lists (both.0 yes)))),
      λ owns. both.1 (subst (λ (X : Type 0). X) (sym lists) (it.1 (subst HasOnlyKeyIndexes (sym same) owns))),
    )
