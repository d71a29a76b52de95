-- The texts of INSERT and DELETE mean the same wherever their table stands.
use Rattle.std.proofs.Common.{◌≡◌, ℕ, List, ◌-◌, ◌*◌, true, [], ◌∷◌, length, Ok, Err, refl, subst, sym}
use Rattle.sqlite.specs.Term.{Term, col}
use Rattle.sqlite.specs.Source.TheVariants.{Values}
use Rattle.sqlite.specs.Command.TheVariants.{Insert, Delete}
use Rattle.sqlite_schema.specs.declared.schema.Schema.{Schema}
use Rattle.sqlite_schema.specs.declared.schema.Table.{Table as Described}
use Rattle.sqlite_draft.specs.declared.query.Draft.{Draft}
use Rattle.sqlite_draft.specs.declared.join.Step.TheVariants.{Inner}
use Rattle.sqlite_draft.specs.Query.{query_of}
use Rattle.sqlite_resolve.specs.Write.{simple, deleted}
use Rattle.sqlite_resolve.specs.Lowering.{Checked}
use Rattle.sqlite_resolve.specs.Compile.{first}
use Rattle.sqlite_resolve.specs.Program.{program}
use Rattle.sqlite_typing.specs.Types.{accepts_program}
use Rattle.sqlite_syntax.specs.declared.statement.Parsed.{Parsed}
use Rattle.plan_tables_schema.specs.Form.{first_place}
use Rattle.plan_tables_schema.specs.Forms.{form}
use Rattle.plan_tables_schema.specs.Schema.{table_at}
use Rattle.plan_tables_schema.specs.Texts.{insert_sql, delete_sql, several_sql}
use Rattle.plan_tables_schema.specs.Cells.{insert_terms, width, column_names, delete_tests, rows_at_once, several_terms}
use Rattle.plan_tables_schema.proofs.Steps.{plain_query}
use Rattle.plan_tables_schema.specs.declared.tables.Table.{Table}
use Rattle.plan_tables_schema.specs.declared.tables.Table.TheVariants.{LinkInForce}
use Rattle.plan_tables_schema.specs.declared.tables.Table.TheVariants.{Dependency}
use Rattle.plan_tables_schema.proofs.WrittenTests.{IsCompared, equals}
use Rattle.plan_tables_schema.specs.Places.{TableIsAt}
use Rattle.plan_tables_schema.proofs.Written.{IfRead, Deletes, SaysEqual, SaysPair}
use Rattle.plan_tables_schema.proofs.WrittenKeys.{key_width}
use Rattle.plan_tables_schema.proofs.TestLemmas.{deletes_equal, deletes_pair}
use Rattle.plan_tables_schema.proofs.MeaningLemmas.{Means, means, insert_plans, delete_plans}
use Rattle.plan_tables_schema.proofs.InsertTexts.{insert_says, several_says}
use Rattle.plan_tables_schema.proofs.DeleteTexts.{delete_says, key_is_compared, delete_accepted}

abbrev pub key_draft : ℕ → List Term → Draft
key_draft tree tests = simple (Inner tree ∷ []) tests (col 1 0 ∷ [])

-- a query whose types fit is a program
runs : (schema : Schema) (draft : Draft) → accepts_program schema [] (query_of draft) [] ≡ true → program schema [] draft ≡ Ok (record { lets = []; body = query_of draft })
unfolding program
runs schema draft fits = rw fits refl

module _ (schema : Schema) (table : Described) (at : ℕ) (it : TableIsAt schema table at) where
  equal_deletes : (column : List ℕ) (q n size : ℕ) → IsCompared table column q → accepts_program schema [] (query_of (key_draft table.tree (equals q (n - 1) ∷ []))) [] ≡ true
      → (r : Checked Parsed) → IfRead r (SaysEqual table.name column n size) → IfRead r (Deletes schema table at (key_draft table.tree (equals q (n - 1) ∷ [])) size 1)
  equal_deletes column q n size of fits (Err e) h = absurd h
  equal_deletes column q n size of fits (Ok p) h = record {
    whole = h.whole;
    parameters = h.parameters;
    is = h.is;
    target = h.target;
    timeless = h.timeless;
    drafted = subst (λ o. deleted schema at table o ≡ Ok (key_draft table.tree (equals q (n - 1) ∷ []))) (sym h.test) (deletes_equal schema table at it.got _ column n q of h.equal);
    program = runs schema _ fits;
  }

  pair_deletes : (one_column two_column : List ℕ) (q r m n size : ℕ) → IsCompared table one_column q → IsCompared table two_column r
      → accepts_program schema [] (query_of (key_draft table.tree (equals q (m - 1) ∷ equals r (n - 1) ∷ []))) [] ≡ true
      → (o : Checked Parsed) → IfRead o (SaysPair table.name one_column two_column m n size)
      → IfRead o (Deletes schema table at (key_draft table.tree (equals q (m - 1) ∷ equals r (n - 1) ∷ [])) size 2)
  pair_deletes one_column two_column q r m n size of of' fits (Err e) h = absurd h
  pair_deletes one_column two_column q r m n size of of' fits (Ok p) h = record {
    whole = h.whole;
    parameters = h.parameters;
    is = h.is;
    target = h.target;
    timeless = h.timeless;
    drafted = subst (λ o. deleted schema at table o ≡ Ok (key_draft table.tree (equals q (m - 1) ∷ equals r (n - 1) ∷ []))) (sym h.test)
        (deletes_pair schema table at it.got _ one_column two_column m n q r h.both of h.one of' h.two);
    program = runs schema _ fits;
  }

module _ (schema : Schema) (at tree : ℕ) where
  pub insert_means : (t : Table) → TableIsAt schema (table_at tree t) at
      → Means schema (insert_sql t) (Insert at (Values (insert_terms t) (width t))) (length (column_names t))
  insert_means t it = means schema (insert_sql t) _ _ (first (insert_sql t)) refl
      (insert_plans schema (table_at tree t) at it (Values (insert_terms t) (width t)) _ _ refl (first (insert_sql t)) (insert_says schema tree t))

  pub several_means : (t : Table) → TableIsAt schema (table_at tree t) at
      → Means schema (several_sql t) (Insert at (Values (several_terms t) (width t))) (rows_at_once t * length (column_names t))
  several_means t it = means schema (several_sql t) _ _ (first (several_sql t)) refl
      (insert_plans schema (table_at tree t) at it (Values (several_terms t) (width t)) _ _ refl (first (several_sql t)) (several_says schema tree t))

  deletes : (t : Table) → TableIsAt schema (table_at tree t) at
      → IfRead (first (delete_sql t)) (Deletes schema (table_at tree t) at (key_draft tree (delete_tests t)) (length (delete_sql t)) (key_width t))
  deletes LinkInForce it = pair_deletes schema (table_at tree LinkInForce) at it _ _ 1 2 1 2 _ (key_is_compared tree LinkInForce).0 (key_is_compared tree LinkInForce).1 (delete_accepted schema tree LinkInForce it.stored it.found) (first (delete_sql LinkInForce)) (delete_says LinkInForce)
  deletes Dependency it = pair_deletes schema (table_at tree Dependency) at it _ _ 1 2 1 2 _ (key_is_compared tree Dependency).0 (key_is_compared tree Dependency).1 (delete_accepted schema tree Dependency it.stored it.found) (first (delete_sql Dependency)) (delete_says Dependency)
  deletes t it = equal_deletes schema (table_at tree t) at it _ (first_place (form t).key) 1 _ (key_is_compared tree t) (delete_accepted schema tree t it.stored it.found) (first (delete_sql t)) (delete_says t)

  pub delete_means : (t : Table) → TableIsAt schema (table_at tree t) at
      → Means schema (delete_sql t) (Delete at (record { lets = []; body = plain_query tree (delete_tests t) (col 1 0 ∷ []) })) (key_width t)
  delete_means t it = means schema (delete_sql t) _ _ (first (delete_sql t)) refl
      (delete_plans schema (table_at tree t) at it (key_draft tree (delete_tests t)) _ _ (first (delete_sql t)) (deletes t it))
