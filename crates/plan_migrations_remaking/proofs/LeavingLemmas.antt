-- What is left without the tables of schema 1 that change.
use Rattle.std.proofs.Common.{◌≡◌, ℕ, not, List, [], ◌∷◌, filter, refl}
use Rattle.std.specs.List.{list_any}
use Rattle.sqlite.specs.Schema.{Schema}
use Rattle.plan_tables_schema.proofs.FoundLemmas.{named_there}
use Rattle.plan_tables_schema.specs.Named.{first_named}
use Rattle.plan_tables_schema.specs.Schema.{name}
use Rattle.plan_tables_schema.specs.declared.tables.Table.{Table}
use Rattle.plan_migrations_remaking.specs.FirstSchema.{HasFirstTables, changed, changed_schema, first_table_at, is_among, without}
use Rattle.plan_migrations_remaking.specs.Leaving.{is_in, is_of, left_by}

module _ (schema : Schema) (has : HasFirstTables schema) where
  of_them : (ts : List Table) (n : ℕ) → list_any (λ t. is_in n (first_named schema.tables (name t))) ts
      ≡ is_among has.trees ts n
  of_them [] n = refl
  of_them (t ∷ ts) n =
      rw (named_there schema (first_table_at (has.trees t) t) (has.at t) (has.stands t), of_them ts n) refl

  among : (n : ℕ) → is_of schema.tables changed_schema.tables n ≡ is_among has.trees changed n
  among n = of_them changed n

  pub left_is : left_by schema changed_schema.tables ≡ without has.trees changed schema
  left_is = λ i. record schema {
    tables = filter (λ d. not (among d.tree i)) schema.tables;
    indexes = filter (λ x. not (among x.table i)) schema.indexes;
  }
