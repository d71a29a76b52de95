-- The tables of schema 1, whose lists of predecessors have no limits.
use Rattle.std.specs.Prelude.{ℕ, ◌==◌, Bool, true, false, not, List, [], ◌∷◌, filter, take}
use Rattle.std.specs.List.{list_any}
use Rattle.sqlite.specs.Change.{created}
use Rattle.sqlite.specs.Order.{Row}
use Rattle.sqlite.specs.Schema.{Schema}
use Rattle.sqlite.specs.Table.{Table as Described}
use Rattle.sqlite.specs.Term.{Term, eval_all}
use Rattle.sqlite_schema.specs.declared.schema.Column.{Column}
use Rattle.sqlite_trees.specs.Tree.{IsAscending}
use Rattle.plan_tables_schema.specs.Form.{Form, columns_of, names, select_terms_of}
use Rattle.plan_tables_schema.specs.Forms.{form}
use Rattle.plan_tables_schema.specs.Free.{CanMake, with_tables}
use Rattle.plan_tables_schema.specs.Made.{earlier, up_to}
use Rattle.plan_tables_schema.specs.Places.{TableIsAt, TreesDiffer}
use Rattle.plan_tables_schema.specs.Schema.{RefersAside, all_tables, checks, key, name, no_schema, orders}
use Rattle.plan_tables_schema.specs.Schema.{plain_table, primary, references, uniques}
use Rattle.plan_tables_schema.specs.declared.tables.Table.{Table}
use Rattle.plan_tables_schema.specs.declared.tables.Table.TheVariants.{LinkInForce, Offset, Predecessor}

-- without its limit, which comes last
abbrev pub without_limit : Form → Form
without_limit f = record f { columns = take 2 f.columns }

-- as the table is described in schema 1
abbrev pub first_form : Table → Form
first_form Predecessor = without_limit (form Predecessor)
first_form LinkInForce = without_limit (form LinkInForce)
first_form t = form t

abbrev pub first_columns : Table → List Column
first_columns t = columns_of (first_form t)

abbrev pub first_names : Table → List (List ℕ)
first_names t = names (first_form t)

-- a row as it is shown: its columns
abbrev pub first_terms : Table → List Term
first_terms t = select_terms_of (first_form t)

abbrev pub first_shown : Table → Row → Row
first_shown t row = eval_all (first_terms t) ([] ∷ row ∷ [])

-- as it is in that tree
abbrev pub first_table_at : ℕ → Table → Described
first_table_at at t = plain_table (name t) at (first_columns t) (key t) (primary t) (uniques t) (orders t) (checks t)
    (references t)

-- the tables of schema 1 are made, one after the other, after those that are there
abbrev pub with_firsts : Schema → List Table → Schema
with_firsts schema [] = schema
with_firsts schema (t ∷ ts) = with_firsts (created schema (first_table_at 0 t)) ts

-- the schema before the table is made in an empty database, and after it
abbrev pub first_before : Table → Schema
first_before t = with_firsts no_schema (earlier t)

abbrev pub first_after : Table → Schema
first_after t = with_firsts no_schema (up_to t)

-- the tables of schema 1, and nothing else
abbrev pub first_schema : Schema
first_schema = with_firsts no_schema all_tables

-- the tables of schema 1 are in the schema, each at some place and in some tree, and perhaps others, which refer to
-- none of these
pub record HasFirstTables (schema : Schema) : Type 0 where
  pub at : Table → ℕ
  pub trees : Table → ℕ
  pub stands : (t : Table) → TableIsAt schema (first_table_at (trees t) t) (at t)
  pub apart : IsAscending TreesDiffer schema.tables
  pub refer : RefersAside schema (trees Offset)

-- the tree is that of one of these
abbrev pub is_among : (Table → ℕ) → List Table → ℕ → Bool
is_among trees gone n = list_any (λ u. n == trees u) gone

-- these tables are dropped, with their indexes
abbrev pub without : (Table → ℕ) → List Table → Schema → Schema
without trees gone schema = record schema {
  tables = filter (λ d. not (is_among trees gone d.tree)) schema.tables;
  indexes = filter (λ i. not (is_among trees gone i.table)) schema.indexes;
}

-- the tables that differ in schema 2
abbrev pub changed : List Table
changed = Predecessor ∷ LinkInForce ∷ []

abbrev pub is_changed : Table → Bool
is_changed Predecessor = true
is_changed LinkInForce = true
is_changed _ = false

-- those of schema 2, and nothing else
abbrev pub changed_schema : Schema
changed_schema = with_tables no_schema changed

-- the tables of schema 1 are there, and once those that change are dropped, nothing is in the way of the new ones
pub record CanRemake (schema : Schema) : Type 0 where
  pub has : HasFirstTables schema
  pub free : CanMake (without has.trees changed schema) changed_schema

-- those of schema 2 take the place of the two, after the others
abbrev pub remade_schema : (Table → ℕ) → Schema → Schema
remade_schema trees schema = with_tables (without trees changed schema) changed
