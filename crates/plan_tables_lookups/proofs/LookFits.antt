-- What is asked of each table fits it.
use Rattle.std.proofs.Common.{◌≡◌, ℕ, zero, ◌+◌, ◌^◌, ◌==◌, nat_le, Bool, true, false, find, List, [], ◌∷◌, length, map}
use Rattle.std.proofs.Common.{refl, slice_get, Option, Some, None, is_some, ◌&&◌, ◌<◌, arith, pos}
use Rattle.std.specs.List.{AllByRecursion}
use Rattle.sqlite.specs.Query.{Query, inner, end}
use Rattle.sqlite.specs.Term.{col, lit}
use Rattle.sqlite.specs.Order.{Row}
use Rattle.sqlite.specs.declared.types.Value.TheVariants.{Int}
use Rattle.sqlite_resolve.specs.Compare.{converted}
use Rattle.sqlite_resolve.specs.Lowering.{alone, chosen, nothing}
use Rattle.sqlite_resolve.specs.Scope.{alias_of, declared}
use Rattle.sqlite_resolve.specs.declared.compare.Affinity.TheVariants as affinity
use Rattle.sqlite_resolve.specs.declared.scope.Output.{Output}
use Rattle.sqlite_schema.specs.Names as kit
use Rattle.sqlite_schema.specs.Names.{column_named}
use Rattle.sqlite_schema.specs.declared.schema.Column.{Column}
use Rattle.sqlite_schema.specs.declared.schema.Schema.{Schema}
use Rattle.sqlite_schema.specs.declared.schema.Table.{Table as Described}
use Rattle.sqlite_value.specs.declared.keys.Collation.TheVariants.{Binary}
use Rattle.sqlite_tied.specs.Compute.{everything}
use Rattle.sqlite_typing.specs.Types.{accepts_program}
use Rattle.plan_tables_lookups.specs.Looks.{AreAsked, question}
use Rattle.plan_tables_lookups.specs.Question.{By, Question, Test, place_of}
use Rattle.plan_tables_lookups.specs.declared.looks.Look.{Look}
use Rattle.plan_tables_lookups.specs.declared.looks.Look.TheVariants.{InHistory, InDeletions, LastOf, DeletedFrom}
use Rattle.plan_tables_lookups.specs.declared.looks.Look.TheVariants.{JobOf}
use Rattle.plan_tables_lookups.specs.declared.looks.Look.TheVariants.{HistoryListed, HistoryOf, DeletionsListed}
use Rattle.plan_tables_lookups.specs.declared.looks.Look.TheVariants.{DeletionsOf, Whole}
use Rattle.plan_tables_lookups.proofs.LookTexts.{asked_with}
use Rattle.plan_tables_lookups.proofs.QuestionMeanings.{IsAbout, test_term}
use Rattle.plan_tables_lookups.proofs.SortMeanings.{IsPlaced, limit_term, sort_term}
use Rattle.plan_tables_lookups.proofs.TestMeanings.{IsTested, side_term}
use Rattle.plan_tables_schema.specs.Cells.{column_names, select_terms}
use Rattle.plan_tables_schema.specs.Form.{has_rowid}
use Rattle.plan_tables_schema.specs.Forms.{form}
use Rattle.plan_tables_schema.specs.Schema.{table_at}
use Rattle.plan_tables_schema.specs.declared.tables.Table.{Table}
use Rattle.plan_tables_schema.specs.declared.tables.Table.TheVariants.{Meta}
use Rattle.plan_tables_schema.proofs.WrittenQueries.{HasColumns, IfFound, has_all, is_there, shown_as}
use Rattle.plan_tables_schema.proofs.WrittenTests.{affinity_at}

abbrev pub row_place_by : Bool → ℕ → ℕ
row_place_by true zero = 0
row_place_by _ n = n + 1

-- where a column stands in a row, which begins with the rowid
abbrev pub row_place : Table → List ℕ → ℕ
row_place t column = row_place_by (has_rowid (form t).key) (place_of t column)

abbrev pub tested : Question → Test → ℕ
tested q t = row_place q.table t.column

abbrev pub placed : Question → By → ℕ
placed q b = row_place q.table b.column

abbrev pub query_to : ℕ → Question → Query
query_to tree q = record {
  from = inner tree end;
  filter = map (test_term (tested q)) q.tests;
  group = None;
  project = select_terms q.table;
  distinct = false;
  collations = [];
  order = map (sort_term (placed q)) q.order;
  limit = limit_term q.is_one;
  offset = lit (Int (pos 0));
}

pub record Fits (tree : ℕ) (q : Question) : Type 0 where
  pub about : IsAbout (table_at tree q.table) (column_names q.table) q.tests q.order (tested q) (placed q)
  pub terms : map (λ o. o.term) (map (shown_as (table_at tree q.table)) (column_names q.table)) ≡ select_terms q.table
  pub names : map (λ o. o.name) (map (shown_as (table_at tree q.table)) (column_names q.table)) ≡ column_names q.table

is_tested : {table : Described} {t : Test} {p : ℕ} (k : ℕ) (c : Column) → column_named table t.column ≡ Some k
    → slice_get table.columns k ≡ Some c → kit.place_of table k ≡ p → chosen (declared table k c) nothing ≡ Binary
    → converted (affinity_at table p) affinity.None (col 1 p) ≡ col 1 p
    → converted affinity.None (affinity_at table p) (side_term t.side) ≡ side_term t.side → IsTested table t p
is_tested k c named has there collated kept bare = record {
  k = k;
  c = c;
  named = named;
  has = has;
  there = there;
  collated = collated;
  kept = kept;
  bare = bare;
}

is_placed : {table : Described} {shown : List Output} {b : By} {p : ℕ} (k : ℕ) (c : Column)
    → column_named table b.column ≡ Some k → slice_get table.columns k ≡ Some c → kit.place_of table k ≡ p
    → alone (declared table k c) ≡ Binary → alias_of b.column shown ≡ None → IsPlaced table shown b p
is_placed k c named has there collated bare = record {
  k = k;
  c = c;
  named = named;
  has = has;
  there = there;
  alone = collated;
  bare = bare;
}

both : (a b : Bool) → (a && b) ≡ true → (a ≡ true) × (b ≡ true)
both true b h = (refl, h)
both false b h = absurd (cc)

kept : (o : Option Column) → is_some o ≡ true → IfFound o (λ c. Unit {0})
kept (Some c) h = tt
kept None h = absurd (cc)

there : (table : Described) (o : Option ℕ) → is_there table o ≡ true
    → IfFound o (λ k. IfFound (slice_get table.columns k) (λ c. Unit {0}))
there table (Some k) h = kept (slice_get table.columns k) h
there table None h = absurd (cc)

all_there : (table : Described) (ns : List (List ℕ)) → has_all table ns ≡ true → HasColumns table ns
all_there table [] h = tt
all_there table (n ∷ ns) h =
    let parts = both (is_there table (column_named table n)) (has_all table ns) h in
    (there table (column_named table n) parts.0, all_there table ns parts.1)

-- a table has all its columns
has_own : (tree : ℕ) (t : Table) → has_all (table_at tree t) (column_names t) ≡ true
unfolding everything
has_own tree Meta = refl
has_own tree t = refl

few_own : (t : Table) → length (column_names t) < 1000
few_own Meta = omega arith
few_own t = omega arith

-- and shows them, each under its name
own_terms : (tree : ℕ) (t : Table)
    → map (λ o. o.term) (map (shown_as (table_at tree t)) (column_names t)) ≡ select_terms t
unfolding everything
own_terms tree Meta = refl
own_terms tree t = refl

own_names : (tree : ℕ) (t : Table)
    → map (λ o. o.name) (map (shown_as (table_at tree t)) (column_names t)) ≡ column_names t
unfolding everything
own_names tree Meta = refl
own_names tree t = refl

-- so a question fits its table where its tests and its order do
fits : (tree : ℕ) (q : Question)
    → AllByRecursion (λ (t : Test). IsTested (table_at tree q.table) t (tested q t)) q.tests
    → AllByRecursion (λ (b : By). IsPlaced (table_at tree q.table)
    (map (shown_as (table_at tree q.table)) (column_names q.table)) b (placed q b)) q.order
    → length q.order < 1000 → Fits tree q
fits tree q tests order short = record {
  about = record {
    has = all_there (table_at tree q.table) (column_names q.table) (has_own tree q.table);
    few = few_own q.table;
    tests = tests;
    order = order;
    short = short;
  };
  terms = own_terms tree q.table;
  names = own_names tree q.table;
}

pub look_fits : (tree : ℕ) (look : Look) → Fits tree (question look)
unfolding everything
look_fits tree InHistory = fits tree (question InHistory) (is_tested 0 _ refl refl refl refl refl refl, tt)
    tt (omega arith)
look_fits tree InDeletions = fits tree (question InDeletions) (is_tested 0 _ refl refl refl refl refl refl, tt)
    tt (omega arith)
look_fits tree LastOf = fits tree (question LastOf)
    (is_tested 1 _ refl refl refl refl refl refl, (is_tested 2 _ refl refl refl refl refl refl, tt))
    (is_placed 2 _ refl refl refl refl refl, tt) (omega arith)
look_fits tree DeletedFrom = fits tree (question DeletedFrom)
    (is_tested 5 _ refl refl refl refl refl refl, (is_tested 2 _ refl refl refl refl refl refl, tt))
    tt (omega arith)
look_fits tree JobOf = fits tree (question JobOf) (is_tested 0 _ refl refl refl refl refl refl, tt)
    tt (omega arith)
look_fits tree HistoryListed = fits tree (question HistoryListed) tt (
  is_placed 2 _ refl refl refl refl refl,
  (is_placed 1 _ refl refl refl refl refl, (is_placed 0 _ refl refl refl refl refl, tt)),
) (omega arith)
look_fits tree HistoryOf = fits tree (question HistoryOf) (is_tested 1 _ refl refl refl refl refl refl, tt) (
  is_placed 2 _ refl refl refl refl refl,
  (is_placed 1 _ refl refl refl refl refl, (is_placed 0 _ refl refl refl refl refl, tt)),
) (omega arith)
look_fits tree DeletionsListed = fits tree (question DeletionsListed) tt (
  is_placed 2 _ refl refl refl refl refl,
  (is_placed 1 _ refl refl refl refl refl, (is_placed 0 _ refl refl refl refl refl, tt)),
) (omega arith)
look_fits tree DeletionsOf = fits tree (question DeletionsOf) (is_tested 1 _ refl refl refl refl refl refl, tt) (
  is_placed 2 _ refl refl refl refl refl,
  (is_placed 1 _ refl refl refl refl refl, (is_placed 0 _ refl refl refl refl refl, tt)),
) (omega arith)
look_fits tree (Whole t) = fits tree (question (Whole t)) tt
    tt (omega arith)

pub look_accepted : (schema : Schema) (tree : ℕ) (look : Look) → nat_le (2 ^ 31) tree ≡ false
    → find (λ o. o.tree == tree) schema.tables ≡ Some (table_at tree (question look).table)
    → accepts_program schema [] (query_to tree (question look)) [] ≡ true
unfolding everything
look_accepted schema tree JobOf stored found = rw (stored, found) refl
look_accepted schema tree LastOf stored found = rw (stored, found) refl
look_accepted schema tree (Whole Meta) stored found = rw (stored, found) refl
look_accepted schema tree look stored found = rw (stored, found) refl

-- where such values are given, the types fit
pub look_takes : (schema : Schema) (tree : ℕ) (look : Look) → nat_le (2 ^ 31) tree ≡ false
    → find (λ o. o.tree == tree) schema.tables ≡ Some (table_at tree (question look).table)
    → (asked : Row) → AreAsked look asked
    → (length asked ≡ asked_with look) × (accepts_program schema [] (query_to tree (question look)) asked ≡ true)
unfolding everything
look_takes schema tree InHistory stored found asked (n, is) = rw is (refl, rw (stored, found) refl)
look_takes schema tree InDeletions stored found asked (n, is) = rw is (refl, rw (stored, found) refl)
look_takes schema tree LastOf stored found asked (app, n, is) = rw is (refl, rw (stored, found) refl)
look_takes schema tree DeletedFrom stored found asked (n, is) = rw is (refl, rw (stored, found) refl)
look_takes schema tree JobOf stored found asked (n, is) = rw is (refl, rw (stored, found) refl)
look_takes schema tree HistoryListed stored found asked is = rw is (refl, rw (stored, found) refl)
look_takes schema tree HistoryOf stored found asked (n, is) = rw is (refl, rw (stored, found) refl)
look_takes schema tree DeletionsListed stored found asked is = rw is (refl, rw (stored, found) refl)
look_takes schema tree DeletionsOf stored found asked (n, is) = rw is (refl, rw (stored, found) refl)
look_takes schema tree (Whole Meta) stored found asked is = rw is (refl, rw (stored, found) refl)
look_takes schema tree (Whole t) stored found asked is = rw is (refl, rw (stored, found) refl)
