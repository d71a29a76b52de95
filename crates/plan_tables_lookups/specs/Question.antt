-- A query on one table: its text, and what answers it.
use Rattle.std.specs.Prelude.{◌≡◌, ℕ, ◌+◌, Bool, bytes_eq, cond, List, [], ◌∷◌, ◌++◌, codes, filter, map, take}
use Rattle.std.specs.Prelude.{unwrap_or}
use Rattle.std.specs.List.{list_all, position_from}
use Rattle.std.specs.List.Sorted.{IsPermutation, IsSorted}
use Rattle.std.specs.Ordering.{on}
use Rattle.std.specs.declared.cmp.Ordering.{Ordering}
use Rattle.sqlite.specs.Collation.TheVariants.{Binary}
use Rattle.sqlite.specs.Order.{Row, column}
use Rattle.sqlite.specs.Query.{key_cmp}
use Rattle.sqlite.specs.declared.types.Value.{Value}
use Rattle.sqlite.specs.declared.types.Value.TheVariants.{Text}
use Rattle.sqlite_sql.specs.Ops.{binary, is_true}
use Rattle.sqlite_sql.specs.declared.ops.BinaryOp.TheVariants.{Compare}
use Rattle.sqlite_sql.specs.declared.ops.CompareOp.{CompareOp}
use Rattle.sqlite_sql.specs.declared.ops.CompareOp.TheVariants.{Eq, Ne, Lt, Le, Gt, Ge}
use Rattle.sqlite_value.specs.declared.keys.Key.{Key}
use Rattle.plan_tables_schema.specs.Cells.{column_names}
use Rattle.plan_tables_schema.specs.Form.{listed, parameter, select_text}
use Rattle.plan_tables_schema.specs.Forms.{form}
use Rattle.plan_tables_schema.specs.Rows.{Tables, shown}
use Rattle.plan_tables_schema.specs.declared.tables.Table.{Table}

-- what a column is compared with: one of the values that are bound, of which the first is 0; or a text
pub data Side : Type 0 where
  Given : ℕ → Side
  Letters : List ℕ → Side

-- a test of the column of a name
pub record Test : Type 0 where
  pub column : List ℕ
  pub how : CompareOp
  pub side : Side

-- an order by the column of a name
pub record By : Type 0 where
  pub column : List ℕ
  pub falls : Bool

-- the rows of a table that pass each test, in an order; or the first of them alone
pub record Question : Type 0 where
  pub table : Table
  pub tests : List Test
  pub order : List By
  pub is_one : Bool

-- ---- the text

abbrev pub how_text : CompareOp → List ℕ
how_text Eq = codes " = "
how_text Ne = codes " <> "
how_text Lt = codes " < "
how_text Le = codes " <= "
how_text Gt = codes " > "
how_text Ge = codes " >= "

abbrev pub side_text : Side → List ℕ
side_text (Given n) = parameter (n + 1)
side_text (Letters s) = codes "'" ++ (s ++ codes "'")

abbrev pub test_text : Test → List ℕ
test_text t = t.column ++ (how_text t.how ++ side_text t.side)

abbrev pub tests_text : List Test → List ℕ
tests_text [] = []
tests_text (t ∷ []) = test_text t
tests_text (t ∷ u ∷ us) = test_text t ++ (codes " AND " ++ tests_text (u ∷ us))

abbrev pub where_text : List Test → List ℕ
where_text [] = []
where_text (t ∷ ts) = codes " WHERE " ++ tests_text (t ∷ ts)

abbrev pub by_text : By → List ℕ
by_text b = b.column ++ cond b.falls (codes " DESC") []

abbrev pub order_text : List By → List ℕ
order_text [] = []
order_text (b ∷ bs) = codes " ORDER BY " ++ listed (map by_text (b ∷ bs))

abbrev pub question_text : Question → List ℕ
question_text q = select_text (form q.table) ++ (where_text q.tests ++ (order_text q.order
    ++ cond q.is_one (codes " LIMIT 1") []))

-- ---- what answers it

-- which of the columns that a row shows
abbrev pub place_of : Table → List ℕ → ℕ
place_of t name = unwrap_or (position_from (bytes_eq name) 0 (column_names t)) 0

-- the comparison is true, and neither false nor NULL
abbrev pub is_so : CompareOp → Value → Value → Bool
is_so how a b = is_true (binary (Compare how Binary) a b)

abbrev pub side_value : Row → Side → Value
side_value asked (Given n) = column asked n
side_value asked (Letters s) = Text s

-- the row that is shown passes the test
abbrev pub passes_test : Table → Row → Row → Test → Bool
passes_test t asked v test = is_so test.how (column v (place_of t test.column)) (side_value asked test.side)

abbrev pub passes : Question → Row → Row → Bool
passes q asked v = list_all (passes_test q.table asked v) q.tests

-- the rows that the query matches, as they are shown
abbrev pub asked_for : Question → Row → Tables → List Row
asked_for q asked all = filter (passes q asked) (map (shown q.table) (all q.table))

abbrev pub order_values : Question → Row → Row
order_values q v = map (λ (b : By). column v (place_of q.table b.column)) q.order

abbrev pub key_of : By → Key
key_of b = record { collation = Binary; descending = b.falls }

abbrev pub order_keys : Question → List Key
order_keys q = map key_of q.order

-- rows that are shown, in its order
abbrev pub order_cmp : Question → Row → Row → Ordering
order_cmp q = on (order_values q) (key_cmp 0 (order_keys q))

-- the rows that the query matches, in its order; or the first of them alone
pub record Answers (q : Question) (asked : Row) (all : Tables) (rows : List Row) : Type 0 where
  pub ordered : List Row
  pub same : IsPermutation (asked_for q asked all) ordered
  pub sorted : IsSorted (order_cmp q) ordered
  pub is : rows ≡ cond q.is_one (take 1 ordered) ordered
