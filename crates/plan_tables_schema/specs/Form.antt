-- A table as a value, and the texts of its statements.
use Rattle.std.specs.Prelude.{ℕ, zero, suc, ◌+◌, Bool, true, false, cond, not, nat_lt, List, [], ◌∷◌, ◌++◌, length, map, take, codes, Option, Some, None, pos}
use Rattle.sqlite.specs.declared.types.Value.TheVariants.{Null, Int}
use Rattle.sqlite.specs.Collation.TheVariants.{Binary}
use Rattle.sqlite.specs.Term.{Term, lit, col, op2}
use Rattle.sqlite_schema.specs.declared.schema.Action.TheVariants.{NoAction, Cascade}
use Rattle.sqlite_schema.specs.declared.schema.Column.{Column}
use Rattle.sqlite_schema.specs.declared.schema.Reference.{Reference}
use Rattle.sqlite_sql.specs.declared.ops.BinaryOp.TheVariants.{Compare}
use Rattle.sqlite_sql.specs.declared.ops.CompareOp.TheVariants.{Eq}
use Rattle.sqlite_value.specs.Keys.{plain}
use Rattle.sqlite_value.specs.declared.keys.Order.{Order}
use Rattle.sqlite.specs.Kind.{Kind}
use Rattle.sqlite.specs.Kind.TheVariants as kind

-- a column: its name, its kind, and whether it may be NULL
pub record Col : Type 0 where
  pub name : List ℕ
  pub kind : Kind
  pub may_lack : Bool

-- the key that distinguishes rows: the first column, which stands for the rowid, and of which one table has 1 alone;
-- that, and two further columns together; or so many of the first columns together
pub data Key : Type 0 where
  Rowid : Key
  OneRow : Key
  RowidAndPair : Key
  Front : ℕ → Key
  FrontOf : ℕ → ℕ → List ℕ → Key

-- by how many of the first columns rows are deleted, at the end
pub record Form : Type 0 where
  pub name : List ℕ
  pub columns : List Col
  pub key : Key
  pub gone_by : ℕ

abbrev pub needs : List ℕ → Kind → Col
needs name kind = record { name = name; kind = kind; may_lack = false }

abbrev pub may_have : List ℕ → Kind → Col
may_have name kind = record { name = name; kind = kind; may_lack = true }

-- ---- the texts

abbrev pub names : Form → List (List ℕ)
names f = map (λ (c : Col). c.name) f.columns

-- with a comma between them
abbrev pub listed : List (List ℕ) → List ℕ
listed [] = []
listed (x ∷ []) = x
listed (x ∷ y ∷ ys) = x ++ (codes ", " ++ listed (y ∷ ys))

-- ?1, ?2 and so on, up to 19
abbrev pub parameter : ℕ → List ℕ
parameter n = 63 ∷ cond (nat_lt n 10) ((48 + n) ∷ []) (49 ∷ (38 + n) ∷ [])

abbrev pub parameters : ℕ → List (List ℕ) → List (List ℕ)
parameters n [] = []
parameters n (x ∷ xs) = parameter n ∷ parameters (n + 1) xs

-- the parameters of so many rows, each row in parentheses
abbrev pub tuples : ℕ → ℕ → List (List ℕ) → List (List ℕ)
tuples zero n ns = []
tuples (suc m) n ns = (codes "(" ++ (listed (parameters n ns) ++ codes ")")) ∷ tuples m (n + length ns) ns

-- inserts so many rows
abbrev pub several_text : ℕ → Form → List ℕ
several_text m f = codes "INSERT INTO " ++ (f.name ++ (codes " (" ++ (listed (names f) ++ (codes ") VALUES " ++ listed
    (tuples m 1 (names f))))))

abbrev pub insert_text : Form → List ℕ
insert_text f = several_text 1 f

abbrev pub select_text : Form → List ℕ
select_text f = codes "SELECT " ++ (listed (names f) ++ (codes " FROM " ++ f.name))

abbrev pub equals_text : List (List ℕ) → ℕ → List ℕ
equals_text [] n = []
equals_text (x ∷ []) n = x ++ (codes " = " ++ parameter n)
equals_text (x ∷ y ∷ ys) n = x ++ (codes " = " ++ (parameter n ++ (codes " AND " ++ equals_text (y ∷ ys) (n + 1))))

abbrev pub delete_text : Form → List ℕ
delete_text f = codes "DELETE FROM " ++ (f.name ++ (codes " WHERE " ++ equals_text (take f.gone_by (names f)) 1))

abbrev pub kind_text : Kind → List ℕ
kind_text kind.Integer = codes " INTEGER"
kind_text kind.Real = codes " REAL"
kind_text kind.Text = codes " TEXT"
kind_text kind.Blob = codes " BLOB"
kind_text kind.Any = codes " ANY"

abbrev pub column_text : Col → List ℕ
column_text c = c.name ++ (kind_text c.kind ++ cond c.may_lack [] (codes " NOT NULL"))

abbrev pub first_text : Key → Col → List ℕ
first_text Rowid c = c.name ++ codes " INTEGER PRIMARY KEY"
first_text OneRow c = c.name ++ (codes " INTEGER PRIMARY KEY CHECK (" ++ (c.name ++ codes " = 1)"))
first_text RowidAndPair c = c.name ++ codes " INTEGER PRIMARY KEY"
first_text (Front n) c = column_text c
first_text (FrontOf n k p) c = column_text c

abbrev pub column_texts : Key → List Col → List (List ℕ)
column_texts key [] = []
column_texts key (c ∷ cs) = first_text key c ∷ map column_text cs

abbrev pub place_after : List (List ℕ) → List ℕ
place_after [] = []
place_after (x ∷ xs) = listed (take 2 xs)

abbrev pub key_texts : Key → List (List ℕ) → List (List ℕ)
key_texts Rowid ns = []
key_texts OneRow ns = []
key_texts RowidAndPair ns = (codes "UNIQUE (" ++ (place_after ns ++ codes ")")) ∷ []
key_texts (Front n) ns = (codes "PRIMARY KEY (" ++ (listed (take n ns) ++ codes ")")) ∷ []
key_texts (FrontOf n k parent) ns = (codes "PRIMARY KEY (" ++ (listed (take n ns) ++ codes ")"))
    ∷ (codes "FOREIGN KEY (" ++ (listed (take k ns) ++ (codes ") REFERENCES " ++ (parent ++ codes " ON DELETE CASCADE"))))
    ∷ []

abbrev pub create_text : Form → List ℕ
create_text f = codes "CREATE TABLE " ++ (f.name ++ (codes " (" ++ (listed (column_texts f.key f.columns ++ key_texts f.key
    (names f)) ++ codes ") STRICT")))

-- ---- what the kit states of the table

abbrev pub has_rowid : Key → Bool
has_rowid Rowid = true
has_rowid OneRow = true
has_rowid RowidAndPair = true
has_rowid (Front n) = false
has_rowid (FrontOf n k p) = false

abbrev pub column_of : Col → Column
column_of c = record {
  name = c.name;
  kind = c.kind;
  is_strict = true;
  not_null = not c.may_lack;
  default = Null;
  collation = Binary;
}

abbrev pub as_key : Bool → Column → Column
as_key true c = record c { not_null = false }
as_key false c = c

abbrev pub with_key : Bool → List Column → List Column
with_key is [] = []
with_key is (c ∷ cs) = as_key is c ∷ cs

abbrev pub columns_of : Form → List Column
columns_of f = with_key (has_rowid f.key) (map column_of f.columns)

abbrev pub key_of : Key → Option ℕ
key_of k = cond (has_rowid k) (Some 0) None

-- places in a row, which begins with the rowid
abbrev pub from_one : ℕ → ℕ → List ℕ
from_one zero n = []
from_one (suc m) n = n ∷ from_one m (n + 1)

abbrev pub primary_of : Key → List ℕ
primary_of (Front n) = from_one n 1
primary_of (FrontOf n k p) = from_one n 1
primary_of _ = 0 ∷ []

abbrev pub uniques_of : Key → List (List ℕ)
uniques_of Rowid = []
uniques_of OneRow = []
uniques_of RowidAndPair = (2 ∷ 3 ∷ []) ∷ []
uniques_of (Front n) = from_one n 1 ∷ []
uniques_of (FrontOf n k p) = from_one n 1 ∷ []

abbrev pub orders_of : Key → List Order
orders_of k = map (λ _. plain) (uniques_of k)

abbrev pub checks_of : Key → List Term
checks_of OneRow = op2 (Compare Eq Binary) (col 1 0) (lit (Int (pos 1))) ∷ []
checks_of _ = []

abbrev pub references_of : Key → List Reference
references_of (FrontOf n k parent) = record {
  columns = from_one k 1;
  parent = parent;
  parent_columns = [];
  on_delete = Cascade;
  on_update = NoAction;
  is_deferred = false;
} ∷ []
references_of _ = []

-- the place of the first column in a row
abbrev pub first_place : Key → ℕ
first_place k = cond (has_rowid k) 0 1

-- ---- the rows

abbrev pub given_from : ℕ → List Col → List Term
given_from n [] = []
given_from n (c ∷ cs) = col 0 n ∷ given_from (n + 1) cs

abbrev pub with_rowid_term : Bool → List Term → List Term
with_rowid_term true [] = []
with_rowid_term true (t ∷ ts) = t ∷ lit Null ∷ ts
with_rowid_term false ts = lit Null ∷ ts

abbrev pub insert_terms_of : Form → List Term
insert_terms_of f = with_rowid_term (has_rowid f.key) (given_from 0 f.columns)

-- of so many rows, whose values are given from that place on
abbrev pub several_terms_of : ℕ → ℕ → Form → List Term
several_terms_of zero n f = []
several_terms_of (suc m) n f =
    with_rowid_term (has_rowid f.key) (given_from n f.columns) ++ several_terms_of m (n + length f.columns) f

abbrev pub shown_from : ℕ → List Col → List Term
shown_from n [] = []
shown_from n (c ∷ cs) = col 1 n ∷ shown_from (n + 1) cs

abbrev pub with_shown_rowid : Bool → List Term → List Term
with_shown_rowid true [] = []
with_shown_rowid true (t ∷ ts) = col 1 0 ∷ ts
with_shown_rowid false ts = ts

abbrev pub select_terms_of : Form → List Term
select_terms_of f = with_shown_rowid (has_rowid f.key) (shown_from 1 f.columns)

abbrev pub tests_from : ℕ → List Term → List Term
tests_from n [] = []
tests_from n (t ∷ ts) = op2 (Compare Eq Binary) t (col 0 n) ∷ tests_from (n + 1) ts

abbrev pub delete_tests_of : Form → List Term
delete_tests_of f = tests_from 0 (take f.gone_by (select_terms_of f))

abbrev pub drop_text : Form → List ℕ
drop_text f = codes "DROP TABLE " ++ f.name

-- the kinds of the columns by which rows are deleted
abbrev pub key_kinds : Form → List Kind
key_kinds f = map (λ (c : Col). c.kind) (take f.gone_by f.columns)

abbrev pub rowids_text : Form → List ℕ
rowids_text f = codes "SELECT rowid FROM " ++ f.name

-- the name under which rowids are shown
abbrev pub rowids_name : Bool → List (List ℕ) → List ℕ
rowids_name true (x ∷ xs) = x
rowids_name _ xs = codes "rowid"
