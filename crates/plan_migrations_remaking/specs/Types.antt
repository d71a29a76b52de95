-- Values of the types of their columns.
use Rattle.std.specs.Prelude.{◌≡◌, ◌+◌, ◌==◌, ◌<◌, ◌||◌, if◌then◌else◌, nat_lt, slice_index_or, ℕ, Bool, false, length, List, [], ◌∷◌, Option, Some, None, IsTrue}
use Rattle.std.specs.List.{All}
use Rattle.sqlite.specs.Kind.{Kind}
use Rattle.sqlite.specs.Kind.TheVariants as kind
use Rattle.sqlite.specs.Order.{Row as Values, column}
use Rattle.sqlite.specs.declared.types.Value.{Value}
use Rattle.sqlite.specs.declared.types.Value.TheVariants.{Null, Int, Real, Text, Blob}
use Rattle.sqlite_schema.specs.declared.schema.Column.{Column}
use Rattle.plan_tables_schema.specs.Schema.{columns, key}
use Rattle.plan_tables_schema.specs.declared.tables.Table.{Table}
use Rattle.plan_migrations_remaking.specs.FirstSchema.{first_columns}

-- a letter for each kind of column: A, B, I, R, T
abbrev pub letter : Kind → ℕ
letter kind.Any = 65
letter kind.Blob = 66
letter kind.Integer = 73
letter kind.Real = 82
letter kind.Text = 84

abbrev pub is_at : Option ℕ → ℕ → Bool
is_at None at = false
is_at (Some k) at = k == at

-- the letters of columns from a place on; a small one where the column may be NULL, which that of the rowid never is
abbrev pub letters : Option ℕ → ℕ → List Column → List ℕ
letters key at [] = []
letters key at (c ∷ cs) = (if c.not_null || is_at key at then letter c.kind else letter c.kind + 32)
    ∷ letters key (at + 1) cs

abbrev pub types : Table → List ℕ
types t = letters (key t) 0 (columns t)

-- those of schema 1
abbrev pub first_types : Table → List ℕ
first_types t = letters (key t) 0 (first_columns t)

-- the value is of the type that the letter stands for
abbrev pub has_type : ℕ → Value → Bool
has_type letter Null = nat_lt 96 letter
has_type letter (Int n) = (letter == 73) || (letter == 105)
has_type letter (Real x) = (letter == 82) || (letter == 114)
has_type letter (Text t) = (letter == 84) || (letter == 116)
has_type letter (Blob b) = (letter == 66) || (letter == 98)

-- there is a value for each letter, and each is of the type that its letter stands for
abbrev pub HasTypes : List ℕ → Values → Type 0
HasTypes letters cells = (length cells ≡ length letters)
    × ((at : ℕ) → at < length letters → IsTrue (has_type (slice_index_or letters at 0) (column cells at)))

-- each row of the table has a value for each column, of its type
abbrev pub AreTyped : Table → List Values → Type 0
AreTyped t rows = All (HasTypes (types t)) rows

-- by schema 1
abbrev pub AreFirst : Table → List Values → Type 0
AreFirst t rows = All (HasTypes (first_types t)) rows
