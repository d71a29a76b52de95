-- The columns of the key by which each table's rows are deleted.
use Rattle.std.specs.Prelude.{ℕ, List, [], ◌∷◌, length, take, ◌+◌}
use Rattle.sqlite.specs.Table.{Table as Described}
use Rattle.sqlite_syntax.specs.declared.statement.Parsed.{Parsed}
use Rattle.plan_tables_schema.specs.Form.{first_place, names}
use Rattle.plan_tables_schema.specs.Forms.{form}
use Rattle.plan_tables_schema.specs.Schema.{name, table_at}
use Rattle.plan_tables_schema.specs.Texts.{delete_sql}
use Rattle.plan_tables_schema.specs.declared.tables.Table.{Table}
use Rattle.plan_tables_schema.proofs.Written.{SaysEqual, SaysPair}
use Rattle.plan_tables_schema.proofs.WrittenTests.{IsCompared}

-- how many parameters the text has
abbrev pub key_width : Table → ℕ
key_width t = (form t).gone_by

abbrev pub key_names : Table → List (List ℕ)
key_names t = take (form t).gone_by (names (form t))

abbrev pub SaysKey : List ℕ → List (List ℕ) → ℕ → Parsed → Type 0
SaysKey name (a ∷ []) size = SaysEqual name a 1 size
SaysKey name (a ∷ b ∷ []) size = SaysPair name a b 1 2 size
SaysKey name _ size = λ _. ⊥

-- what the text says, without the table
abbrev pub SaysDelete : Table → Parsed → Type 0
SaysDelete t = SaysKey (name t) (key_names t) (length (delete_sql t))

abbrev pub AreCompared : Described → List (List ℕ) → ℕ → Type 0
AreCompared table (a ∷ []) at = IsCompared table a at
AreCompared table (a ∷ b ∷ []) at = IsCompared table a at × IsCompared table b (at + 1)
AreCompared table _ at = ⊥

-- the columns of the key are compared as they stand
abbrev pub KeyIsCompared : ℕ → Table → Type 0
KeyIsCompared tree t = AreCompared (table_at tree t) (key_names t) (first_place (form t).key)
