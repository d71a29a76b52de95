-- `SELECT columns FROM table`, as it is written.
use Rattle.std.specs.Prelude.{◌≡◌, ℕ, Bool, false, true, List, [], ◌∷◌, length, map, negsuc, codes, Option, Some, None, is_some, option_map, option_and_then, unwrap_or, slice_get, Ok, ⊤, Err}
use Rattle.std.specs.List.{list_all}
use Rattle.sqlite_schema.specs.Names.{column_named, place_of}
use Rattle.sqlite_ast.specs.declared.Core.{out-Core, Core, roll-Core}
use Rattle.sqlite_ast.specs.declared.Select.{Select, out-Select, roll-Select}
use Rattle.sqlite_ast.specs.declared.Shown.{Shown, roll-Shown}
use Rattle.sqlite_schema.specs.declared.schema.Schema.{Schema}
use Rattle.sqlite_schema.specs.declared.schema.Table.{Table}
use Rattle.sqlite_sql.specs.Term.{Term, lit, col}
use Rattle.sqlite_value.specs.declared.value.Value.TheVariants.{Int}
use Rattle.sqlite_draft.specs.declared.query.Draft.{Draft}
use Rattle.sqlite_resolve.specs.declared.scope.Output.{Output}
use Rattle.sqlite_resolve.specs.declared.state.Carried.{Carried}
use Rattle.sqlite_resolve.specs.Lowering.{max_budget, nothing, Checked}
use Rattle.sqlite_resolve.specs.Terms.{number}
use Rattle.sqlite_resolve.specs.Expr.{lower}
use Rattle.sqlite_syntax.specs.declared.statement.Parsed.{Parsed}
use Rattle.sqlite_ast.specs.declared.Source.{Source as Source', roll-Source}
use Rattle.sqlite_ast.specs.declared.Expr.TheOpen.{Expr-F, Shown-F}
use Rattle.sqlite_resolve.specs.declared.state.State.{State}
use Rattle.sqlite_resolve.specs.declared.scope.Bound.{Bound}
use Rattle.sqlite_resolve.specs.Scope.{Context, declared}
use Rattle.sqlite_resolve.specs.declared.scope.Level.{Level}
use Rattle.sqlite_value.specs.declared.keys.Key.{Key}
use Rattle.sqlite_schema.specs.declared.schema.Column.{Column}
use Rattle.sqlite_draft.specs.Join.{chain}
use Rattle.sqlite_draft.specs.declared.join.Step.TheVariants.{Inner}
use Rattle.sqlite_ast.specs.declared.Expr.{roll-Expr}
use Rattle.sqlite_ast.specs.declared.Statement.{Statement}
use Rattle.sqlite_ast.specs.declared.Statement.TheVariants as written
use Rattle.sqlite_resolve.specs.Body as body
use Rattle.sqlite_ast.specs.declared.Origin.TheVariants as origin

abbrev pub IfFound : {X : Type 0} → Option X → (X → Type 0) → Type 0
IfFound (Some x) P = P x
IfFound None P = ⊥

abbrev pub no_core : Core
no_core = roll-Core (record { distinct = false; shown = []; from = []; filter = None; group = []; having = None })

abbrev pub select_of : Statement → Select
select_of (written.Select s) = s
select_of _ = roll-Select (record { «with» = []; first = no_core; others = []; order = []; limit = None; offset = None })

abbrev pub Yields : {A : Type 0} → Checked A → (A → Type 0) → Type 0
Yields (Ok a) P = P a
Yields (Err e) P = ⊥

-- the one table of FROM
abbrev pub only_bound : List ℕ → ℕ → List Bound
only_bound name at = record { name = name; table = at; slot = 1; shared = [] } ∷ []

-- while a query over one table is read
abbrev pub with_budget : ℕ → Carried → State
with_budget budget last = record { next = 2; steps = []; aggregates = []; budget = budget; written = None; last = last }

-- the table has the columns
abbrev pub HasColumn : Table → List ℕ → Type 0
HasColumn table name = IfFound (column_named table name) (λ k. IfFound (slice_get table.columns k) (λ c. ⊤))

abbrev pub HasColumns : Table → List (List ℕ) → Type 0
HasColumns table [] = ⊤
HasColumns table (n ∷ ns) = HasColumn table n × HasColumns table ns

abbrev pub no_output : Output
no_output = record { name = []; is_alias = false; is_column = true; term = col 1 0; carried = nothing }

abbrev pub output_of : Table → ℕ → Option Column → Output
output_of table k (Some c) = record { name = c.name; is_alias = false; is_column = true; term = col 1 (place_of table k); carried = declared table k c }
output_of table k None = no_output

abbrev pub output_at : Table → Option ℕ → Output
output_at table (Some k) = output_of table k (slice_get table.columns k)
output_at table None = no_output

-- a column of the result that is a column of the table
abbrev pub shown_as : Table → List ℕ → Output
shown_as table name = output_at table (column_named table name)

-- what a bare column is written as
abbrev pub shown_column : List ℕ → Shown
shown_column name = roll-Shown (Shown-F.One (roll-Expr (Expr-F.Column None name)) None name)

abbrev pub source_table : List ℕ → Source'
source_table name = roll-Source (record { is_left = false; origin = origin.Table name; alias = None; on = None; using = [] })

abbrev pub outer_level : Schema → Level → Bool → Context
outer_level schema level may_aggregate = record { schema = schema; levels = level ∷ []; may_aggregate = may_aggregate; may_alias = true }

abbrev pub plain_draft : ℕ → List Term → List Term → List (Term × Key) → Term × Term → Draft
plain_draft tree tests project order page = record { from = chain (Inner tree ∷ []); filter = tests; group = None; project = project; distinct = false; collations = []; order = order; limit = page.0; offset = page.1 }

-- the columns of one table, and nothing else
pub record IsBareSelect (s : Select) (name : List ℕ) (shown : List Shown) : Type 0 where
  pub lets : (out-Select s).«with» ≡ []
  pub alone : (out-Select s).others ≡ []
  pub order : (out-Select s).order ≡ []
  pub limit : (out-Select s).limit ≡ None
  pub offset : (out-Select s).offset ≡ None
  pub repeats : (out-Core (out-Select s).first).distinct ≡ false
  pub shows : (out-Core (out-Select s).first).shown ≡ shown
  pub from : (out-Core (out-Select s).first).from ≡ source_table name ∷ []
  pub filter : (out-Core (out-Select s).first).filter ≡ None
  pub group : (out-Core (out-Select s).first).group ≡ []
  pub having : (out-Core (out-Select s).first).having ≡ None

-- the text is such a query to its end, without parameters
abbrev pub IsBareText : ℕ → List ℕ → List Shown → Parsed → Type 0
IsBareText size name shown p =
    let s = select_of p.statement in
    (p.statement ≡ written.Select s) × (p.formats ≡ []) × (p.tail ≡ size) × (length p.names ≡ 0)
    × (out-Select s ≡ record { «with» = []; first = (out-Select s).first; others = []; order = []; limit = None; offset = None })
    × (out-Core (out-Select s).first ≡ record { distinct = false; shown = shown; from = source_table name ∷ []; filter = None; group = []; having = None })

abbrev pub Lowered : Schema → Table → ℕ → List Shown → List Output → ℕ → Carried → Type 0
Lowered schema table at shown outs budget next =
    body.outputs_from lower (outer_level schema (record { tables = only_bound table.name at; shown = [] }) true) (only_bound table.name at) [] shown (with_budget max_budget nothing)
    ≡ Ok (outs, with_budget budget next)

abbrev pub all_rows : Term × Term
all_rows = (lit (Int (negsuc 0)), number 0)

abbrev pub draft_of : ℕ → List Output → Draft
draft_of tree outs = plain_draft tree [] (map (λ o. o.term) outs) [] all_rows

abbrev pub is_there : Table → Option ℕ → Bool
is_there table (Some k) = is_some (slice_get table.columns k)
is_there table None = false

-- the table has the columns
abbrev pub has_all : Table → List (List ℕ) → Bool
has_all table = list_all (λ n. is_there table (column_named table n))

-- the name under which a rowid is shown: that of the INTEGER PRIMARY KEY, where there is one
abbrev pub rowid_head : Table → List ℕ
rowid_head table = unwrap_or (option_and_then (λ k. option_map (λ c. c.name) (slice_get table.columns k)) table.key) (codes "rowid")

abbrev pub rowid_output : Table → Output
rowid_output table = record { name = rowid_head table; is_alias = false; is_column = true; term = col 1 0; carried = nothing }
