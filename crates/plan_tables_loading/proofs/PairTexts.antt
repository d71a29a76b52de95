-- The text that shows the pairs and the rowids of their rows, wherever their table stands.
use Rattle.std.proofs.Common.{◌≡◌, ◌∙◌, ℕ, suc, ◌-◌, ◌^◌, ◌++◌, List, [], ◌∷◌, length, map, nat_lt, Ok, Err, Some}
use Rattle.std.proofs.Common.{None, refl, ap, subst₂, true, slice_get, lt-ltb, ltb-true}
use Rattle.std.specs.Prelude.{codes}
use Rattle.std.proofs.lemmas.Bool.{leb-false}
use Rattle.sqlite_ast.specs.declared.Expr.{Expr, out-Expr}
use Rattle.sqlite_ast.specs.declared.Expr.TheOpen.{Expr-F}
use Rattle.sqlite_ast.specs.declared.Shown.{Shown}
use Rattle.sqlite_schema.specs.Names.{column_named}
use Rattle.sqlite_schema.specs.declared.schema.Schema.{Schema}
use Rattle.sqlite_schema.specs.declared.schema.Table.{Table as Described}
use Rattle.sqlite_resolve.specs.declared.scope.Bound.{Bound}
use Rattle.sqlite_resolve.specs.declared.scope.Found.TheVariants as found
use Rattle.sqlite_resolve.specs.declared.scope.Output.{Output}
use Rattle.sqlite_resolve.specs.declared.state.Carried.{Carried}
use Rattle.sqlite_resolve.specs.declared.state.State.{State}
use Rattle.sqlite_resolve.specs.Body as body
use Rattle.sqlite_resolve.specs.Compile.{first}
use Rattle.sqlite_resolve.specs.Expr as expr
use Rattle.sqlite_resolve.specs.Lowering.{Checked, and_then, begin, finish, max_budget, nothing, spend}
use Rattle.sqlite_resolve.specs.Scope as scope
use Rattle.sqlite_typing.specs.Types.{are_typed, row_classes}
use Rattle.sqlite_tied.specs.Compute.{everything}
use Rattle.sqlite_sql.specs.Term.{Term, col}
use Rattle.sqlite.specs.State.{State as Whole}
use Rattle.plan_tables_schema.specs.Places.{TableIsAt}
use Rattle.plan_tables_schema.specs.Schema.{HasTables, name, table_at}
use Rattle.plan_tables_schema.specs.declared.tables.Table.TheVariants.{Dependency}
use Rattle.plan_tables_schema.proofs.ColumnsLemmas.{opens_column, opens_shown, shows_all}
use Rattle.plan_tables_schema.proofs.QueryMeanings.{ShowsRows, text_shows}
use Rattle.plan_tables_schema.proofs.Written.{IfRead}
use Rattle.plan_tables_schema.proofs.WrittenQueries.{HasColumns, IsBareText, only_bound, outer_level, rowid_head}
use Rattle.plan_tables_schema.proofs.WrittenQueries.{rowid_output, shown_as, shown_column, with_budget}
use Rattle.plan_tables_loading.specs.Rowids.{pair_sql, pair_terms}

-- ---- the columns, and then the rowid

-- what is shown is read one after another
shown_then : (lower : scope.Context → Expr → State → Checked (Term × State)) (cx : scope.Context) (tables : List Bound)
    (done : List Output) (xs ys : List Shown) (s : State) → body.outputs_from lower cx tables done (xs ++ ys) s
    ≡ and_then (body.outputs_from lower cx tables done xs s) (λ r. body.outputs_from lower cx tables r.0 ys r.1)
shown_then lower cx tables done [] ys s = refl
shown_then lower cx tables done (x ∷ xs) ys s =
    go (body.shown lower cx tables done x s) (λ longer t. shown_then lower cx tables longer xs ys t)
  where
    go : (r : Checked (List Output × State))
        → ((longer : List Output) (t : State) → body.outputs_from lower cx tables longer (xs ++ ys) t
        ≡ and_then (body.outputs_from lower cx tables longer xs t) (λ r. body.outputs_from lower cx tables r.0 ys r.1))
        → and_then r (λ r. body.outputs_from lower cx tables r.0 (xs ++ ys) r.1)
        ≡ and_then (and_then r (λ r. body.outputs_from lower cx tables r.0 xs r.1))
        (λ r. body.outputs_from lower cx tables r.0 ys r.1)
    go (Ok r) later = later r.0 r.1
    go (Err e) later = refl

module _ (schema : Schema) (table : Described) (at : ℕ) (got : slice_get schema.tables at ≡ Some table)
    (stored : nat_lt table.tree (2 ^ 31) ≡ true) (n : List ℕ) (is : scope.is_rowid n ≡ true)
    (named : column_named table n ≡ None) where
  abbrev bound : List Bound
  bound = only_bound table.name at

  abbrev cx : scope.Context
  cx = outer_level schema (record { tables = bound; shown = [] }) true

  found_rowid : scope.find cx None n ≡ Ok (found.Rowid 1 at)
  unfolding scope.find scope.in_level scope.only scope.hit scope.column_in scope.rowid_in scope.is_among
  found_rowid = rw (got, named, is, stored) refl

  reads_rowid : (s : State) → scope.column cx None n s ≡ Ok (col 1 0, record s { last = nothing })
  unfolding scope.column scope.term_of
  reads_rowid s = rw found_rowid refl

  lowers_rowid : (depth budget : ℕ) (last : Carried) (e : Expr) → out-Expr e ≡ Expr-F.Column None n
      → nat_lt 1 budget ≡ true
      → expr.lower_to (suc depth) cx e (with_budget budget last) ≡ Ok (col 1 0, with_budget (budget - 1) nothing)
  unfolding expr.lower_to expr.node expr.opened expr.passes spend begin finish
  lowers_rowid depth budget last e written enough = rw (enough, written, reads_rowid) refl

  heads_rowid : (e : Expr) (text : List ℕ) → out-Expr e ≡ Expr-F.Column None n
      → body.heading cx e text ≡ rowid_head table
  unfolding body.heading body.declared
  heads_rowid e text written = rw (written, found_rowid, got) refl

  -- the rowid is shown behind what was shown before
  shows_rowid : (depth budget : ℕ) (last : Carried) (done : List Output) → nat_lt 1 budget ≡ true
      → body.outputs_from (expr.lower_to (suc depth)) cx bound done (shown_column n ∷ []) (with_budget budget last)
      ≡ Ok (done ++ rowid_output table ∷ [], with_budget (budget - 1) nothing)
  unfolding body.shown body.is_column
  shows_rowid depth budget last done enough =
      let lowered = lowers_rowid depth budget last _ (opens_column n) enough in
      let head = heads_rowid _ n (opens_column n) in
      rw (opens_shown, opens_column, lowered, head) refl

-- ---- the pairs

abbrev columns : List (List ℕ)
columns = codes "successor" ∷ codes "predecessor" ∷ []

abbrev rowid_word : List ℕ
rowid_word = codes "rowid"

abbrev pub pair_names : List (List ℕ)
pair_names = codes "successor" ∷ codes "predecessor" ∷ codes "rowid" ∷ []

pair_text : IfRead (first pair_sql) (IsBareText (length pair_sql) (name Dependency) (map shown_column pair_names))
unfolding everything
pair_text = (refl, refl, refl, refl, refl, refl)

abbrev pairs_at : ℕ → Described
pairs_at tree = table_at tree Dependency

abbrev pair_outputs : ℕ → List Output
pair_outputs tree = map (shown_as (pairs_at tree)) columns ++ rowid_output (pairs_at tree) ∷ []

pair_fits : (tree : ℕ) → (column_named (pairs_at tree) rowid_word ≡ None)
    × (are_typed [] (row_classes (pairs_at tree) ∷ []) pair_terms ≡ true)
    × (map (λ o. o.term) (pair_outputs tree) ≡ pair_terms)
    × (map (λ o. o.name) (pair_outputs tree) ≡ pair_names)
unfolding everything
pair_fits tree = (refl, refl, refl, refl)

has_columns : (tree : ℕ) → HasColumns (pairs_at tree) columns
unfolding everything
has_columns tree = (tt, (tt, tt))

is_word : scope.is_rowid rowid_word ≡ true
unfolding everything
is_word = refl

pairs_show : (schema : Schema) (tree at : ℕ) → TableIsAt schema (pairs_at tree) at
    → ShowsRows schema pair_sql tree pair_terms pair_names
pairs_show schema tree at it =
    let table = pairs_at tree in
    let lower = expr.lower_to 700 in
    let within = outer_level schema (record { tables = only_bound table.name at; shown = [] }) true in
    let bounds = only_bound table.name at in
    let all = shows_all schema table at it.got 699 columns (has_columns tree) max_budget nothing []
    (ltb-true 2 max_budget refl) in
    let last = shows_rowid schema table at it.got (lt-ltb tree (2 ^ 31) (leb-false (2 ^ 31) tree it.stored)) rowid_word
    is_word (pair_fits tree).0 699 (max_budget - 2) all.0 (map (shown_as table) columns) refl in
    let lowered = shown_then lower within bounds [] (map shown_column columns) (shown_column rowid_word ∷ [])
    (with_budget max_budget nothing)
    ∙ ap (λ r. and_then r (λ r. body.outputs_from lower within bounds r.0 (shown_column rowid_word ∷ []) r.1)) all.1
    ∙ last in
    let fits = pair_fits tree in
    subst₂ (λ t n. ShowsRows schema pair_sql tree t n) fits.2 fits.3
    (text_shows schema table at it pair_sql (map shown_column pair_names) (pair_outputs tree) (max_budget - 3) nothing
    lowered (ap (are_typed [] (row_classes table ∷ [])) fits.2 ∙ fits.1) pair_text)

-- so it is where the tables of the plan are
pub pairs_means : (old : Whole) (has : HasTables old.now.schema)
    → ShowsRows old.now.schema pair_sql (has.trees Dependency) pair_terms pair_names
pairs_means old has = pairs_show old.now.schema (has.trees Dependency) (has.at Dependency) (has.stands Dependency)
