-- The row of `plan_meta` is taken out.
use Rattle.std.proofs.Common.{◌≡◌, ◌&&◌, ℕ, Bool, true, false, not, List, [], ◌∷◌, filter, IsTrue, Err, pos, refl, sym, ap, subst}
use Rattle.std.specs.List.{AllByRecursion}
use Rattle.sqlite.specs.Command.TheVariants.{Delete}
use Rattle.sqlite.specs.Effect.{Database, IsDatabase}
use Rattle.sqlite.specs.Listing.{understood}
use Rattle.sqlite.specs.Order.{Row, column}
use Rattle.sqlite.specs.State.{State, ExecutesInside}
use Rattle.sqlite.specs.Term.{col}
use Rattle.sqlite.specs.View.{is_int}
use Rattle.sqlite.specs.declared.error.Error.{Error}
use Rattle.sqlite.specs.declared.types.Value.{Value}
use Rattle.sqlite.specs.declared.types.Value.TheVariants.{Null, Int, Real, Text, Blob}
use Rattle.sqlite.proofs.Callers.{statement_of}
use Rattle.sqlite_rules.proofs.ListLemmas.{all_has}
use Rattle.sqlite_rules.specs.Lists.{Has}
use Rattle.sqlite_schema.specs.Rules.{is_key_of, Keeps, passes_checks}
use Rattle.sqlite_schema.specs.declared.program.Program.{Program}
use Rattle.sqlite_schema.specs.declared.schema.Constraint.TheVariants.{Check, ForeignKey, Unique}
use Rattle.sqlite_schema.specs.declared.schema.Table.{Table as Described}
use Rattle.sqlite_sql.specs.Ops.{binary, from_truth, is_false, is_true}
use Rattle.sqlite_sql.specs.declared.ops.BinaryOp.TheVariants.{Compare}
use Rattle.sqlite_sql.specs.declared.ops.CompareOp.TheVariants.{Eq}
use Rattle.sqlite_trees.specs.Objects.{catalog_tree}
use Rattle.sqlite_value.specs.declared.keys.Collation.TheVariants.{Binary}
use Rattle.std.specs.Prelude.{Some}
use Rattle.plan_tables_schema.specs.Cells.{delete_tests}
use Rattle.plan_tables_schema.specs.Rows.{HaveRowids, IsPlan, MayFail, matches, tables_of}
use Rattle.plan_tables_schema.specs.Places.{tree_named}
use Rattle.plan_tables_schema.specs.Schema.{name, table_at, to_run_cycle}
use Rattle.plan_tables_schema.specs.Accepted.{IsKeyOf}
use Rattle.plan_tables_schema.specs.Texts.{delete_sql}
use Rattle.plan_tables_schema.specs.declared.tables.Table.TheVariants.{Meta}
use Rattle.plan_tables_schema.proofs.GoneLemmas.{never_stops, stops}
use Rattle.plan_tables_schema.proofs.StopLemmas.{IsOrdinary, in_vain, some_same, stopped}
use Rattle.plan_tables_schema.proofs.Steps.{plain_query}
use Rattle.plan_tables_schema.proofs.TakeLemmas.{cycles_keyed}
use Rattle.plan_tables_schema.proofs.TextMeanings.{delete_means}
use Rattle.plan_migrations_remaking.specs.Remaking.{meta_key}

is_key : IsKeyOf Meta meta_key
is_key = (pos 1, refl)

ordinary : (place : ℕ) (p : Program) → IsOrdinary (Delete place p)
ordinary place p = record { quiet = refl; plain = refl; begins = λ e. cc; commits = λ e. cc; undoes = λ e. cc; releases = λ name e. cc; goes_back = λ name e. cc }

-- it goes, but for the common causes of a failure
pub take_fails : (old new : State) (e : Error) → IsPlan old → IsDatabase old.now
    → ExecutesInside 0 (delete_sql Meta) meta_key old new (Err e) → MayFail old new e
take_fails old new e plan database h =
    let schema = old.now.schema in
    let it = plan.schema in
    let sql = delete_sql Meta in
    let text = statement_of sql (understood schema sql) in
    let db = old.now.trees in
    let rowids = subst HaveRowids (ap db (plan.told Meta)) (plan.rowids Meta) in
    let program : Program = record { lets = []; body = plain_query (it.trees Meta) (delete_tests Meta) (col 1 0 ∷ []) } in
    let command = Delete (it.at Meta) program in
    let means = delete_means schema (it.at Meta) (it.trees Meta) Meta (it.stands Meta) in
    in_vain old new meta_key text command e
    (λ does. never_stops schema it Meta meta_key is_key db rowids tt old.step_limit text does)
    (λ opened does.
    let keys : Keeps Unique schema db × (is_key_of schema to_run_cycle ≡ true) =
    (database.obeys.rules Unique, cycles_keyed schema it database.lists.guarded) in
    let told = stops schema it Meta meta_key is_key db rowids tt old.step_limit keys (database.obeys.rules ForeignKey)
    text (Some e) does in
    (some_same told.0, told.1))
    (stopped schema sql meta_key command means.whole means.plain means.is (ordinary (it.at Meta) program) old new e refl h)

-- ---- none is left

as_told : (b : Bool) → (not (is_false (from_truth (Some b))) && true) ≡ true → (is_true (from_truth (Some b)) && true) ≡ true
as_told true h = refl
as_told false h = absurd (cc)

-- a number that is not another one is it
is_it : (v : Value) → IsTrue (is_int v) → (not (is_false (binary (Compare Eq Binary) v (Int (pos 1)))) && true) ≡ true
    → (is_true (binary (Compare Eq Binary) v (Int (pos 1))) && true) ≡ true
unfolding binary
is_it (Int n) int h = as_told _ h
is_it Null int h = absurd (cc)
is_it (Real x) int h = absurd (cc)
is_it (Text t) int h = absurd (cc)
is_it (Blob b) int h = absurd (cc)

one_matches : (n : ℕ) (row : Row) → IsTrue (is_int (column row 0)) → passes_checks (table_at n Meta) row ≡ true
    → matches Meta meta_key row ≡ true
one_matches n row int passes = is_it (column row 0) int passes

none_left : (n : ℕ) (rows : List Row) → HaveRowids rows
    → AllByRecursion (λ row. passes_checks (table_at n Meta) row ≡ true) rows
    → filter (λ row. not (matches Meta meta_key row)) rows ≡ []
none_left n [] have passes = refl
none_left n (row ∷ rows) have passes =
    rw (one_matches n row have.0 passes.0) (none_left n rows have.2 passes.1)

-- the table has no row but that of the key, since CHECK asks it
pub meta_gone : (db : Database) (n : ℕ) → Has db.schema.tables (table_at n Meta)
    → tree_named (db.trees catalog_tree) (name Meta) ≡ n → HaveRowids (tables_of db.trees Meta) → IsDatabase db
    → filter (λ row. not (matches Meta meta_key row)) (tables_of db.trees Meta) ≡ []
meta_gone db n known told have obeys =
    let passes = all_has (λ (d : Described). AllByRecursion (λ row. passes_checks d row ≡ true) (db.trees d.tree))
    db.schema.tables (table_at n Meta) (obeys.obeys.rules Check) known in
    none_left n (tables_of db.trees Meta) have
    (subst (AllByRecursion (λ row. passes_checks (table_at n Meta) row ≡ true)) (sym (ap db.trees told)) passes)
