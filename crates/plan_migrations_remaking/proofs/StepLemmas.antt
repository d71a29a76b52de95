-- What the statements make of the schema.
use Rattle.std.proofs.Common.{◌≡◌, ◌∙◌, ◌==◌, ℕ, List, [], ◌∷◌, length, true, false, not, map, Some, None, Ok, Err, refl, sym, ap, subst}
use Rattle.std.specs.List.{AllByRecursion, list_any}
use Rattle.std.specs.List.Sorted.{IsPermutation}
use Rattle.sqlite_keyed.proofs.ListLemmas.{all_of, filter_all}
use Rattle.sqlite.specs.Change.{KeepsRows, without_table}
use Rattle.sqlite.specs.Effect.{Database}
use Rattle.sqlite.specs.Order.{Row}
use Rattle.sqlite.specs.Command.TheVariants.{CreateTable, DropTable, Insert}
use Rattle.sqlite.specs.Schema.{Schema}
use Rattle.sqlite.specs.Source.TheVariants.{Values}
use Rattle.sqlite.specs.Listing.{understood}
use Rattle.sqlite.specs.State.{State, ExecutesInside, IsLive, Shown}
use Rattle.sqlite.specs.Table.{Table as Described}
use Rattle.sqlite.specs.declared.error.Error.{Error}
use Rattle.sqlite.proofs.Callers.{statement_of}
use Rattle.sqlite_schema.specs.Names.{same_name, table_named, view_named}
use Rattle.sqlite_trees.specs.Objects.{catalog_tree}
use Rattle.plan_tables_schema.proofs.MeaningLemmas.{IsWhole, Means}
use Rattle.plan_tables_schema.proofs.NamedLemmas.{tree_is}
use Rattle.plan_tables_schema.proofs.ShownLemmas.{shows_all, stays}
use Rattle.plan_tables_schema.proofs.Steps.{creates}
use Rattle.plan_tables_schema.proofs.StopLemmas.{IsOrdinary, IsStopped, stopped}
use Rattle.plan_tables_schema.proofs.TextMeanings.{insert_means}
use Rattle.plan_tables_schema.specs.Cells.{column_names, insert_terms, width}
use Rattle.plan_tables_schema.specs.Places.{TableIsAt}
use Rattle.plan_tables_schema.specs.Rows.{IsPlan, tables_of}
use Rattle.plan_tables_schema.specs.Texts.{insert_sql}
use Rattle.plan_tables_schema.specs.Schema.{checks, key, name, orders, primary, references, uniques}
use Rattle.plan_tables_schema.specs.declared.tables.Table.{Table}
use Rattle.plan_tables_schema.specs.declared.tables.Table.TheVariants.{RunCycle}
use Rattle.plan_migrations_remaking.specs.FirstSchema.{HasFirstTables, first_after, first_before, first_columns, first_names}
use Rattle.plan_migrations_remaking.specs.FirstSchema.{first_shown, first_table_at, first_terms, without}
use Rattle.plan_migrations_remaking.specs.FirstTexts.{drop_sql, first_create_sql, first_select_sql}
use Rattle.plan_migrations_remaking.specs.Refusals.{FailsFor, IsRefused, RefusesToBegin, RefusesToLose, RefusesToMake}
use Rattle.plan_migrations_remaking.specs.Remaking.{RefusesRow}
use Rattle.plan_migrations_remaking.specs.Turns.{IsInside, IsLosing}
use Rattle.plan_migrations_remaking.proofs.CauseLemmas.{caused_by, refused_as}
use Rattle.plan_migrations_remaking.proofs.DropSteps.{drops}
use Rattle.plan_migrations_remaking.proofs.Meanings.{create_defines, create_means, drop_means, made, selects, uncounted, unused}
use Rattle.plan_migrations_remaking.proofs.WithoutLemmas.{all_left, one_more_gone, still_there, unacted}

pub both_all : {X : Type 0} (P Q R : X → Type 0) → ((x : X) → P x → Q x → R x) → (xs : List X) → AllByRecursion P xs
    → AllByRecursion Q xs → AllByRecursion R xs
both_all P Q R both [] p q = tt
both_all P Q R both (x ∷ xs) p q = (both x p.0 q.0, both_all P Q R both xs p.1 q.1)

pub makes : (t : Table) (base : Database) (old new : State) (count : ℕ) → IsInside (first_before t) base old
    → ExecutesInside 0 (first_create_sql t) [] old new (Ok count) → IsInside (first_after t) base new
makes t base old new count has h =
    let is = create_means (first_before t) t (unused t) in
    let step = creates (first_before t) (first_table_at 0 t) (first_create_sql t) is.0.is is.1 (create_defines t)
    is.0.plain (uncounted t) old new count has.0 h.0 in
    (step.0 ∙ made t, h.1.mode)

ordinary_create : IsOrdinary CreateTable
ordinary_create = record { quiet = refl; plain = refl; begins = λ e. cc; commits = λ e. cc; undoes = λ e. cc; releases = λ name e. cc; goes_back = λ name e. cc }

ordinary_drop : (place : ℕ) → IsOrdinary (DropTable place)
ordinary_drop place = record { quiet = refl; plain = refl; begins = λ e. cc; commits = λ e. cc; undoes = λ e. cc; releases = λ name e. cc; goes_back = λ name e. cc }

ordinary_insert : (place : ℕ) (t : Table) → IsOrdinary (Insert place (Values (insert_terms t) (width t)))
ordinary_insert place t = record { quiet = refl; plain = refl; begins = λ e. cc; commits = λ e. cc; undoes = λ e. cc; releases = λ name e. cc; goes_back = λ name e. cc }

pub make_fails : (t : Table) (base : Database) (old new : State) (e : Error) → IsInside (first_before t) base old
    → ExecutesInside 0 (first_create_sql t) [] old new (Err e) → FailsFor (RefusesToBegin old.step_limit base) old new e
make_fails t base old new e has h =
    let is = create_means (first_before t) t (unused t) in
    refused_as (RefusesToMake old.step_limit old.now t) (RefusesToBegin old.step_limit base) old new e
    (λ refused. record { db = old.now; table = t; schema = has.0; refused = refused })
    (caused_by old new [] (first_create_sql t) CreateTable e (subst (λ text. IsStopped old new [] text CreateTable e) is.1
    (stopped (first_before t) (first_create_sql t) [] CreateTable is.0.whole is.0.plain is.0.is ordinary_create old new e
    has.0 h)))

-- one table more is taken away, of another name than those before it, which is none of the run cycles and of no view
module _ (t : Table) (gone : List Table) (apart : list_any (λ u. same_name (name u) (name t)) gone ≡ false)
    (other : same_name (name t) (name RunCycle) ≡ false) (base : Database) (old new : State)
    (has : IsLosing gone base old) (unviewed : view_named (without has.can.has.trees gone base.schema) (name t) ≡ None)
  where
    abbrev trees : Table → ℕ
    trees = has.can.has.trees

    abbrev before : Schema
    before = without trees gone base.schema

    here : (k : ℕ) × TableIsAt before (first_table_at (trees t) t) k
    here = still_there base.schema has.can.has t gone apart

    drop_is : Means before (drop_sql t) (DropTable here.0) 0
    drop_is = drop_means before t here.0 unviewed here.1.named

    pub loses : (count : ℕ) → ExecutesInside 0 (drop_sql t) [] old new (Ok count) → IsLosing (t ∷ gone) base new
    loses count h =
        let step = drops before here.0 (name t) (trees t) (first_columns t) (key t) (primary t) (uniques t) (orders t)
        (checks t) (references t) (drop_sql t) drop_is.is drop_is.plain here.1.got (unacted base.schema has.can.has t gone other) old
        new count has.schema h.0 in
        let left = without_table before (trees t) in
        let were = all_left (λ (d : Described). old.now.trees d.tree ≡ base.trees d.tree) (λ d. not (d.tree == trees t))
        before.tables (subst (λ (s : Schema). KeepsRows s.tables base.trees old.now.trees) has.schema has.others) in
        record {
          can = has.can;
          schema = step.0 ∙ one_more_gone base.schema trees t gone;
          others = subst (λ (s : Schema). KeepsRows s.tables base.trees new.now.trees) (sym step.0)
              (both_all (λ (d : Described). new.now.trees d.tree ≡ old.now.trees d.tree) (λ d. old.now.trees d.tree
              ≡ base.trees d.tree) (λ d. new.now.trees d.tree ≡ base.trees d.tree) (λ d same was. same ∙ was) left.tables
              step.1 were);
          mode = h.1.mode;
        }

    pub drop_fails : (e : Error) → ExecutesInside 0 (drop_sql t) [] old new (Err e)
        → FailsFor (RefusesToLose old.step_limit base) old new e
    drop_fails e h =
        let text = statement_of (drop_sql t) (understood before (drop_sql t)) in
        refused_as (IsRefused old.step_limit [] old.now text (DropTable here.0)) (RefusesToLose old.step_limit base) old new e
        (λ refused. record {
          can = has.can;
          db = old.now;
          table = t;
          gone = gone;
          schema = has.schema;
          others = has.others;
          refused = (
            here.0,
            subst (λ (s : Schema). table_named s (name t) ≡ Some here.0) (sym has.schema) here.1.named,
            refused,
          );
        })
        (caused_by old new [] text (DropTable here.0) e (stopped before (drop_sql t) [] (DropTable here.0) drop_is.whole
        drop_is.plain drop_is.is (ordinary_drop here.0) old new e has.schema h))

pub insert_fails : (t : Table) (cells : Row) (old new : State) (e : Error) → IsPlan old
    → length cells ≡ length (column_names t) → ExecutesInside 0 (insert_sql t) cells old new (Err e)
    → FailsFor (RefusesRow old.step_limit old.now t cells) old new e
insert_fails t cells old new e plan whole h =
    let has = plan.schema in
    let schema = old.now.schema in
    let sql = insert_sql t in
    let command = Insert (has.at t) (Values (insert_terms t) (width t)) in
    let text = statement_of sql (understood schema sql) in
    let means = insert_means schema (has.at t) (has.trees t) t (has.stands t) in
    refused_as (IsRefused old.step_limit cells old.now text command) (RefusesRow old.step_limit old.now t cells) old new e
    (λ refused. (has.at t, (has.stands t).named, refused))
    (caused_by old new cells text command e (stopped schema sql cells command
    (subst (IsWhole (understood schema sql) (length sql)) (sym whole) means.whole) means.plain means.is
    (ordinary_insert (has.at t) t) old new e refl h))

-- the rows are read
pub reads : (t : Table) (old new : State) (rows : List Row) → HasFirstTables old.now.schema → IsLive old
    → Shown (first_select_sql t) [] old new rows → IsPermutation (map (first_shown t) (tables_of old.now.trees t)) rows
reads t old new rows has live h =
    let schema = old.now.schema in
    let means = selects schema (has.trees t) (has.at t) t (has.stands t) in
    let sound = (live (stays schema (first_select_sql t) (has.trees t) (first_terms t) (first_names t) means old new rows
    refl h).0.was_open).0 in
    let told = tree_is schema (first_table_at (has.trees t) t) (has.at t) (old.now.trees catalog_tree) (has.stands t)
    sound.lists.listed in
    let was = old.now.trees (has.trees t) in
    subst (λ all. IsPermutation (map (first_shown t) all) rows) (sym (ap old.now.trees told))
    (subst (λ all. IsPermutation (map (first_shown t) all) rows) (filter_all (λ _. true) was (all_of _ (λ _. refl) was))
    (shows_all schema (first_select_sql t) (has.trees t) (first_terms t) (first_names t) means (has.stands t).stored old
    new rows refl h))
