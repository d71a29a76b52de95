-- What a change requires of the tables: they accept each row that is inserted, as they are when its turn comes.
use Rattle.std.specs.Prelude.{◌≡◌, ℕ, List, [], ◌∷◌, Option, Some, None, is_some, unwrap_or, ◌||◌, Result, OnOk, IsTrue, MatchBool, ⊤}
use Rattle.sqlite.specs.Order.{Row as Values}
use Rattle.sqlite.specs.State.{HasCleanDisk, KeepsCommit, Survives}
use Rattle.sqlite.specs.Store.{Ghosts}
use Rattle.sqlite.specs.declared.error.Error.{Error}
use Rattle.sqlite.specs.declared.transaction.Transaction.{Transaction}
use Rattle.app_definitions.specs.declared.kinds.Kind.{Kind}
use Rattle.app_definitions.specs.declared.kinds.Kind.TheVariants as kind
use Rattle.app_definitions.specs.declared.options.Options.{Options}
use Rattle.external_dependencies.specs.declared.change.PairChange.{PairChange}
use Rattle.external_dependencies.specs.declared.links.Link.{Link}
use Rattle.external_dependencies.specs.declared.pairs.Pair.{Pair}
use Rattle.planner_machine.specs.Content.{Content}
use Rattle.planner_machine.specs.Moves.{or_else}
use Rattle.planner_machine.specs.declared.content.Bounds.{Bounds}
use Rattle.planner_machine.specs.declared.job.Job.{Job}
use Rattle.plan_store.specs.Changes.{lists_after}
use Rattle.plan_store.specs.declared.changes.Change.{Change}
use Rattle.plan_store.specs.declared.changes.Moves.{Moves}
use Rattle.plan_store.specs.declared.changes.NewLists.{NewLists}
use Rattle.plan_tables_content.specs.Content.{job_values, meta_values}
use Rattle.plan_tables_content.specs.Facts.{current_key, current_values, deletion_key, deletion_values, link_key, link_values}
use Rattle.plan_tables_content.specs.Facts.{natural, pair_values, row_key, row_values}
use Rattle.plan_tables_schema.specs.Rows.{IsPlan, Stands, Tables, tables_of, with_cells, without_key}
use Rattle.plan_tables_schema.specs.Accepted.{IsKeyOf, AcceptsRow}
use Rattle.plan_tables_schema.specs.Writes.{AcceptsWhere, seen}
use Rattle.plan_tables_schema.specs.declared.tables.Table.{Table}
use Rattle.plan_tables_schema.specs.declared.tables.Table.TheVariants as table
use Rattle.plan_tables_writing.specs.Redefining.{cycles_gone, definitions_moved, name_key, rows_of}
use Rattle.plan_tables_writing.specs.Writing.{beside, cp_moved, history_moved, links_moved, ltp_moved, meta_moved, pairs_moved}
use Rattle.plan_tables_writing.specs.Writing.{rows_moved, standing, with_each, without_each}
use Rattle.plan_tables_writing.specs.declared.redefining.DefinitionMoves.{DefinitionMoves}

-- a row for each of these in turn
abbrev pub AcceptsEach : {X : Type 0} → Table → (X → Values) → List X → Tables → Type 0
AcceptsEach t values_of [] all = ⊤
AcceptsEach t values_of (x ∷ xs) all =
    AcceptsRow t (values_of x) all × AcceptsEach t values_of xs (with_cells t (values_of x) all)

-- the key of each is one of the table
abbrev pub AreKeysOf : {X : Type 0} → Table → (X → Values) → Type 0
AreKeysOf {X} t key_of = (x : X) → IsKeyOf t (key_of x)

-- what changed and what is put, after the rows of what goes and of what changes went
abbrev pub AcceptsMoves : {X : Type 0} → Table → (values_of key_of : X → Values) → Moves X → Tables → Type 0
AcceptsMoves t values_of key_of moves all =
    let left = without_each t key_of moves.changed.items (without_each t key_of moves.gone.items all) in
    AcceptsEach t values_of moves.changed.items left
    × AcceptsEach t values_of moves.put.items (with_each t values_of moves.changed.items left)

-- in the four tables of occurrences
abbrev pub AcceptsRows : Change → Tables → Type 0
AcceptsRows change all =
    AcceptsMoves table.LongTerm row_values row_key change.ltp all
    × AcceptsMoves table.Current current_values current_key change.cp (ltp_moved change all)
    × AcceptsMoves table.History row_values row_key change.history (cp_moved change (ltp_moved change all))
    × AcceptsMoves table.Deletion deletion_values deletion_key change.deletions
    (history_moved change (cp_moved change (ltp_moved change all)))

abbrev pub AcceptsPairs : List Pair → PairChange → Tables → Type 0
AcceptsPairs pairs change all = AcceptsEach table.Dependency pair_values change.added
    (without_each table.Dependency pair_values (standing pairs change.added)
    (without_each table.Dependency pair_values change.removed all))

-- the links that are new, after those that are no longer there went
abbrev pub AcceptsNewLinks : List Link → List Link → Tables → Type 0
AcceptsNewLinks old new all = AcceptsEach table.LinkInForce link_values (beside old new)
    (without_each table.LinkInForce link_key (beside new old) all)

abbrev pub AcceptsLinks : List Link → Option NewLists → Tables → Type 0
AcceptsLinks old None all = ⊤
AcceptsLinks old (Some new) all = AcceptsNewLinks old (lists_after (Some new) old) all

abbrev pub AcceptsMeta : Option Bounds → ℕ → Options → Tables → Type 0
AcceptsMeta bounds issued options all =
    AcceptsRow table.Meta (meta_values bounds issued options) (without_key table.Meta (natural 1 ∷ []) all)

abbrev pub AcceptsNewMeta : Change → Option Bounds → ℕ → Options → Tables → Type 0
AcceptsNewMeta change bounds issued options all = MatchBool (is_some change.bounds || is_some change.issued)
    (AcceptsMeta (or_else change.bounds bounds) (unwrap_or change.issued issued) options all) ⊤

abbrev pub AcceptsJob : Option Job → Tables → Type 0
AcceptsJob None all = ⊤
AcceptsJob (Some job) all = AcceptsRow table.Job (job_values job) all

-- all but the definitions
abbrev pub AcceptsPlans : Content → Change → Tables → Type 0
AcceptsPlans c change all =
    let rows = rows_moved change all in
    let pairs = pairs_moved c.pairs change.pairs rows in
    let links = links_moved c.in_force change.in_force pairs in
    AcceptsRows change all × AcceptsPairs c.pairs change.pairs rows × AcceptsLinks c.in_force change.in_force pairs
    × AcceptsNewMeta change c.sets.bounds c.sets.issued c.definitions.options links
    × AcceptsJob change.job (meta_moved change c.sets.bounds c.sets.issued c.definitions.options links)

-- the rows of definitions, after those of the names went
abbrev pub AcceptsNamed : Table → List (List ℕ) → List Values → Tables → Type 0
AcceptsNamed t names rows all = AcceptsEach t rows_of rows (without_each t name_key names all)

abbrev pub AcceptsCycles : DefinitionMoves → Tables → Type 0
AcceptsCycles moves all =
    let left = cycles_gone moves.names.items all in
    AcceptsEach table.RunCycle rows_of moves.rows.items left
    × AcceptsEach table.Offset rows_of moves.offsets.items (with_each table.RunCycle rows_of moves.rows.items left)

abbrev pub AcceptsKind : Option Kind → Option Bounds → ℕ → Options → DefinitionMoves → Tables → Type 0
AcceptsKind None bounds issued options moves all = ⊤
AcceptsKind (Some kind.Applications) bounds issued options moves all =
    AcceptsNamed table.Application moves.names.items moves.rows.items all
AcceptsKind (Some kind.Calendars) bounds issued options moves all =
    AcceptsNamed table.CalendarEntry moves.names.items moves.rows.items all
AcceptsKind (Some kind.Periods) bounds issued options moves all =
    AcceptsNamed table.Period moves.names.items moves.rows.items all
AcceptsKind (Some kind.Predecessors) bounds issued options moves all =
    AcceptsNamed table.Predecessor moves.names.items moves.rows.items all
AcceptsKind (Some kind.RunCycles) bounds issued options moves all = AcceptsCycles moves all
AcceptsKind (Some kind.Options) bounds issued options moves all = AcceptsMeta bounds issued options all

-- a whole change; the content has the new options
abbrev pub AcceptsChange : Content → DefinitionMoves → Change → Tables → Type 0
AcceptsChange c moves change all =
    AcceptsKind moves.kind c.sets.bounds c.sets.issued c.definitions.options moves all
    × AcceptsPlans c change (definitions_moved c.sets.bounds c.sets.issued c.definitions.options moves all)

-- what statements do if the tables fit, and that they fail for nothing in the tables if these accept them
pub record WritesAccepted {S T : Type 0} (Fit Take : Tables → Type 0) (g : Ghosts S) (old new : Transaction S)
    (result : Result T Error) (after : Tables → Tables) : Type 0 where
  pub same_reference : new.conn.ghost_name ≡ old.conn.ghost_name
  pub ok : HasCleanDisk (seen g new) → IsPlan (seen g old) → IsTrue (seen g old).in_transaction
      → Fit (tables_of (seen g old).now.trees)
      → OnOk result (Stands (seen g old) (seen g new) (after (tables_of (seen g old).now.trees)))
  pub kept : HasCleanDisk (seen g new) → KeepsCommit (seen g old) (seen g new)
  pub survives : Survives (seen g old) (seen g new) (λ _. ⊥)
  pub accepts : AcceptsWhere Take g old new result after
