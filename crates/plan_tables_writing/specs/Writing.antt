-- What the statements of a change make of the tables.
use Rattle.std.specs.Prelude.{◌≡◌, List, [], ◌∷◌, fold, IsTrue}
use Rattle.sqlite.specs.Effect.{IsDatabase}
use Rattle.sqlite.specs.Order.{Row as Values}
use Rattle.sqlite.specs.State.{State}
use Rattle.sqlite.specs.Tree.{Trees}
use Rattle.sqlite.specs.declared.error.Error.{Error}
use Rattle.plan_tables_schema.specs.Rows.{AreOfKinds, HaveRowids, IsAlone, IsPlan, MayFail, Tables, tables_of, with_cells}
use Rattle.plan_tables_schema.specs.Rows.{without_key}
use Rattle.plan_tables_schema.specs.Schema.{HasOnlyKeyIndexes}
use Rattle.plan_tables_schema.specs.declared.tables.Table.{Table}
use Rattle.plan_tables_schema.specs.declared.tables.Table.TheVariants as table
use Rattle.std.specs.Prelude.{ℕ, ◌&&◌, Bool, Option, Some, None, filter, nat_eq, not}
use Rattle.std.specs.List.{list_any}
use Rattle.std.specs.Option.{option_eq}
use Rattle.std.specs.Str.{bytes_eq}
use Rattle.app_definitions.specs.declared.options.Options.{Options}
use Rattle.external_dependencies.specs.declared.change.PairChange.{PairChange}
use Rattle.external_dependencies.specs.declared.links.Link.{Link}
use Rattle.external_dependencies.specs.declared.pairs.Pair.{Pair}
use Rattle.planner_machine.specs.declared.content.Bounds.{Bounds}
use Rattle.planner_machine.specs.declared.job.Job.{Job}
use Rattle.plan_store.specs.Changes.{is_among, lists_after}
use Rattle.plan_store.specs.declared.changes.Change.{Change}
use Rattle.plan_store.specs.declared.changes.Moves.{Moves}
use Rattle.plan_store.specs.declared.changes.NewLists.{NewLists}
use Rattle.plan_tables_content.specs.Facts.{current_key, current_values, deletion_key, deletion_values, link_values, natural}
use Rattle.plan_tables_content.specs.Facts.{link_key, pair_values, row_key, row_values}
use Rattle.plan_tables_content.specs.Content.{job_values, meta_values, IsSmall}
use Rattle.std.specs.Prelude.{is_some, ◌||◌, if◌then◌else◌, unwrap_or, IfSome}
use Rattle.planner_machine.specs.Moves.{or_else}
use Rattle.planner_machine.specs.Content.{Content}
use Rattle.external_dependencies.specs.Link.{link_cmp}
use Rattle.external_dependencies.specs.Rising.{IsRising}

-- the values that all of these have can be stored in the table
abbrev pub AreStorable : {X : Type 0} → Table → (X → Values) → Type 0
AreStorable {X} t values_of = (x : X) → AreOfKinds t (values_of x)

-- no row of another table is deleted with a row of this one
abbrev pub StandAlone : Table → Type 0
StandAlone t = (key : Values) (all : Tables) → IsAlone t key all

-- with a row for each of these, and without the rows of these keys
abbrev pub with_each : {X : Type 0} → Table → (X → Values) → List X → Tables → Tables
with_each t values_of xs all = fold (λ (now : Tables) x. with_cells t (values_of x) now) all xs

abbrev pub without_each : {X : Type 0} → Table → (X → Values) → List X → Tables → Tables
without_each t key_of xs all = fold (λ (now : Tables) x. without_key t (key_of x) now) all xs

-- the changes in a set: the rows of what goes and of what changes are deleted, and those of what changed and of what
-- is put are inserted
abbrev pub moved_in : {X : Type 0} → Table → (values_of key_of : X → Values) → Moves X → Tables → Tables
moved_in t values_of key_of moves all =
    with_each t values_of moves.put.items
    (with_each t values_of moves.changed.items
    (without_each t key_of moves.changed.items
    (without_each t key_of moves.gone.items all)))

abbrev pub ltp_moved : Change → Tables → Tables
ltp_moved change all = moved_in table.LongTerm row_values row_key change.ltp all

abbrev pub cp_moved : Change → Tables → Tables
cp_moved change all = moved_in table.Current current_values current_key change.cp all

abbrev pub history_moved : Change → Tables → Tables
history_moved change all = moved_in table.History row_values row_key change.history all

abbrev pub deletions_moved : Change → Tables → Tables
deletions_moved change all = moved_in table.Deletion deletion_values deletion_key change.deletions all

abbrev pub rows_moved : Change → Tables → Tables
rows_moved change all = deletions_moved change (history_moved change (cp_moved change (ltp_moved change all)))

-- those of the added pairs that are already there
abbrev pub standing : List Pair → List Pair → List Pair
standing pairs added = filter (is_among pairs) added

-- they are deleted before they are inserted
abbrev pub pairs_moved : List Pair → PairChange → Tables → Tables
pairs_moved pairs change all =
    with_each table.Dependency pair_values change.added
    (without_each table.Dependency pair_values (standing pairs change.added)
    (without_each table.Dependency pair_values change.removed all))

-- whether the two links have the same names and the same limit
abbrev pub is_same_link : Link → Link → Bool
is_same_link l m =
    bytes_eq l.app m.app && (bytes_eq l.predecessor m.predecessor && option_eq nat_eq l.within m.within)

-- whether the link is one of these, with the same limit
abbrev pub holds_link : List Link → Link → Bool
holds_link links l = list_any (is_same_link l) links

-- those of the links that the others lack; a link with another limit is another
abbrev pub beside : List Link → List Link → List Link
beside others links = filter (λ (l : Link). not (holds_link others l)) links

-- the lists in force: what the new ones lack is deleted, and then what the old ones lack is inserted; so a link whose
-- limit changed is deleted with the old limit and inserted with the new one
abbrev pub links_replaced : List Link → List Link → Tables → Tables
links_replaced old new all =
    with_each table.LinkInForce link_values (beside old new)
    (without_each table.LinkInForce link_key (beside new old) all)

abbrev pub links_moved : List Link → Option NewLists → Tables → Tables
links_moved old None all = all
links_moved old (Some new) all = links_replaced old (lists_after (Some new) old) all

abbrev pub job_put : Job → Tables → Tables
job_put job all = with_cells table.Job (job_values job) all

abbrev pub job_kept : Option Job → Tables → Tables
job_kept None all = all
job_kept (Some job) all = job_put job all

-- the one row of how far the plans reach, replaced
abbrev pub with_meta : Option Bounds → ℕ → Options → Tables → Tables
with_meta bounds issued options all = with_cells table.Meta (meta_values bounds issued options) all

abbrev pub meta_told : Option Bounds → ℕ → Options → Tables → Tables
meta_told bounds issued options all =
    with_meta bounds issued options (without_key table.Meta (natural 1 ∷ []) all)

-- how far the plans reach, replaced if that changes
abbrev pub meta_moved : Change → Option Bounds → ℕ → Options → Tables → Tables
meta_moved change bounds issued options all =
    if is_some change.bounds || is_some change.issued
    then meta_told (or_else change.bounds bounds) (unwrap_or change.issued issued) options all else all

-- what changes beside the definitions, of a content that had these pairs and lists in force and reached so far
abbrev pub plans_written : Content → Change → Tables → Tables
plans_written c change all =
    job_kept change.job
    (meta_moved change c.sets.bounds c.sets.issued c.definitions.options
    (links_moved c.in_force change.in_force (pairs_moved c.pairs change.pairs (rows_moved change all))))

-- the tables of a plan have what that makes of their rows, in the schema that there was
abbrev pub HasRows : (Tables → Tables) → State → State → Type 0
HasRows made old new =
    IsPlan new × (tables_of new.now.trees ≡ made (tables_of old.now.trees)) × (new.now.schema ≡ old.now.schema)

-- if no index was made by hand, and the tables accept it, it fails for one of the four general errors
abbrev pub MayFailWhere : (Tables → Type 0) → State → State → Error → Type 0
MayFailWhere Takes old new e = HasOnlyKeyIndexes old.now.schema → Takes (tables_of old.now.trees) → MayFail old new e

-- what a commit of these rows leaves of a database: its tables have them, no two with one rowid; and where the
-- connection was open it obeys the schema that it had
pub record HoldsWritten (old : State) (rows : Tables) (db : Trees) : Type 0 where
  pub rows_are : tables_of db ≡ rows
  pub rowids : (t : Table) → HaveRowids (tables_of db t)
  pub obeys : IsTrue old.is_open → IsDatabase (record { schema = old.now.schema; trees = db })

-- lists that are in their order stay so, and the reply of the job can be encoded
pub record IsRepresentableChange (change : Change) : Type 0 where
  pub links : (old : List Link) → IsRising link_cmp old → IsRising link_cmp (lists_after change.in_force old)
  pub job : IfSome change.job (λ (job : Job). IsSmall job.reply)
