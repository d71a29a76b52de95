-- What the statements of a change of definitions make of their tables.
use Rattle.std.specs.Prelude.{◌≡◌, ◌↔◌, ℕ, List, [], ◌∷◌, Contains, Option, Some, None, ⊤}
use Rattle.sqlite.specs.Order.{Row as Values}
use Rattle.sqlite.specs.declared.types.Value.TheVariants.{Text}
use Rattle.app_definition_records.specs.ByName.{AreNamesOf}
use Rattle.app_definitions.specs.declared.kinds.Block.{Block}
use Rattle.app_definitions.specs.declared.kinds.Block.TheVariants as block
use Rattle.app_definitions.specs.declared.kinds.Kind.{Kind}
use Rattle.app_definitions.specs.declared.kinds.Kind.TheVariants as kind
use Rattle.app_definitions.specs.declared.options.Options.{Options}
use Rattle.planner_machine.specs.Content.{Content}
use Rattle.planner_machine.specs.declared.content.Bounds.{Bounds}
use Rattle.plan_tables_schema.specs.Rows.{IsAlone, Tables}
use Rattle.plan_tables_schema.specs.declared.tables.Table.{Table}
use Rattle.plan_tables_schema.specs.declared.tables.Table.TheVariants as table
use Rattle.plan_store.specs.declared.changes.Change.{Change}
use Rattle.plan_store.specs.declared.changes.DefinitionChange.{DefinitionChange}
use Rattle.plan_store.specs.declared.changes.DefinitionChange.TheVariants.{AsBefore, Merged, Removed}
use Rattle.plan_tables_definitions.specs.Adding.{HaveOwnKeys}
use Rattle.plan_tables_definitions.specs.Storing.{IsStorable}
use Rattle.plan_tables_definitions.specs.Representable.{IsRepresentableBlock}
use Rattle.plan_tables_content.specs.Content.{ByName, IsApplicationRow, IsOfSome}
use Rattle.plan_tables_content.specs.Facts.{IsCalendarRow, IsCycleRow, IsOffsetRow, IsPeriodRow, IsPredecessorRow}
use Rattle.plan_tables_writing.specs.Writing.{meta_told, plans_written, with_each, without_each}
use Rattle.plan_tables_writing.specs.declared.redefining.DefinitionMoves.{DefinitionMoves}

-- the key by which the rows of a name are found
abbrev pub name_key : List ℕ → Values
name_key name = Text name ∷ []

abbrev pub rows_of : Values → Values
rows_of row = row

-- without the rows of these names, and with these rows
abbrev pub renewed : Table → List (List ℕ) → List Values → Tables → Tables
renewed t names rows all = with_each t rows_of rows (without_each t name_key names all)

-- run cycles are deleted after their offsets, and inserted before them
abbrev pub cycles_gone : List (List ℕ) → Tables → Tables
cycles_gone names all = without_each table.RunCycle name_key names (without_each table.Offset name_key names all)

abbrev pub cycles_put : List Values → List Values → Tables → Tables
cycles_put cycles offsets all = with_each table.Offset rows_of offsets (with_each table.RunCycle rows_of cycles all)

abbrev pub cycles_renewed : List (List ℕ) → List Values → List Values → Tables → Tables
cycles_renewed names cycles offsets all = cycles_put cycles offsets (cycles_gone names all)

-- of one kind; the options are the new ones
abbrev pub kind_moved : Kind → Option Bounds → ℕ → Options → DefinitionMoves → Tables → Tables
kind_moved kind.Applications bounds issued options moves all =
    renewed table.Application moves.names.items moves.rows.items all
kind_moved kind.Calendars bounds issued options moves all =
    renewed table.CalendarEntry moves.names.items moves.rows.items all
kind_moved kind.Periods bounds issued options moves all =
    renewed table.Period moves.names.items moves.rows.items all
kind_moved kind.Predecessors bounds issued options moves all =
    renewed table.Predecessor moves.names.items moves.rows.items all
kind_moved kind.RunCycles bounds issued options moves all =
    cycles_renewed moves.names.items moves.rows.items moves.offsets.items all
kind_moved kind.Options bounds issued options moves all = meta_told bounds issued options all

abbrev pub moved_by : Option Kind → Option Bounds → ℕ → Options → DefinitionMoves → Tables → Tables
moved_by None bounds issued options moves all = all
moved_by (Some k) bounds issued options moves all = kind_moved k bounds issued options moves all

abbrev pub definitions_moved : Option Bounds → ℕ → Options → DefinitionMoves → Tables → Tables
definitions_moved bounds issued options moves all = moved_by moves.kind bounds issued options moves all

-- a whole change; the content has the new options
abbrev pub written : Content → DefinitionMoves → Change → Tables → Tables
written c moves change all = plans_written c change
    (definitions_moved c.sets.bounds c.sets.issued c.definitions.options moves all)

-- ---- whether those are the moves of a change

-- the names and the rows of these definitions; no two rows have the same first cells
pub record AreRowsOf {D : Type 0} (cells : ℕ) (IsRow : List ℕ → D → Values → Type 0) (definitions : ByName D)
    (names : List (List ℕ)) (rows : List Values) : Type 0 where
  pub names_are : AreNamesOf names definitions
  pub rows_are : (values : Values) → Contains rows values ↔ IsOfSome IsRow definitions values
  pub own : HaveOwnKeys cells rows

-- of one kind the names and the rows that a block brings
abbrev pub BringsRows : Block → DefinitionMoves → Type 0
BringsRows (block.Applications more) moves = AreRowsOf 1 IsApplicationRow more moves.names.items moves.rows.items
BringsRows (block.Calendars more) moves = AreRowsOf 3 IsCalendarRow more moves.names.items moves.rows.items
BringsRows (block.Periods more) moves = AreRowsOf 2 IsPeriodRow more moves.names.items moves.rows.items
BringsRows (block.Predecessors more) moves = AreRowsOf 2 IsPredecessorRow more moves.names.items moves.rows.items
BringsRows (block.RunCycles more) moves =
    AreRowsOf 2 IsCycleRow more moves.names.items moves.rows.items
    × AreRowsOf 3 IsOffsetRow more moves.names.items moves.offsets.items
BringsRows (block.Options given) moves = ⊤

abbrev pub kind_of : Block → Kind
kind_of (block.Applications more) = kind.Applications
kind_of (block.Calendars more) = kind.Calendars
kind_of (block.Periods more) = kind.Periods
kind_of (block.Predecessors more) = kind.Predecessors
kind_of (block.RunCycles more) = kind.RunCycles
kind_of (block.Options given) = kind.Options

-- what a change of definitions changes in the tables
abbrev pub AreMovesOf : DefinitionChange → DefinitionMoves → Type 0
AreMovesOf AsBefore moves = moves.kind ≡ None
AreMovesOf (Merged b) moves = (moves.kind ≡ Some (kind_of b)) × BringsRows b moves × IsRepresentableBlock b
AreMovesOf (Removed k name) moves = (moves.kind ≡ Some k) × (moves.names.items ≡ name ∷ []) × (moves.rows.items ≡ [])
    × (moves.offsets.items ≡ [])

-- ---- whether they can be stored

-- the rows can be stored in the table
abbrev pub AreRowsFor : Table → List Values → Type 0
AreRowsFor t rows = (values : Values) → Contains rows values → IsStorable t values

-- no row of another table is deleted with a row of one of these names
abbrev pub AreAlone : Table → List (List ℕ) → Tables → Type 0
AreAlone t names all = (name : List ℕ) → Contains names name → IsAlone t (name_key name) all

abbrev pub CanStore : Option Kind → DefinitionMoves → Type 0
CanStore None moves = ⊤
CanStore (Some kind.Applications) moves = AreRowsFor table.Application moves.rows.items
CanStore (Some kind.Calendars) moves = AreRowsFor table.CalendarEntry moves.rows.items
CanStore (Some kind.Periods) moves = AreRowsFor table.Period moves.rows.items
CanStore (Some kind.Predecessors) moves = AreRowsFor table.Predecessor moves.rows.items
CanStore (Some kind.RunCycles) moves = AreRowsFor table.RunCycle moves.rows.items
    × AreRowsFor table.Offset moves.offsets.items
CanStore (Some kind.Options) moves = ⊤

-- the rows of the moves can be stored
abbrev pub AreStorableMoves : DefinitionMoves → Type 0
AreStorableMoves moves = CanStore moves.kind moves
