-- Changes that tables accept because of what their content is.
use Rattle.std.specs.Prelude.{IfSome, List, length, ⊤}
use Rattle.app_definitions.specs.declared.kinds.Kind.{Kind}
use Rattle.app_definitions.specs.declared.kinds.Kind.TheVariants as kind
use Rattle.external_dependencies.specs.Pair.{pair_cmp}
use Rattle.external_dependencies.specs.Rising.{IsRising}
use Rattle.external_dependencies.specs.declared.links.Link.{Link}
use Rattle.planner_machine.specs.Content.{Content}
use Rattle.planner_machine.specs.Sound.{IsSound}
use Rattle.plan_store.specs.Changes.{Fits, after, redefined}
use Rattle.plan_store.specs.Room.{with_definitions}
use Rattle.plan_store.specs.declared.changes.Change.{Change}
use Rattle.plan_store.specs.declared.changes.DefinitionChange.{DefinitionChange}
use Rattle.plan_store.specs.declared.changes.DefinitionChange.TheVariants.{Merged}
use Rattle.plan_store.specs.declared.changes.NewLists.{NewLists}
use Rattle.plan_store.specs.declared.changes.NewLists.TheVariants as new_lists
use Rattle.plan_tables_schema.specs.Rows.{Tables}
use Rattle.plan_tables_schema.specs.declared.tables.Table.TheVariants as table
use Rattle.plan_tables_content.specs.Content.{IsContentOf}
use Rattle.plan_tables_writing.specs.Redefining.{AreMovesOf, kind_of}
use Rattle.plan_tables_writing.specs.Accepted.{AcceptsChange}
use Rattle.plan_tables_writing.specs.Writing.{IsRepresentableChange}
use Rattle.plan_tables_writing.specs.declared.redefining.DefinitionMoves.{DefinitionMoves}
use Rattle.plan_tables_constraints.specs.Room.{CanBeStored, HaveRoom}

-- the tables of a content accept its change, whichever rows encode the definitions that it brings
abbrev pub AreAccepted : Content → Change → Tables → Type 0
AreAccepted c change all = (moves : DefinitionMoves) → AreMovesOf change.definitions moves
    → AcceptsChange (with_definitions (redefined change.definitions c.definitions) c) moves change all

-- there is room for the rows of one kind of definitions
abbrev pub FindKind : Kind → DefinitionMoves → Tables → Type 0
FindKind kind.Applications moves all = HaveRoom (length moves.rows.items) (all table.Application)
FindKind kind.Calendars moves all = HaveRoom (length moves.rows.items) (all table.CalendarEntry)
FindKind kind.Periods moves all = HaveRoom (length moves.rows.items) (all table.Period)
FindKind kind.Predecessors moves all = HaveRoom (length moves.rows.items) (all table.Predecessor)
FindKind kind.RunCycles moves all = HaveRoom (length moves.rows.items) (all table.RunCycle)
    × HaveRoom (length moves.offsets.items) (all table.Offset)
FindKind kind.Options moves all = ⊤

-- and for those that a change of definitions brings
abbrev pub FindMoves : DefinitionChange → DefinitionMoves → Tables → Type 0
FindMoves (Merged b) moves all = FindKind (kind_of b) moves all
FindMoves _ moves all = ⊤

-- the links that new lists bring
abbrev pub links_brought : NewLists → List Link
links_brought (new_lists.All lists) = lists.items
links_brought (new_lists.One list) = list.links.items

-- there is room for what a change puts into tables that number their rows, and its job can be stored
pub record FindsRoom (change : Change) (all : Tables) : Type 0 where
  pub rows : (moves : DefinitionMoves) → AreMovesOf change.definitions moves → FindMoves change.definitions moves all
  pub pairs : HaveRoom (length change.pairs.added) (all table.Dependency)
  pub links : IfSome change.in_force (λ (lists : NewLists). HaveRoom (length (links_brought lists)) (all table.LinkInForce))
  pub job : IfSome change.job CanBeStored

-- the tables of a content accept a change that fits it, leaves it sound and has room
abbrev pub FittingIsAccepted : Type 0
FittingIsAccepted = (all : Tables) (c : Content) (change : Change) → IsContentOf all c → Fits change c
    → IsSound (after change c) → IsRepresentableChange change → IsRising pair_cmp change.pairs.added → FindsRoom change all
    → AreAccepted c change all
