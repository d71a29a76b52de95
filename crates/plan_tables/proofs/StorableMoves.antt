-- What moves for a change of definitions can be stored.
use Rattle.std.proofs.Common.{◌≡◌, ℕ, List, [], sym, subst, Option, Some}
use Rattle.std.specs.List.{Contains}
use Rattle.sqlite.specs.Order.{Row as Values}
use Rattle.app_definitions.specs.declared.kinds.Block.{Block}
use Rattle.app_definitions.specs.declared.kinds.Block.TheVariants as block
use Rattle.app_definitions.specs.declared.kinds.Kind.{Kind}
use Rattle.app_definitions.specs.declared.kinds.Kind.TheVariants as kind
use Rattle.plan_store_lists.proofs.KeyLemmas.{nothing}
use Rattle.plan_tables_schema.specs.declared.tables.Table.{Table}
use Rattle.plan_store.specs.declared.changes.DefinitionChange.{DefinitionChange}
use Rattle.plan_store.specs.declared.changes.DefinitionChange.TheVariants.{AsBefore, Merged, Removed}
use Rattle.plan_tables_definitions.specs.Storing.{IsStorable}
use Rattle.plan_tables_definitions.proofs.StorableRows.{applications_storable, calendars_storable, cycles_storable}
use Rattle.plan_tables_definitions.proofs.StorableRows.{offsets_storable, periods_storable, predecessors_storable}
use Rattle.plan_tables_content.specs.Content.{ByName, IsOfSome}
use Rattle.plan_tables_writing.specs.Redefining.{AreMovesOf, AreRowsFor, AreRowsOf, AreStorableMoves, BringsRows, CanStore}
use Rattle.plan_tables_writing.specs.Redefining.{kind_of}
use Rattle.plan_tables_writing.specs.declared.redefining.DefinitionMoves.{DefinitionMoves}
use Rattle.plan_tables.specs.Representable.{BringMoves, IsToldChange}

rows_for : {D : Type 0} {cells : ℕ} (t : Table) (IsRow : List ℕ → D → Values → Type 0) (all : ByName D)
    (names : List (List ℕ)) (rows : List Values)
    → ((v : Values) → IsOfSome IsRow all v → IsStorable t v) → AreRowsOf cells IsRow all names rows → AreRowsFor t rows
rows_for t IsRow all names rows storable are v has = storable v ((are.rows_are v).0 has)

none_for : (t : Table) (rows : List Values) → rows ≡ [] → AreRowsFor t rows
none_for t rows none v has = absurd (nothing v (subst (λ (xs : List Values). Contains xs v) none has))

block_storable : (b : Block) (moves : DefinitionMoves) → BringsRows b moves → CanStore (Some (kind_of b)) moves
block_storable (block.Applications more) moves are = rows_for _ _ more _ _ (applications_storable more) are
block_storable (block.Calendars more) moves are = rows_for _ _ more _ _ (calendars_storable more) are
block_storable (block.Periods more) moves are = rows_for _ _ more _ _ (periods_storable more) are
block_storable (block.Predecessors more) moves are = rows_for _ _ more _ _ (predecessors_storable more) are
block_storable (block.RunCycles more) moves are =
    (rows_for _ _ more _ _ (cycles_storable more) are.0, rows_for _ _ more _ _ (offsets_storable more) are.1)
block_storable (block.Options given) moves are = tt

removed_storable : (k : Kind) (moves : DefinitionMoves) → moves.rows.items ≡ [] → moves.offsets.items ≡ []
    → CanStore (Some k) moves
removed_storable kind.Applications moves none no_offsets = none_for _ moves.rows.items none
removed_storable kind.Calendars moves none no_offsets = none_for _ moves.rows.items none
removed_storable kind.Periods moves none no_offsets = none_for _ moves.rows.items none
removed_storable kind.Predecessors moves none no_offsets = none_for _ moves.rows.items none
removed_storable kind.RunCycles moves none no_offsets =
    (none_for _ moves.rows.items none, none_for _ moves.offsets.items no_offsets)
removed_storable kind.Options moves none no_offsets = tt

pub storable_moves : (change : DefinitionChange) (moves : DefinitionMoves) → BringMoves change moves
    → AreStorableMoves moves
storable_moves AsBefore moves none = subst (λ (k : Option Kind). CanStore k moves) (sym none) tt
storable_moves (Merged b) moves (at, are) =
    subst (λ (k : Option Kind). CanStore k moves) (sym at) (block_storable b moves are)
storable_moves (Removed k name) moves (at, one, none, no_offsets) =
    subst (λ (o : Option Kind). CanStore o moves) (sym at) (removed_storable k moves none no_offsets)

-- and they are those of the change, where this can be told
pub told_moves : (change : DefinitionChange) (moves : DefinitionMoves) → BringMoves change moves → IsToldChange change
    → AreMovesOf change moves
told_moves AsBefore moves is told = is
told_moves (Merged b) moves (at, are) told = (at, are, told)
told_moves (Removed k name) moves is told = is
