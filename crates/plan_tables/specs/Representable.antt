-- Changes of definitions that tables can encode.
use Rattle.std.specs.Prelude.{◌≡◌, [], ◌∷◌, None, Some, ⊤}
use Rattle.plan_store.specs.declared.changes.DefinitionChange.{DefinitionChange}
use Rattle.plan_store.specs.declared.changes.DefinitionChange.TheVariants.{AsBefore, Merged, Removed}
use Rattle.plan_tables_definitions.specs.Representable.{IsRepresentableBlock}
use Rattle.plan_tables_writing.specs.Redefining.{BringsRows, kind_of}
use Rattle.plan_tables_writing.specs.declared.redefining.DefinitionMoves.{DefinitionMoves}

-- the rows of what a block brings distinguish it from all else
abbrev pub IsToldChange : DefinitionChange → Type 0
IsToldChange AsBefore = ⊤
IsToldChange (Merged block) = IsRepresentableBlock block
IsToldChange (Removed kind name) = ⊤

-- the changes in the tables for a change of definitions, whether rows can encode it or not
abbrev pub BringMoves : DefinitionChange → DefinitionMoves → Type 0
BringMoves AsBefore moves = moves.kind ≡ None
BringMoves (Merged b) moves = (moves.kind ≡ Some (kind_of b)) × BringsRows b moves
BringMoves (Removed k name) moves = (moves.kind ≡ Some k) × (moves.names.items ≡ name ∷ []) × (moves.rows.items ≡ [])
    × (moves.offsets.items ≡ [])
