use Rattle.std.proofs.Common.{◌≡◌, take, map}
use Rattle.std.specs.Prelude.{All}
use Rattle.app_definition_records.specs.CycleRecords.{IsOffsetText, offset_value, pieces_of}
use Rattle.app_definition_records.proofs.cycle_records.offsets_of.Given as goal

abbrev pub invariant-loop-piece : goal.invariant-loop-piece
invariant-loop-piece l =
    (map (λ piece. piece.now) l.piece-items ≡ pieces_of l.bytes)
    × All IsOffsetText (take l.piece-index (pieces_of l.bytes))
    × (l.items.items ≡ map offset_value (take l.piece-index (pieces_of l.bytes)))
