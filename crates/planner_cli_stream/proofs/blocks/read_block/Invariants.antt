-- data have been read up to here, a byte at least each turn, and their front is in the block
use Rattle.std.specs.Prelude.{◌-◌, ◌≤◌, length, max, vec_capacity, IfSome}
use Rattle.planner_cli_stream.specs.Items.{block_room, end_room}
use Rattle.planner_cli_stream.specs.Readers.{Measures}
use Rattle.planner_cli_stream.proofs.Parts.{Reading}
use Rattle.planner_cli_stream.proofs.blocks.read_block.Given as goal

abbrev pub invariant-loop-turn : goal.invariant-loop-turn
invariant-loop-turn g l =
    IfSome (g.R.Read.remaining l.initial.reader) (λ xs. Reading xs (g.R.Read.remaining l.reader) l.block.items)
    × (length l.line.items ≤ max end_room (length l.initial.line.items))
    × (length l.block.items ≤ block_room) × (l.left ≤ l.initial.left - l._turn)
    × Measures (g.R.Read.remaining l.initial.reader) (g.R.Read.remaining l.reader) l.initial.left l.left
    × (vec_capacity l.initial.line ≤ vec_capacity l.line) × (vec_capacity l.initial.block ≤ vec_capacity l.block)
