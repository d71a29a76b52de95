use Rattle.std.proofs.Common.{◌≤◌, length, take}
use Rattle.run_cycles.specs.Searches.{KeepsWithin}
use Rattle.run_cycles.proofs.jump.offsets_within.Given as goal

abbrev pub invariant-loop-offset : goal.invariant-loop-offset
invariant-loop-offset l =
    KeepsWithin l.reach (take l.offset-index l.offsets) l.kept.items × (length l.kept.items ≤ l.offset-index)
