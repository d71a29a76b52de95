use Rattle.std.proofs.Common.{◌≡◌, map, take}
use Rattle.plan_tables_definitions.specs.WholeCycles.{cycle_of}
use Rattle.plan_tables_definitions.proofs.whole_cycles.cycles_with.Given as goal

abbrev pub invariant-loop-part : goal.invariant-loop-part
invariant-loop-part l = l.cycles.items ≡ map cycle_of (take l.part-index l.parts)
