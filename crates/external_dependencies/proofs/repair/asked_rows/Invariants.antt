use Rattle.std.proofs.Common.{take}
use Rattle.external_dependencies.specs.Reach.{IsReachOf}
use Rattle.external_dependencies.specs.Reached.{AreAsked}
use Rattle.external_dependencies.specs.declared.touch.Touch.{Touch}
use Rattle.external_dependencies.proofs.repair.asked_rows.Given as goal

-- those of the rows so far
abbrev pub invariant-loop-placed : goal.invariant-loop-placed
invariant-loop-placed l = (touch : Touch) → IsReachOf touch l.reach
    → AreAsked touch l.links (take l.placed-index l.placed-items) l.asked.items
