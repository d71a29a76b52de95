use Rattle.std.proofs.Common.{◌↔◌, ℕ, ◌⊎◌, Contains, take}
use Rattle.external_dependencies.specs.Reached.{HasSerialOf}
use Rattle.external_dependencies.specs.Touch.{HasRowOf}
use Rattle.external_dependencies.proofs.repair.serials_of.Given as goal

-- the serials of the rows so far
abbrev pub invariant-loop-placed : goal.invariant-loop-placed
invariant-loop-placed l = (n : ℕ) → Contains l.serials.items n
    ↔ (HasSerialOf (take l.placed-index l.rows) n ⊎ HasRowOf l.more n)
