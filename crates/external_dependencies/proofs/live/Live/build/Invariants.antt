use Rattle.std.proofs.Common.{◌↔◌, take}
use Rattle.std.specs.List.{Contains}
use Rattle.external_dependencies.specs.declared.live.Arrival.{Arrival}
use Rattle.external_dependencies.specs.Nearest.{IsLiveIn}
use Rattle.external_dependencies.proofs.live.Live.build.Given as goal

-- the live ones of the rows so far
abbrev pub invariant-loop-placed : goal.invariant-loop-placed
invariant-loop-placed l = (arrival : Arrival) → Contains l.arrivals.items arrival
    ↔ IsLiveIn (take l.placed-index l.placed-items) arrival
