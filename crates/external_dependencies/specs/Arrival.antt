-- Arrivals of live occurrences, and their order.
use Rattle.std.specs.Prelude.{◌≡◌, ◌<◌, ◌⊎◌}
use Rattle.std.specs.declared.cmp.Ordering.{Ordering}
use Rattle.std.specs.Ordering.{nat_cmp, ordering_then}
use Rattle.std.specs.Cmp.Lexicographic.{slice_cmp}
use Rattle.occurrences.specs.Key.{ByteBefore}
use Rattle.external_dependencies.specs.declared.live.Arrival.{Arrival}

-- by application in byte order, then by input arrival, then by serial
abbrev pub arrival_cmp : Arrival → Arrival → Ordering
arrival_cmp a b =
    ordering_then (slice_cmp nat_cmp a.app b.app) (ordering_then (nat_cmp a.ia b.ia) (nat_cmp a.serial b.serial))

-- the first arrival comes before the second: by application in byte order, then by input arrival, then by serial
abbrev pub ArrivalBefore : Arrival → Arrival → Type 0
ArrivalBefore a b =
    ByteBefore a.app b.app
    ⊎ ((a.app ≡ b.app) × ((a.ia < b.ia) ⊎ ((a.ia ≡ b.ia) × (a.serial < b.serial))))
