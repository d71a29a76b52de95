use Rattle.std.proofs.Common.{ap}
use Rattle.std.specs.FinMap as map
use Rattle.std.specs.Ordering.{nat_cmp}
use Rattle.plan_tables_definitions.proofs.PlaceLemmas.{ends_empty}
use Rattle.plan_tables_definitions.proofs.places.Places.new.Goals as goal

pub invariant_of-result : goal.invariant_of-result
invariant_of-result g c = ends_empty _ (ap (λ es. map.from_entries {R = nat_cmp} es) c.new.ensures.empty)
