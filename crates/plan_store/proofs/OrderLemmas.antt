-- The order of arrivals.
use Rattle.std.proofs.lemmas.Cmp.{nat_list_cmp_total, nat_cmp_total, on_total, then_total}
use Rattle.std.specs.Cmp.{IsTotalOrder}
use Rattle.external_dependencies.specs.Arrival.{arrival_cmp}
use Rattle.external_dependencies.specs.declared.live.Arrival.{Arrival}

pub arrival_total : IsTotalOrder arrival_cmp
arrival_total =
    then_total (on_total (λ (a : Arrival). a.app) nat_list_cmp_total)
    (then_total (on_total (λ (a : Arrival). a.ia) nat_cmp_total) (on_total (λ (a : Arrival). a.serial) nat_cmp_total))
