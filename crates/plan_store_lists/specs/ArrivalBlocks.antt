-- Arrivals in blocks: one for each application.
use Rattle.std.proofs.Common.{ap}
use Rattle.std.specs.Prelude.{◌≡◌, ℕ, List}
use Rattle.std.specs.Cmp.Lexicographic.{slice_cmp}
use Rattle.std.specs.Ordering.{nat_cmp, ordering_then}
use Rattle.std.specs.declared.cmp.Ordering.TheVariants.{Less}
use Rattle.external_dependencies.specs.Arrival.{arrival_cmp}
use Rattle.external_dependencies.specs.declared.live.Arrival.{Arrival}
use Rattle.plan_store_lists.specs.Blocks.{AreBlocks}
use Rattle.plan_store_lists.specs.declared.blocks.Blocks.{Blocks}

-- these blocks are of arrivals
abbrev pub AreArrivalBlocks : Blocks (List ℕ) Arrival → Type 0
AreArrivalBlocks list =
    AreBlocks (slice_cmp nat_cmp) arrival_cmp (λ (a : Arrival). a.app) (λ (a : Arrival). a) list.blocks.items

-- blocks rise with arrivals
pub arrivals_rise : (x y : Arrival) → slice_cmp nat_cmp x.app y.app ≡ Less → arrival_cmp x y ≡ Less
arrivals_rise x y less =
    ap (λ o. ordering_then o (ordering_then (nat_cmp x.ia y.ia) (nat_cmp x.serial y.serial))) less
