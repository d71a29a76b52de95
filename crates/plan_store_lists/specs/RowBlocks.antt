-- Rows in blocks: one for each application.
use Rattle.std.proofs.Common.{ap}
use Rattle.std.specs.Prelude.{◌≡◌, ℕ, List}
use Rattle.std.specs.Cmp.Lexicographic.{slice_cmp}
use Rattle.std.specs.Ordering.{nat_cmp, ordering_then}
use Rattle.std.specs.declared.cmp.Ordering.TheVariants.{Less}
use Rattle.occurrences.specs.declared.row.Row.{Row}
use Rattle.external_dependencies.specs.Arrival.{arrival_cmp}
use Rattle.external_dependencies.specs.Nearest.{arrival_of}
use Rattle.plan_store_lists.specs.Blocks.{AreBlocks, HasRoomFor}
use Rattle.plan_store_lists.specs.declared.blocks.Blocks.{Blocks}

-- these blocks are of rows
abbrev pub AreRowBlocks : {X : Type 0} → (X → Row) → Blocks (List ℕ) X → Type 0
AreRowBlocks row_of list = AreBlocks (slice_cmp nat_cmp) arrival_cmp (λ x. (row_of x).key.app)
    (λ x. arrival_of (row_of x)) list.blocks.items

-- the blocks have room for these rows
abbrev pub HasRoomForRows : {X : Type 0} → (X → Row) → List X → Blocks (List ℕ) X → Type 0
HasRoomForRows row_of rows list = HasRoomFor (slice_cmp nat_cmp) (λ x. (row_of x).key.app) rows list.blocks.items

-- blocks rise with rows
pub apps_rise : (x y : Row) → slice_cmp nat_cmp x.key.app y.key.app ≡ Less
    → arrival_cmp (arrival_of x) (arrival_of y) ≡ Less
apps_rise x y less =
    ap (λ o. ordering_then o (ordering_then (nat_cmp x.key.ia y.key.ia) (nat_cmp x.serial y.serial))) less
