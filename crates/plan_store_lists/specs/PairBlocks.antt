-- Pairs in blocks: one for every 256 serials of successors.
use Rattle.std.proofs.Common.{ap}
use Rattle.std.specs.Prelude.{◌≡◌, ℕ, List}
use Rattle.std.specs.Ordering.{nat_cmp, ordering_then}
use Rattle.std.specs.declared.cmp.Ordering.TheVariants.{Less}
use Rattle.external_dependencies.specs.Pair.{pair_cmp}
use Rattle.external_dependencies.specs.declared.pairs.Pair.{Pair}
use Rattle.plan_store_lists.specs.Blocks.{AreBlocks, HasRoomFor}
use Rattle.plan_store_lists.specs.Groups.{group_below, serial_group}
use Rattle.plan_store_lists.specs.declared.blocks.Blocks.{Blocks}

-- the block of a pair
abbrev pub pair_group : Pair → ℕ
pair_group pair = serial_group pair.successor

-- these blocks are of pairs
abbrev pub ArePairBlocks : Blocks ℕ Pair → Type 0
ArePairBlocks list = AreBlocks nat_cmp pair_cmp pair_group (λ (pair : Pair). pair) list.blocks.items

-- the blocks have room for these pairs
abbrev pub HasPairRoom : List Pair → Blocks ℕ Pair → Type 0
HasPairRoom pairs list = HasRoomFor nat_cmp pair_group pairs list.blocks.items

-- blocks rise with pairs
pub groups_rise : (x y : Pair) → nat_cmp (pair_group x) (pair_group y) ≡ Less → pair_cmp x y ≡ Less
groups_rise x y less =
    ap (λ o. ordering_then o (nat_cmp x.predecessor y.predecessor)) (group_below x.successor y.successor less)
