use Rattle.std.proofs.Common.{subst}
use Rattle.std.specs.Ordering.{nat_cmp}
use Rattle.external_dependencies.specs.Pair.{pair_cmp}
use Rattle.external_dependencies.specs.Rising.{IsRising}
use Rattle.external_dependencies.specs.declared.pairs.Pair.{Pair}
use Rattle.plan_store_lists.specs.PairBlocks.{groups_rise, pair_group}
use Rattle.plan_store_lists.proofs.BlockLemmas.{blocks_keyed}
use Rattle.plan_store_lists.proofs.pair_blocks.PairBlocks.rise.Goals as goal

pub returns : goal.returns
returns c = subst (IsRising pair_cmp) c.self.view_is
    (blocks_keyed nat_cmp pair_cmp pair_group (λ (pair : Pair). pair) c.self.inside.blocks.blocks.items
    c.self.invariant groups_rise)
