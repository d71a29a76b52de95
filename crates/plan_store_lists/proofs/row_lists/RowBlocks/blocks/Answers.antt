use Rattle.std.proofs.Common.{ℕ, List, subst}
use Rattle.std.specs.List.{Contains}
use Rattle.plan_store_lists.specs.declared.blocks.Block.{Block}
use Rattle.plan_store_lists.proofs.row_lists.RowBlocks.blocks.Goals as goal

pub returns-clause-one : goal.returns-clause-one
returns-clause-one g c block x at there =
    c.self.invariant.blocks.grouped block
    (subst (λ (bs : List (Block (List ℕ) g.row.T.Denot)). Contains bs block) c.blocks-2.ensures at) x there
