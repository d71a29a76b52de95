use Rattle.std.proofs.Common.{subst}
use Rattle.external_dependencies.specs.Link.{link_cmp}
use Rattle.external_dependencies.specs.Rising.{IsRising}
use Rattle.plan_store_lists.specs.LinkBlocks.{LinkList}
use Rattle.plan_store_lists.proofs.LinkBlockLemmas.{links_rising}
use Rattle.plan_store_lists.proofs.link_blocks.LinkBlocks.rise.Goals as goal

pub returns : goal.returns
returns c = subst (λ (v : LinkList). IsRising link_cmp v.items) c.self.view_is
    (links_rising c.self.inside.by_app.blocks.items c.self.invariant.links)
