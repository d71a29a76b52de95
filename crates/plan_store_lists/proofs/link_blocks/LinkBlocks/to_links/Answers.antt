use Rattle.std.proofs.Common.{◌∙◌, List, ap, subst}
use Rattle.external_dependencies.specs.Link.{KeepsNames}
use Rattle.external_dependencies.specs.declared.links.Link.{Link}
use Rattle.plan_store_lists.specs.Blocks.{items_in}
use Rattle.plan_store_lists.specs.LinkBlocks.{LinkList}
use Rattle.plan_store_lists.proofs.LinkBlockLemmas.{kept_among, links_rising, links_unique}
use Rattle.plan_store_lists.proofs.link_blocks.LinkBlocks.to_links.Goals as goal

pub returns : goal.returns
returns c =
    let items = items_in c.self.inside.by_app.blocks.items in
    let rising = links_rising c.self.inside.by_app.blocks.items c.self.invariant.links in
    let kept : KeepsNames items c.from_vec.result = subst (λ (links : List Link). KeepsNames links c.from_vec.result)
    c.in_ok-all_of.ensures c.from_vec.ensures.kept in
    links_unique c.from_vec.result items c.from_vec.ensures.rising rising
    (kept_among items items c.from_vec.result rising (λ link there. there) kept)
    ∙ ap (λ (v : LinkList). v.items) c.self.view_is
