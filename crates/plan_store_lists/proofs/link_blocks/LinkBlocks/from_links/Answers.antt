use Rattle.plan_store_lists.specs.Blocks.{items_of}
use Rattle.plan_store_lists.proofs.LinkBlockLemmas.{links_rising, links_unique}
use Rattle.plan_store_lists.proofs.link_blocks.LinkBlocks.from_links.Goals as goal

pub invariant_of-result : goal.invariant_of-result
invariant_of-result c = record {
  links = c.in_ok-by_app.ensures.blocks;
  namings = c.in_ok-by_predecessor.ensures.blocks;
  same = λ naming.
      let turned = (rw c.deref.ensures.value at c.in_ok-by_predecessor.ensures.same) naming in
      let named = (rw c.as_slice-2.ensures.all at c.in_ok-namings.ensures.all) naming in
      let listed = (rw c.as_slice.ensures.all at c.in_ok-by_app.ensures.same) naming.link in (
        (λ there. listed.1 (named.0 (turned.0 there))),
        λ there. turned.1 (named.1 (listed.0 there)),
      );
}

pub returns : goal.returns
returns c = links_unique (items_of c.in_ok-by_app.by_app) c.args.links.now
    (links_rising c.in_ok-by_app.by_app.blocks.items c.in_ok-by_app.ensures.blocks) c.as_slice.ensures.rising
    (rw c.as_slice.ensures.all at c.in_ok-by_app.ensures.same)
