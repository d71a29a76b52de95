use Rattle.std.proofs.Common.{[], None, map, refl}
use Rattle.plan_store_lists.specs.Rows.{of_deletion, of_row}
use Rattle.plan_store.specs.Contents.{content_of}
use Rattle.plan_store.specs.Listed.{links_at}
use Rattle.plan_store.specs.Listings.{link_shown}
use Rattle.plan_store.specs.Parts.{rest_of}
use Rattle.plan_store.proofs.AppPairLemmas.{has_own_ends}
use Rattle.plan_store.proofs.SerialLemmas.{lists_set}
use Rattle.plan_store.proofs.ShownLemmas.{lists_links}
use Rattle.plan_store.proofs.contents.Content.listed_pairs_to.Goals as goal

pub returns-in-Some-clause-all : goal.returns-in-Some-clause-all
returns-in-Some-clause-all g c numbered =
    let content = content_of c.args.self.now in
    rw c.in-Some.is (c.app_pairs_to.ensures.all (rest_of content) numbered
    (has_own_ends content c.in-Some.app.now (rest_of content) refl))

pub returns-in-Some-clause-part : goal.returns-in-Some-clause-part
returns-in-Some-clause-part g c numbered =
    let content = content_of c.args.self.now in
    rw c.in-Some.is (c.app_pairs_to.ensures.part (rest_of content) numbered
    (has_own_ends content c.in-Some.app.now (rest_of content) refl))

pub returns-in-Ok-clause-all : goal.returns-in-Ok-clause-all
returns-in-Ok-clause-all g c numbered =
    let kept = c.args.self.now in
    let h = rw (
      c.deref.ensures.value,
      c.in-Ok.ensures.history,
      c.deref-in-Ok.ensures.value,
      c.in-Ok.ensures.deletions,
    ) at c.pairs_to.ensures.all in
    rw c.in-None.is (h (rest_of (content_of kept)) numbered (lists_set of_row kept.history.items kept.history_rows)
    (lists_set of_deletion kept.deletions.items kept.deletion_rows))

pub returns-in-Ok-clause-part : goal.returns-in-Ok-clause-part
returns-in-Ok-clause-part g c numbered =
    let kept = c.args.self.now in
    let h = rw (
      c.deref.ensures.value,
      c.in-Ok.ensures.history,
      c.deref-in-Ok.ensures.value,
      c.in-Ok.ensures.deletions,
    ) at c.pairs_to.ensures.part in
    rw c.in-None.is (h (rest_of (content_of kept)) numbered (lists_set of_row kept.history.items kept.history_rows)
    (lists_set of_deletion kept.deletions.items kept.deletion_rows))

pub returns-in-Err-clause-part : goal.returns-in-Err-clause-part
returns-in-Err-clause-part g c numbered =
    let whole = content_of c.args.self.now in
    let links = links_at whole.sets None whole.pairs in
    rw c.in-None.is (record {
      done = [];
      rest = map link_shown links;
      whole = (links, lists_links whole None numbered c.rise.ensures, refl);
      ends = refl;
    })
