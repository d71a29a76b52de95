use Rattle.std.proofs.Common.{[], map, refl, Some}
use Rattle.plan_store.specs.AppPairs.{with_others}
use Rattle.plan_store.specs.Contents.{content_of}
use Rattle.plan_store.specs.Listed.{links_at}
use Rattle.plan_store.specs.Listings.{ShowPairs, link_shown}
use Rattle.plan_store.specs.Parts.{with_rest}
use Rattle.plan_store.proofs.AppPairLemmas.{lists_found}
use Rattle.plan_store.proofs.ShownLemmas.{lists_links, shown_all, shown_part}
use Rattle.plan_store.proofs.contents.Content.app_pairs_to.Goals as goal

pub returns-in-Ok-clause-all : goal.returns-in-Ok-clause-all
returns-in-Ok-clause-all g c rest numbered has =
    let content = content_of c.args.self.now in
    let whole = with_rest rest content in
    let app = c.args.app.now in
    let others = c.args.others.now in
    let found = c.in-Ok.found in
    let links = links_at (with_others others content.sets) (Some app) found in
    let h = rw c.as_slice.ensures.all at c.hand_known.ensures.all in
    shown_all g.K.RowSink.accepts g.K.RowSink.refuses c.args.sink.now c.hand_known.new.sink link_shown links
    (ShowPairs (Some app) whole)
    (links, lists_found app rest others content has numbered found c.as_slice.ensures.rising c.in-Ok.ensures, refl)
    c.hand_known.result (h has.ordered)

pub returns-in-Ok-clause-part : goal.returns-in-Ok-clause-part
returns-in-Ok-clause-part g c rest numbered has =
    let content = content_of c.args.self.now in
    let whole = with_rest rest content in
    let app = c.args.app.now in
    let others = c.args.others.now in
    let found = c.in-Ok.found in
    let links = links_at (with_others others content.sets) (Some app) found in
    let h = rw c.as_slice.ensures.all at c.hand_known.ensures.part in
    shown_part g.K.RowSink.accepts g.K.RowSink.refuses c.args.sink.now c.hand_known.new.sink link_shown links
    (ShowPairs (Some app) whole)
    (links, lists_found app rest others content has numbered found c.as_slice.ensures.rising c.in-Ok.ensures, refl)
    c.hand_known.result (h has.ordered)

pub returns-in-Err-clause-part : goal.returns-in-Err-clause-part
returns-in-Err-clause-part g c rest numbered has =
    let whole = with_rest rest (content_of c.args.self.now) in
    let app = Some c.args.app.now in
    let links = links_at whole.sets app whole.pairs in
    record {
      done = [];
      rest = map link_shown links;
      whole = (links, lists_links whole app numbered c.rise.ensures, refl);
      ends = refl;
    }
