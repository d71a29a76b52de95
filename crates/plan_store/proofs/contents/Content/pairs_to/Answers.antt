use Rattle.std.proofs.Common.{[], map, refl}
use Rattle.std.specs.Prelude.{option_copied}
use Rattle.plan_store.specs.Contents.{content_of}
use Rattle.plan_store.specs.Listed.{links_at}
use Rattle.plan_store.specs.Listings.{ShowPairs, link_shown}
use Rattle.plan_store.specs.Parts.{with_rest}
use Rattle.plan_store.proofs.ShownLemmas.{lists_links, shown_all, shown_part}
use Rattle.plan_store.proofs.contents.Content.pairs_to.Goals as goal

pub returns-in-Ok-by_serial-clause-all : goal.returns-in-Ok-by_serial-clause-all
returns-in-Ok-by_serial-clause-all g c rest numbered history deletions =
    let whole = with_rest rest (content_of c.args.self.now) in
    let app = option_copied c.args.app in
    let links = links_at whole.sets app whole.pairs in
    let h = rw (c.deref.ensures.value, c.deref-in-Ok-by_serial.ensures.value, c.in-Ok.ensures) at c.emit_links.ensures.all in
    shown_all g.K.RowSink.accepts g.K.RowSink.refuses c.args.sink.now c.emit_links.new.sink link_shown links
    (ShowPairs app whole) (links, lists_links whole app numbered c.rise.ensures, refl)
    c.emit_links.result (h whole.sets numbered (c.in-Ok-by_serial.ensures rest numbered history deletions))

pub returns-in-Ok-by_serial-clause-part : goal.returns-in-Ok-by_serial-clause-part
returns-in-Ok-by_serial-clause-part g c rest numbered history deletions =
    let whole = with_rest rest (content_of c.args.self.now) in
    let app = option_copied c.args.app in
    let links = links_at whole.sets app whole.pairs in
    let h = rw (c.deref.ensures.value, c.deref-in-Ok-by_serial.ensures.value, c.in-Ok.ensures) at c.emit_links.ensures.part in
    shown_part g.K.RowSink.accepts g.K.RowSink.refuses c.args.sink.now c.emit_links.new.sink link_shown links
    (ShowPairs app whole) (links, lists_links whole app numbered c.rise.ensures, refl)
    c.emit_links.result (h whole.sets numbered (c.in-Ok-by_serial.ensures rest numbered history deletions))

pub returns-in_default-clause-part : goal.returns-in_default-clause-part
returns-in_default-clause-part g c rest numbered history deletions =
    let whole = with_rest rest (content_of c.args.self.now) in
    let app = option_copied c.args.app in
    let links = links_at whole.sets app whole.pairs in
    record {
      done = [];
      rest = map link_shown links;
      whole = (links, lists_links whole app numbered c.rise.ensures, refl);
      ends = refl;
    }

pub returns-clause-part : goal.returns-clause-part
returns-clause-part g c rest numbered history deletions =
    let whole = with_rest rest (content_of c.args.self.now) in
    let app = option_copied c.args.app in
    let links = links_at whole.sets app whole.pairs in
    record {
      done = [];
      rest = map link_shown links;
      whole = (links, lists_links whole app numbered c.rise.ensures, refl);
      ends = refl;
    }
