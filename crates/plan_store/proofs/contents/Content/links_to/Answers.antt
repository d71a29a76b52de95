use Rattle.std.proofs.Common.{refl}
use Rattle.std.specs.Prelude.{option_copied}
use Rattle.plan_store.specs.Contents.{content_of}
use Rattle.plan_store.specs.Listings.{ShowLinks, in_force_shown}
use Rattle.plan_store.specs.Parts.{with_rest}
use Rattle.plan_store.proofs.ShownLemmas.{shown_all, shown_part}
use Rattle.plan_store.proofs.contents.Content.links_to.Goals as goal

pub returns-in-Some-clause-all : goal.returns-in-Some-clause-all
returns-in-Some-clause-all g c rest numbered =
    let links = c.list.result.now in
    shown_all g.K.RowSink.accepts g.K.RowSink.refuses c.args.sink.now c.emit_lists.new.sink in_force_shown links
    (ShowLinks (option_copied c.args.app) (with_rest rest (content_of c.args.self.now)))
    (links, record { rising = c.list.ensures.rising; exactly = rw c.in-Some.is c.list.ensures.all }, refl)
    c.emit_lists.result c.emit_lists.ensures.all

pub returns-in-Some-clause-part : goal.returns-in-Some-clause-part
returns-in-Some-clause-part g c rest numbered =
    let links = c.list.result.now in
    shown_part g.K.RowSink.accepts g.K.RowSink.refuses c.args.sink.now c.emit_lists.new.sink in_force_shown links
    (ShowLinks (option_copied c.args.app) (with_rest rest (content_of c.args.self.now)))
    (links, record { rising = c.list.ensures.rising; exactly = rw c.in-Some.is c.list.ensures.all }, refl)
    c.emit_lists.result c.emit_lists.ensures.part
