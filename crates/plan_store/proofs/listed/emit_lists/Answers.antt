use Rattle.std.proofs.Common.{◌≡◌, suc, ◌+◌, ◌∷◌, [], ◌++◌, ◌∙◌, ap, sym, subst, take, drop, map}
use Rattle.std.proofs.lemmas.List.{map_more}
use Rattle.plan_store.specs.Listings.{AcceptsAll, in_force_shown}
use Rattle.plan_store.proofs.ListedLemmas.{map_rest, map_split, takes_more}
use Rattle.plan_store.proofs.listed.emit_lists.Goals as goal

pub loop-link-preserved : goal.loop-link-preserved
loop-link-preserved g c =
    let links = c.args.links.now in
    let i = c.loop-link.link-index in
    let link = c.link-item.result in
    let more : map in_force_shown (take (i + 1) links) ≡ map in_force_shown (take i links) ++ in_force_shown link ∷ [] =
    map_more in_force_shown links i link c.loop-link-test.true
    ∙ ap (λ x. map in_force_shown (take i links) ++ in_force_shown x ∷ []) (sym c.link-item.is) in
    subst (λ l. AcceptsAll g.K.RowSink.accepts c.args.sink.now l c.take.new.self) (sym more)
    (takes_more g.K.RowSink.accepts c.args.sink.now (map in_force_shown (take i links)) c.loop-link.sink
    (in_force_shown link) c.take.new.self c.loop-link.invariant c.in-Ok.ensures.taken)

pub returns-in-Err-clause-part : goal.returns-in-Err-clause-part
returns-in-Err-clause-part g c =
    let links = c.args.links.now in
    let i = c.loop-link.link-index in
    let link = c.link-item.result in
    record {
      done = map in_force_shown (take i links);
      rest = map in_force_shown (drop i links);
      parts = map_split in_force_shown i links;
      ends = (
        c.loop-link.sink,
        in_force_shown link,
        map in_force_shown (drop (suc i) links),
        map_rest in_force_shown i links link c.loop-link-test.true c.link-item.is,
        c.loop-link.invariant,
        c.in-Err.ensures.refused,
      );
    }

pub returns-in-Err-clause-blames : goal.returns-in-Err-clause-blames
returns-in-Err-clause-blames g c = λ is. cc
