use Rattle.std.proofs.Common.{◌≡◌, ◌<◌, get_or, length, arith, Some}
use Rattle.plan_store.specs.AppPairs.{with_others}
use Rattle.plan_store.specs.Contents.{content_of}
use Rattle.plan_store.specs.Listed.{linked_rows}
use Rattle.plan_store.proofs.ShownLemmas.{ends_at, step_none, step_some}
use Rattle.plan_store.proofs.contents.Content.hand_known.Goals as goal
use Rattle.plan_store.proofs.contents.Content.hand_known.Goals.{in-Some+in-Ok, in-None}

pub loop-pair-preserved : goal.loop-pair-preserved
loop-pair-preserved g c =
    let app = Some c.args.app.now in
    let s = with_others c.args.others.now (content_of c.args.self.now).sets in
    let pairs = c.args.pairs.now in
    let i = c.loop-pair.pair-index in
    let p = c.pair-item.result in
    let lt : i < length pairs = c.loop-pair-test.true in
    let at : p ≡ get_or pairs i p = c.pair-item.is in
    let few = c.loop-pair.invariant.few in
    elim c.match-known_link.branch [
      | in-Some+in-Ok w ↦ record {
        few = omega (arith, w.count-is, few);
        taken = λ are. step_some g.K.RowSink.accepts g.K.RowSink.refuses s app pairs i p lt at
            c.loop-pair.count c.args.sink.now c.loop-pair.sink (c.loop-pair.invariant.taken are)
            (linked_rows w.in-Some.link) (w.in-Some.ensures are) c.match-known_link.count w.take.new.self
            c.match-known_link.sink w.in-Ok.ensures.taken w.count-is w.sink-is;
      }
      | in-None w ↦ record {
        few = omega (arith, w.count-is, few);
        taken = λ are. step_none g.K.RowSink.accepts g.K.RowSink.refuses s app pairs i p lt at
            c.loop-pair.count c.args.sink.now c.loop-pair.sink (c.loop-pair.invariant.taken are)
            (w.in-None.ensures are) c.match-known_link.count c.match-known_link.sink w.count-is w.sink-is;
      }
    ]

pub returns-in-Err-clause-part : goal.returns-in-Err-clause-part
returns-in-Err-clause-part g c are =
    let app = Some c.args.app.now in
    let s = with_others c.args.others.now (content_of c.args.self.now).sets in
    let pairs = c.args.pairs.now in
    let i = c.loop-pair.pair-index in
    let p = c.pair-item.result in
    let lt : i < length pairs = c.loop-pair-test.true in
    let at : p ≡ get_or pairs i p = c.pair-item.is in
    ends_at g.K.RowSink.accepts g.K.RowSink.refuses s app pairs i p lt at c.loop-pair.count c.args.sink.now
    c.loop-pair.sink (c.loop-pair.invariant.taken are) (linked_rows c.in-Some.link)
    (c.in-Some.ensures are) c.take.new.self c.in-Err.ensures.refused c.in-Err.fault

pub returns-in-Err-clause-blames : goal.returns-in-Err-clause-blames
returns-in-Err-clause-blames g c = λ is. cc
