use Rattle.std.proofs.Common.{◌≡◌, ◌<◌, get_or, length, arith}
use Rattle.std.specs.Prelude.{option_copied}
use Rattle.plan_store.specs.Listed.{linked_rows}
use Rattle.plan_store.proofs.ShownLemmas.{ends_at, step_none, step_some}
use Rattle.plan_store.proofs.listed.emit_links.Goals as goal
use Rattle.plan_store.proofs.listed.emit_links.Goals.{in-Some+in-Ok, in-None}

pub loop-pair-preserved : goal.loop-pair-preserved
loop-pair-preserved g c =
    let app = option_copied c.args.app in
    let pairs = c.args.pairs.now in
    let i = c.loop-pair.pair-index in
    let p = c.pair-item.result in
    let lt : i < length pairs = c.loop-pair-test.true in
    let at : p ≡ get_or pairs i p = c.pair-item.is in
    let few = c.loop-pair.invariant.few in
    elim c.match-linked.branch [
      | in-Some+in-Ok w ↦ record {
        few = omega (arith, w.count-is, few);
        taken = λ s numbered are. step_some g.K.RowSink.accepts g.K.RowSink.refuses s app pairs i p lt at
            c.loop-pair.count c.args.sink.now c.loop-pair.sink (c.loop-pair.invariant.taken s numbered are)
            (linked_rows w.in-Some.link) (w.in-Some.ensures s numbered are) c.match-linked.count w.take.new.self
            c.match-linked.sink w.in-Ok.ensures.taken w.count-is w.sink-is;
      }
      | in-None w ↦ record {
        few = omega (arith, w.count-is, few);
        taken = λ s numbered are. step_none g.K.RowSink.accepts g.K.RowSink.refuses s app pairs i p lt at
            c.loop-pair.count c.args.sink.now c.loop-pair.sink (c.loop-pair.invariant.taken s numbered are)
            (w.in-None.ensures s numbered are) c.match-linked.count c.match-linked.sink w.count-is w.sink-is;
      }
    ]

pub returns-in-Err-clause-part : goal.returns-in-Err-clause-part
returns-in-Err-clause-part g c s numbered are =
    let app = option_copied c.args.app in
    let pairs = c.args.pairs.now in
    let i = c.loop-pair.pair-index in
    let p = c.pair-item.result in
    let lt : i < length pairs = c.loop-pair-test.true in
    let at : p ≡ get_or pairs i p = c.pair-item.is in
    ends_at g.K.RowSink.accepts g.K.RowSink.refuses s app pairs i p lt at c.loop-pair.count c.args.sink.now
    c.loop-pair.sink (c.loop-pair.invariant.taken s numbered are) (linked_rows c.in-Some.link)
    (c.in-Some.ensures s numbered are) c.take.new.self c.in-Err.ensures.refused c.in-Err.fault

pub returns-in-Err-clause-blames : goal.returns-in-Err-clause-blames
returns-in-Err-clause-blames g c = λ is. cc
