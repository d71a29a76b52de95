use Rattle.std.proofs.Common.{List, subst, map, arith}
use Rattle.std.proofs.lemmas.Result.{err_from_is_err_and}
use Rattle.external_dependencies.specs.declared.links.Link.{Link}
use Rattle.plan_store.specs.Listed.{EndsWithin}
use Rattle.plan_store.specs.Listings.{in_force_shown}
use Rattle.plan_store.specs.declared.listings.ListFault.TheVariants as Faults
use Rattle.plan_store.proofs.EmittedLemmas.{ends_before, ends_in, taken_more}
use Rattle.plan_store.proofs.listed.emit_all_lists.Goals as goal

-- one block more
pub loop-block-preserved : goal.loop-block-preserved
loop-block-preserved g c =
    taken_more g.K.RowSink.accepts g.K.RowSink.refuses c.blocks-all.result.now c.loop-block.block-index
    c.block-item.result c.loop-block-test.true c.block-item.is c.items-list.result.now c.items-list.ensures
    c.loop-block.count c.in-Some.sum (omega (arith, c.in-Some.ensures.1)) c.args.sink.now c.loop-block.sink
    c.emit_lists.new.sink c.loop-block.invariant c.in_ok-emit_lists.ensures.all.1

pub returns-in_default-clause-part : goal.returns-in_default-clause-part
returns-in_default-clause-part g c =
    subst (λ (links : List Link). EndsWithin g.K.RowSink.accepts g.K.RowSink.refuses c.args.sink.now
    (map in_force_shown links) c.loop-block.sink Faults.Memory) c.blocks-all.ensures
    (ends_before g.K.RowSink.accepts g.K.RowSink.refuses c.blocks-all.result.now c.loop-block.block-index
    c.args.sink.now c.loop-block.sink c.loop-block.invariant.1)

pub returns-in_err-emit_lists-clause-part : goal.returns-in_err-emit_lists-clause-part
returns-in_err-emit_lists-clause-part g c =
    let fault = c.in_err-emit_lists.field-0.0 in
    let p = err_from_is_err_and c.from_residual.result c.from_residual.ensures.1 in
    rw (p.1, p.2) (subst (λ (links : List Link). EndsWithin g.K.RowSink.accepts g.K.RowSink.refuses c.args.sink.now
    (map in_force_shown links) c.emit_lists.new.sink fault) c.blocks-all.ensures
    (ends_in g.K.RowSink.accepts g.K.RowSink.refuses c.blocks-all.result.now c.loop-block.block-index
    c.block-item.result c.loop-block-test.true c.block-item.is c.items-list.result.now c.items-list.ensures
    c.args.sink.now c.loop-block.sink c.emit_lists.new.sink fault c.loop-block.invariant.1
    c.in_err-emit_lists.ensures.part))
