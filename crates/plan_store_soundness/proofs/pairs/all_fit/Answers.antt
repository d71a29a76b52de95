use Rattle.std.proofs.lemmas.List.Elements.{AllWithin-more, at_read}
use Rattle.external_dependencies.specs.declared.pairs.Pair.{Pair}
use Rattle.plan_store_soundness.specs.Pairs.{FitsRows, at_serial}
use Rattle.plan_store_soundness.proofs.pairs.all_fit.Goals as goal

pub loop-pair-preserved : goal.loop-pair-preserved
loop-pair-preserved c =
    let Fits : Pair → Type 0 = λ pair.
    FitsRows (at_serial c.args.table.now pair.successor) (at_serial c.args.table.now pair.predecessor) in
    AllWithin-more Fits c.args.pairs.now 0 c.loop-pair.pair-index c.loop-pair.invariant
    (at_read c.args.pairs.now Fits c.loop-pair.pair-index c.pair-item.result c.loop-pair-test.true c.pair-item.is
    (c.fits.ensures.0 c.if-not-fits.false))
