use Rattle.run_cycles.proofs.Iff.{and_so}
use Rattle.run_cycles.proofs.WalkLemmas.{raw_by_walk}
use Rattle.run_cycles.proofs.raw.any_raw_day.Goals as goal

pub returns : goal.returns
returns c =
    and_so _ _ _ c.any_interval_has_day.ensures (raw_by_walk
    c.args.period.now c.args.low c.args.high c.args.offsets.now c.new.result.left c.new.ensures.left)
