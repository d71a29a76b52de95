use Rattle.work_calendars.specs.WorkIndex.{is_work_in}
use Rattle.run_cycles.proofs.Iff.{and_so}
use Rattle.run_cycles.proofs.WalkLemmas.{counted_by_walk}
use Rattle.run_cycles.proofs.counting.any_offset_counts.Goals as goal

pub returns : goal.returns
returns c =
    and_so _ _ _ c.any_interval_counts.ensures (counted_by_walk c.args.period.now
    (is_work_in c.args.index.now) c.args.day c.args.offsets.now c.new.result.left c.new.ensures.left)
