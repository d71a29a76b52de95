use Rattle.std.proofs.Common.{arith}
use Rattle.run_cycles.proofs.JumpLemmas.{few_work_days}
use Rattle.daily_planning.proofs.new_ends.nth_from.Goals as goal

pub overflow_add-rank : goal.overflow_add-rank
overflow_add-rank c = let few = few_work_days c.args.index.now c.args.from in omega arith
