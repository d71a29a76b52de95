use Rattle.std.proofs.Common.{arith}
use Rattle.plan_store_soundness.proofs.NumberedLemmas.{has_rows}
use Rattle.plan_store_soundness.proofs.SizeLemmas.{planned_rows}
use Rattle.plan_store_soundness.proofs.sizes.has_sizes.Goals as goal

pub returns : goal.returns
returns c numbered =
    let kept = c.args.content.now in
    let rows = planned_rows kept (has_rows kept) numbered in (
      λ yes. let fit = c.are_sizes.ensures.0 yes in record { planned = omega (arith, fit.0, rows); issued = fit.1 },
      λ sizes. c.are_sizes.ensures.1 (omega (arith, sizes.planned, rows), sizes.issued),
    )
