use Rattle.std.proofs.Common.{List, subst, sym}
use Rattle.std.specs.List.{All}
use Rattle.external_dependencies.specs.declared.rows.PlacedRow.{PlacedRow}
use Rattle.planner_machine.specs.Sound.{IsRow}
use Rattle.plan_store_soundness.proofs.NumberedLemmas.{has_rows}
use Rattle.plan_store_soundness.proofs.RangeLemmas.{ranges_from, ranges_to}
use Rattle.plan_store_soundness.proofs.ranges.have_ranges.Goals as goal

pub returns : goal.returns
returns c numbered =
    let kept = c.args.content.now in
    let Are : List PlacedRow → Type 0 = λ l. All (λ (p : PlacedRow). IsRow p.row) l in (
      λ yes. ranges_from kept (has_rows kept) (subst Are c.requires (c.are_rows.ensures.0 yes)),
      λ have. c.are_rows.ensures.1 (subst Are (sym c.requires) (ranges_to kept (has_rows kept) numbered have)),
    )
