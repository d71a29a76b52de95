use Rattle.std.proofs.Common.{subst}
use Rattle.planner_machine.specs.Content.{Sets}
use Rattle.plan_store_pairs.specs.LiveRows.{HasPairsAfter}
use Rattle.plan_store.specs.Contents.{content_of}
use Rattle.plan_store_soundness.proofs.NumberedLemmas.{has_rows}
use Rattle.plan_store_soundness.proofs.PairLemmas.{has_lists, settled_from, settled_to}
use Rattle.plan_store_soundness.proofs.pairs.has_settled_pairs.Goals as goal

pub returns : goal.returns
returns c sound =
    let kept = c.args.content.now in
    let s : Sets = (content_of kept).sets in
    let lists = has_lists kept (has_rows kept) sound in
    let live = c.in_ok-rows.ensures.live s lists in
    let settled = c.in_ok-settled.settled in
    let after : HasPairsAfter kept.pairs kept.in_force.items s settled =
    subst (λ l. HasPairsAfter l kept.in_force.items s settled) c.in_ok-pairs.ensures
    (rw c.in_ok-links.ensures at c.in_ok-settled.ensures s live) in
    let same = rw c.in_ok-pairs.ensures at c.same_pairs.ensures in
    let rising = same.1 in (
      λ yes. let both = same.0.0 yes in
          settled_to kept.in_force.items s kept.pairs settled rising after both.0 both.1,
      λ are. same.0.1
          (settled_from kept.in_force.items s kept.pairs settled rising after are),
    )
