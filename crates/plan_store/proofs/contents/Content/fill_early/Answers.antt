use Rattle.std.proofs.Common.{◌≡◌, ◌∙◌, List, subst, sym}
use Rattle.std.specs.declared.cmp.Ordering.TheVariants.{Less}
use Rattle.std.proofs.lemmas.List.Kept.{AllPairs-filter}
use Rattle.occurrences.specs.declared.row.Row.{Row}
use Rattle.external_dependencies.specs.Arrival.{arrival_cmp}
use Rattle.external_dependencies.specs.Nearest.{arrival_of}
use Rattle.planner_machine.specs.DailyPlan.{arrives_before}
use Rattle.plan_store_lists.specs.Keyed.{IsKeyed}
use Rattle.plan_store.proofs.contents.Content.fill_early.Goals as goal

-- what passes is in order still
pub from_rows-requires : goal.from_rows-requires
from_rows-requires c =
    let kept = c.args.self.now in
    rw c.deref.ensures.value (subst (λ (rows : List Row). IsKeyed arrival_cmp arrival_of rows)
    (sym c.in_ok-found.ensures)
    (AllPairs-filter (λ (x y : Row). arrival_cmp (arrival_of x) (arrival_of y) ≡ Less) (arrives_before c.args.moment)
    kept.ltp.items kept.ltp_rows.keyed))

pub returns-clause-filled : goal.returns-clause-filled
returns-clause-filled c = c.in_ok-early.ensures ∙ c.deref.ensures.value ∙ c.in_ok-found.ensures
