-- The rows of the current plan in the window of a daily plan.
use Rattle.std.proofs.Common.{◌≡◌, ◌∙◌, ℕ, List, Option, None, Some, ap}
use Rattle.occurrences.specs.declared.place.CurrentRow.{CurrentRow}
use Rattle.occurrences.specs.declared.reply.Reply.{Reply}
use Rattle.plan_store_lists.specs.Rows.{of_current}
use Rattle.planner_machine.specs.Content.{Content}
use Rattle.planner_machine.specs.Statement.{decision_of}
use Rattle.plan_store.specs.Verdicts.{VerdictIs}
use Rattle.plan_store.specs.Views.{IsAny, ListsSet, Shows, shown}
use Rattle.plan_store.specs.declared.changes.Change.{Change}
use Rattle.plan_store.specs.declared.changes.Verdict.TheVariants.{Done}
use Rattle.plan_store.specs.declared.views.View.{View}
use Rattle.daily_planning.specs.DailyPlans.{daily_need, plan_end_of}
use Rattle.daily_planning.proofs.DailyWindowLemmas.{daily_cp}
use Rattle.planner_cli_stream.specs.declared.statements.DailyFunction.{DailyFunction}
use Rattle.planner_cli_stream.specs.declared.statements.DailyFunction.TheVariants.{Extend, ExtendBy, Replan}
use Rattle.planner_cli.specs.Changes.{daily_change}
use Rattle.planner_cli.specs.Verdicts.{IsEnd}

-- a daily plan that is made has an end
has_end : (c : Content) (function : DailyFunction) (change : Change) (reply : Reply) → IsEnd c function None
    → VerdictIs (decision_of (daily_change function)) c (Done change reply) → ⊥
has_end c (Extend to) change reply end is = let no : None ≡ Some to = end in cc
has_end c (ExtendBy days count) change reply end is =
    let (b, at, (t, new, plans)) = is.1.1.rows in end b at t new
has_end c Replan change reply end is =
    let (b, at, plans) = is.1.1.rows in
    let no : None ≡ Some b.plan_end = end ∙ ap plan_end_of at in cc

-- and its window shows them all
pub lists_current : (view : View) (c : Content) (rows : List CurrentRow)
    → ListsSet of_current (shown view).sets.cp IsAny rows → (function : DailyFunction) (end : Option ℕ)
    → (change : Change) (reply : Reply) → IsEnd c function end → Shows (daily_need end) view c
    → VerdictIs (decision_of (daily_change function)) c (Done change reply) → ListsSet of_current c.sets.cp IsAny rows
lists_current view c rows lists function (Some t) change reply end shows is = daily_cp t view c shows rows lists
lists_current view c rows lists function None change reply end shows is =
    absurd (has_end c function change reply end is)
