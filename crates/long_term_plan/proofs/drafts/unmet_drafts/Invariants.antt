use Rattle.std.proofs.Common.{take}
use Rattle.std.specs.List.{Contains}
use Rattle.planner_machine.specs.declared.content.Draft.{Draft}
use Rattle.plan_store.specs.Views.{HoldsOfAny, ShowsDeleted}
use Rattle.long_term_plan.specs.Drafting.{AreNew, ArePlannedKeys}
use Rattle.long_term_plan.proofs.drafts.unmet_drafts.Given as goal

-- those of the drafts so far
abbrev pub invariant-loop-i : goal.invariant-loop-i
invariant-loop-i l = HoldsOfAny l.view (λ c.
    ((draft : Draft) → Contains l.named draft → ShowsDeleted c l.view draft.key)
    → ArePlannedKeys c.sets l.named l.met → AreNew c.sets (take l.i l.named) l.new.items)
