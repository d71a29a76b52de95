use Rattle.std.proofs.Common.{take}
use Rattle.std.specs.List.{Contains}
use Rattle.planner_machine.specs.declared.content.Draft.{Draft}
use Rattle.plan_store.specs.Views.{HoldsOfAny, ShowsDeleted}
use Rattle.long_term_plan.specs.Drafting.{AreNew}
use Rattle.long_term_plan.proofs.drafts.new_drafts.Given as goal

-- those of the drafts so far
abbrev pub invariant-loop-draft : goal.invariant-loop-draft
invariant-loop-draft l = HoldsOfAny l.view (λ c.
    ((draft : Draft) → Contains l.named draft → ShowsDeleted c l.view draft.key)
    → AreNew c.sets (take l.draft-index l.named) l.new.items)
