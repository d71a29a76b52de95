use Rattle.std.proofs.Common.{take}
use Rattle.app_occurrences.specs.NamedOccurrences.{AreIndexesOf}
use Rattle.long_term_plan.specs.Drafting.{AreCollected}
use Rattle.long_term_plan.proofs.drafts.named_drafts.Given as goal

-- the drafts of the applications so far
abbrev pub invariant-loop-app : goal.invariant-loop-app
invariant-loop-app l =
    AreIndexesOf l.all l.indexes × AreCollected l.all (take l.app-index l.apps) l.first l.last l.drafts.items
