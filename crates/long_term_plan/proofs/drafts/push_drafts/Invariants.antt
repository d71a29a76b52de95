use Rattle.std.proofs.Common.{◌≡◌, ◌++◌, take}
use Rattle.long_term_plan.specs.Drafting.{drafts_from}
use Rattle.long_term_plan.proofs.drafts.push_drafts.Given as goal

abbrev pub invariant-loop-occurrence : goal.invariant-loop-occurrence
invariant-loop-occurrence l =
    l.drafts.items ≡ l.initial.drafts.items ++ drafts_from l.app l.first (take l.occurrence-index l.named)
