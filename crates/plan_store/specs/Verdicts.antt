-- What a verdict has to be.
use Rattle.std.specs.Prelude.{Ok, Err}
use Rattle.planner_machine.specs.Content.{Content}
use Rattle.planner_machine.specs.Decision.{Decides, Decision}
use Rattle.plan_store.specs.Changes.{Fits, LeadsOn, after}
use Rattle.plan_store.specs.declared.changes.Verdict.{Verdict}
use Rattle.plan_store.specs.declared.changes.Verdict.TheVariants.{Done, Refused}

-- the verdict is what the machine decides. Accepted: the content admits the change; the statement does what the change
-- makes of the content, with this reply; and of the pairs it changes only those that are others afterwards. Or the
-- statement is refused for this reason
abbrev pub VerdictIs : Decision Content → Content → Verdict → Type 0
VerdictIs d c (Done change reply) =
    Fits change c × Decides d c (Ok reply) (after change c) × LeadsOn c.pairs change.pairs
VerdictIs d c (Refused refusal) = Decides d c (Err refusal) c
