use Rattle.std.proofs.Common.{◌≡◌, ◌+◌, take}
use Rattle.long_term_plan.specs.Making.{numbered}
use Rattle.long_term_plan.proofs.making.numbered_rows.Given as goal

-- the rows of the drafts so far
abbrev pub invariant-loop-draft : goal.invariant-loop-draft
invariant-loop-draft l =
    (l.rows.items ≡ numbered l.issued (take l.draft-index l.drafts)) × (l.number ≡ l.issued + l.draft-index)
