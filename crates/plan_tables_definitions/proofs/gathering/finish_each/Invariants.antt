use Rattle.std.proofs.Common.{take}
use Rattle.plan_tables_definitions.specs.Gathering.{IsGathered, Paired}
use Rattle.plan_tables_definitions.proofs.gathering.finish_each.Given as goal

abbrev pub invariant-loop-draft : goal.invariant-loop-draft
invariant-loop-draft g l = Paired (λ name x d. IsGathered g.D.Draft.IsRow g.D.Draft.IsRead g.D.Draft.IsTold name x d)
    (take l.draft-index l.drafts) l.entries.items
