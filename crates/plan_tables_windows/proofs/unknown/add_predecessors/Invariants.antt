use Rattle.std.proofs.Common.{take}
use Rattle.plan_store.specs.Contents.{content_of}
use Rattle.plan_tables_windows.specs.Unknown.{AddsUnsettled, IsPredecessorIn, is_settled}
use Rattle.plan_tables_windows.proofs.unknown.add_predecessors.Given as goal

-- those so far
abbrev pub invariant-loop-pair : goal.invariant-loop-pair
invariant-loop-pair l = AddsUnsettled (is_settled (content_of l.lists).sets) (IsPredecessorIn (take l.pair-index l.pairs))
    l.initial.serials.items l.serials.items
