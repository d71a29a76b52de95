use Rattle.std.proofs.Common.{take}
use Rattle.plan_store.specs.AppPairs.{AreBySerials, AreLacking, with_others}
use Rattle.plan_store.specs.Contents.{content_of}
use Rattle.plan_store.proofs.contents.Content.lacking_ends.Given as goal

-- those of the pairs so far
abbrev pub invariant-loop-pair : goal.invariant-loop-pair
invariant-loop-pair l = AreBySerials l.others
    → AreLacking l.app (with_others l.others (content_of l.self).sets) (take l.pair-index l.pairs) l.serials.items
