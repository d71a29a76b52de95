use Rattle.std.proofs.Common.{take}
use Rattle.plan_store.specs.Views.{shown}
use Rattle.plan_store_pairs.specs.Gathering.{AddsEach}
use Rattle.plan_store_pairs.specs.Withdrawals.{IsBackPair, IsLostPair}
use Rattle.plan_store_pairs.proofs.withdrawals.turn_each.Given as goal

-- those so far are turned
abbrev pub invariant-loop-x : goal.invariant-loop-x
invariant-loop-x l = AddsEach (IsLostPair (shown l.view).pairs l.row) (take l.x-index l.found)
    l.initial.removed.items l.removed.items
    × AddsEach (IsBackPair (shown l.view).pairs l.row l.before) (take l.x-index l.found) l.initial.added.items
    l.added.items
