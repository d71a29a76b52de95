-- the occurrences so far
use Rattle.std.proofs.Common.{◌≡◌, ◌++◌, map, take}
use Rattle.plan_store.proofs.listed.push_occurrences.Given as goal

abbrev pub invariant-loop-x : goal.invariant-loop-x
invariant-loop-x g l = map (λ row. row.now) l.all.items ≡ map (λ row. row.now) l.initial.all.items ++ map
    g.T.PlanRow.row_of (take l.x-index l.rows)
