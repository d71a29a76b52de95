-- the rows so far
use Rattle.std.proofs.Common.{◌≡◌, ◌++◌, map, take}
use Rattle.plan_store.proofs.listed.push_rows.Given as goal

abbrev pub invariant-loop-x : goal.invariant-loop-x
invariant-loop-x g l = map (λ x. x.now) l.found.items ≡ map (λ x. x.now) l.initial.found.items ++ take l.x-index l.rows
