use Rattle.std.proofs.Common.{◌≡◌, ◌++◌, take, filter}
use Rattle.occurrences.specs.declared.place.Deletion.{Deletion}
use Rattle.plan_store.specs.Views.{is_by_operator}
use Rattle.plan_store.proofs.slices.push_operators.Given as goal

-- those of the deletions so far
abbrev pub invariant-loop-deletion : goal.invariant-loop-deletion
invariant-loop-deletion l = l.found.items
    ≡ l.fn.found.items ++ filter (λ (x : Deletion). is_by_operator x.reason) (take l.deletion-index l.rows)
