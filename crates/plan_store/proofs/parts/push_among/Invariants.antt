use Rattle.std.proofs.Common.{◌≡◌, ◌++◌, take, filter, nat_eq}
use Rattle.std.specs.List.{list_any}
use Rattle.occurrences.specs.declared.row.Row.{Row}
use Rattle.plan_store.proofs.parts.push_among.Given as goal

-- those of the rows so far
abbrev pub invariant-loop-row : goal.invariant-loop-row
invariant-loop-row l = l.found.items
    ≡ l.fn.found.items ++ filter (λ (row : Row). list_any (λ n. nat_eq n row.serial) l.serials) (take l.row-index l.rows)
