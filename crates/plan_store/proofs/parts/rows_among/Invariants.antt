use Rattle.std.proofs.Common.{◌≡◌, take, filter, nat_eq}
use Rattle.std.specs.List.{list_any}
use Rattle.occurrences.specs.declared.row.Row.{Row}
use Rattle.plan_store_lists.specs.Blocks.{items_in}
use Rattle.plan_store.proofs.parts.rows_among.Given as goal

-- those of the blocks so far
abbrev pub invariant-loop-block : goal.invariant-loop-block
invariant-loop-block l = l.found.items
    ≡ filter (λ (row : Row). list_any (λ n. nat_eq n row.serial) l.serials) (items_in (take l.block-index l.all))
