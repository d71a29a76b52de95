use Rattle.std.proofs.Common.{◌≡◌, false}
use Rattle.sqlite_catalog.specs.Change.{is_used}
use Rattle.sqlite_schema.specs.declared.schema.Index.{Index}
use Rattle.std.specs.List.{AllWithin}
use Rattle.plan_tables_opening.proofs.standing.are_indexes_new.Given as goal

abbrev pub invariant-loop-index : goal.invariant-loop-index
invariant-loop-index l = AllWithin (λ (i : Index). is_used l.schema i.name ≡ false) l.made 0 l.index-index
