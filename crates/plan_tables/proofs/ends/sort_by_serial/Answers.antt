use Rattle.std.proofs.Common.{rules}
use Rattle.std.proofs.lemmas.List.Sorted.{answers_always}
use Rattle.plan_store.specs.Views.{row_serial}
use Rattle.plan_tables.proofs.ends.sort_by_serial.Goals as goal

pub returns-clause-sorted : goal.returns-clause-sorted
returns-clause-sorted c =
    c.sort_unstable_by_key.ensures.sorted row_serial (answers_always _ _ _ (λ f a r q called. search rules))
