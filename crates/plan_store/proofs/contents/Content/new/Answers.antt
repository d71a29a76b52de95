use Rattle.planner_machine.specs.Content.{nothing_known}
use Rattle.plan_store_lists.specs.Rows.{of_current, of_deletion, of_row}
use Rattle.plan_store.proofs.WindowLemmas.{no_rows, no_seats}
use Rattle.plan_store.proofs.contents.Content.new.Goals as goal

pub invariant_of-result-clause-ltp_rows : goal.invariant_of-result-clause-ltp_rows
invariant_of-result-clause-ltp_rows c = rw c.new-3.ensures (no_rows of_row)

pub invariant_of-result-clause-cp_rows : goal.invariant_of-result-clause-cp_rows
invariant_of-result-clause-cp_rows c = rw c.new-4.ensures (no_rows of_current)

pub invariant_of-result-clause-history_rows : goal.invariant_of-result-clause-history_rows
invariant_of-result-clause-history_rows c = rw c.new-5.ensures (no_rows of_row)

pub invariant_of-result-clause-deletion_rows : goal.invariant_of-result-clause-deletion_rows
invariant_of-result-clause-deletion_rows c = rw c.new-6.ensures (no_rows of_deletion)

pub invariant_of-result-clause-ltp_seats : goal.invariant_of-result-clause-ltp_seats
invariant_of-result-clause-ltp_seats c = rw c.new-3.ensures (no_seats of_row c.new-9.result)

pub invariant_of-result-clause-cp_seats : goal.invariant_of-result-clause-cp_seats
invariant_of-result-clause-cp_seats c = rw c.new-4.ensures (no_seats of_current c.new-9.result)

pub invariant_of-result-clause-history_seats : goal.invariant_of-result-clause-history_seats
invariant_of-result-clause-history_seats c = rw c.new-5.ensures (no_seats of_row c.new-9.result)

pub invariant_of-result-clause-deletion_seats : goal.invariant_of-result-clause-deletion_seats
invariant_of-result-clause-deletion_seats c = rw c.new-6.ensures (no_seats of_deletion c.new-9.result)

pub returns : goal.returns
returns c = rw (
  c.new.ensures,
  c.new-2.ensures,
  c.new-3.ensures,
  c.new-4.ensures,
  c.new-5.ensures,
  c.new-6.ensures,
  c.new-7.ensures,
  c.new-8.ensures.items,
) (λ i. nothing_known)
