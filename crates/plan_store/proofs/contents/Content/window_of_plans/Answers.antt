use Rattle.plan_store_lists.specs.Rows.{of_deletion, of_row}
use Rattle.plan_store.proofs.WindowLemmas.{no_rows, no_seats}
use Rattle.plan_store.proofs.contents.Content.window_of_plans.Goals as goal

pub invariant_of-result : goal.invariant_of-result
invariant_of-result c = record {
  ltp_rows = c.requires.ltp_rows;
  cp_rows = c.requires.cp_rows;
  last_rows = no_rows of_row;
  history_rows = rw c.args.self.now.buffer.no_row (no_rows of_row);
  deletion_rows = rw c.args.self.now.buffer.no_deletion (no_rows of_deletion);
  ltp_seats = c.requires.ltp_seats;
  cp_seats = c.requires.cp_seats;
  last_seats = no_seats of_row c.args.self.now.seats;
  history_seats = rw c.args.self.now.buffer.no_row (no_seats of_row c.args.self.now.seats);
  deletion_seats = rw c.args.self.now.buffer.no_deletion (no_seats of_deletion c.args.self.now.seats);
}
