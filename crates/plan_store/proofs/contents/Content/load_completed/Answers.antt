use Rattle.plan_store_lists.specs.Rows.{of_current, of_deletion, of_row}
use Rattle.plan_store_lists.proofs.SeatLemmas.{seats_stay}
use Rattle.plan_store.proofs.contents.Content.load_completed.Goals as goal

pub invariant_of-self : goal.invariant_of-self
invariant_of-self c =
    let kept = c.args.self.now in
    let seats = c.load.new.seats in
    let stay = c.load.ensures.stay in
    record {
      ltp_rows = kept.ltp_rows;
      cp_rows = kept.cp_rows;
      history_rows = c.load.ensures.rows;
      deletion_rows = kept.deletion_rows;
      numbered_jobs = kept.numbered_jobs;
      ltp_seats = seats_stay of_row kept.ltp.items kept.seats seats kept.ltp_seats stay;
      cp_seats = seats_stay of_current kept.cp.items kept.seats seats kept.cp_seats stay;
      history_seats = c.load.ensures.seated;
      deletion_seats = seats_stay of_deletion kept.deletions.items kept.seats seats kept.deletion_seats stay;
    }
