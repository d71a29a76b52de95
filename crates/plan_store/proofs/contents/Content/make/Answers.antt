use Rattle.std.proofs.Common.{◌∙◌, ap, sym}
use Rattle.plan_store_lists.specs.Rows.{of_current, of_deletion, of_row}
use Rattle.plan_store.specs.Changes.{redefined}
use Rattle.plan_store.proofs.SeatedLemmas.{seats_after}
use Rattle.plan_store.proofs.contents.Content.make.Goals as goal

pub invariant_of-self : goal.invariant_of-self
invariant_of-self c =
    let kept = c.args.self.now in
    let change = c.args.change in
    let room = c.requires.room.rows in
    record {
      ltp_rows = c.move_rows.ensures.rows;
      cp_rows = c.move_rows-2.ensures.rows;
      history_rows = c.move_rows-3.ensures.rows;
      deletion_rows = c.move_rows-4.ensures.rows;
      numbered_jobs = c.keep_job.ensures.numbered;
      ltp_seats = seats_after of_row change.ltp kept.ltp.items c.move_rows.new.list.items kept.seats
          c.move_rows.ensures.rows c.move_rows.ensures.moved c.requires.fits.ltp kept.ltp_seats room.ltp_seats;
      cp_seats = seats_after of_current change.cp kept.cp.items c.move_rows-2.new.list.items kept.seats
          c.move_rows-2.ensures.rows c.move_rows-2.ensures.moved c.requires.fits.cp kept.cp_seats room.cp_seats;
      history_seats = seats_after of_row change.history kept.history.items c.move_rows-3.new.list.items kept.seats
          c.move_rows-3.ensures.rows c.move_rows-3.ensures.moved c.requires.fits.history kept.history_seats
          room.history_seats;
      deletion_seats = seats_after of_deletion change.deletions kept.deletions.items c.move_rows-4.new.list.items
          kept.seats c.move_rows-4.ensures.rows c.move_rows-4.ensures.moved c.requires.fits.deletions
          kept.deletion_seats room.deletion_seats;
    }

pub returns : goal.returns
returns c = λ i. record {
  definitions = ap (λ d. redefined d c.args.self.now.definitions) (sym c.requires.defined) i;
  sets = record {
    bounds = c.new_or_old-self.ensures i;
    issued = c.unwrap_or-self.ensures i;
    ltp = λ serial. c.move_rows.ensures.moved serial i;
    cp = λ serial. c.move_rows-2.ensures.moved serial i;
    history = λ serial. c.move_rows-3.ensures.moved serial i;
    deletions = λ serial. c.move_rows-4.ensures.moved serial i;
  };
  in_force = c.put_in_force.ensures i;
  pairs = (c.from_blocks.ensures ∙ c.change_pairs.ensures.changed) i;
  jobs = λ number. c.keep_job.ensures.kept number i;
}
