use Rattle.std.proofs.Common.{arith}
use Rattle.plan_store.proofs.contents.Content.reserve.Goals as goal

pub reserve-requires : goal.reserve-requires
reserve-requires c = rw c.deref.ensures.value c.requires.ltp

pub reserve-requires-2 : goal.reserve-requires-2
reserve-requires-2 c = rw c.deref-2.ensures.value c.requires.cp

pub reserve-requires-3 : goal.reserve-requires-3
reserve-requires-3 c = rw c.deref-3.ensures.value c.requires.history

pub reserve-requires-4 : goal.reserve-requires-4
reserve-requires-4 c = rw c.deref-4.ensures.value c.requires.deletions

pub returns-clause-room : goal.returns-clause-room
returns-clause-room c = record {
  ltp = rw c.deref.ensures.value at c.in_ok-reserve.ensures.room;
  cp = rw c.deref-2.ensures.value at c.in_ok-reserve-2.ensures.room;
  history = rw c.deref-3.ensures.value at c.in_ok-reserve-3.ensures.room;
  deletions = rw c.deref-4.ensures.value at c.in_ok-reserve-4.ensures.room;
  lists = c.in_ok-reserve_list.ensures.room;
  jobs = omega (arith, c.in_ok-reserve-5.ensures);
  ltp_seats = c.requires.seats.ltp_seats;
  cp_seats = c.requires.seats.cp_seats;
  history_seats = c.requires.seats.history_seats;
  deletion_seats = c.requires.seats.deletion_seats;
}
