use Rattle.plan_store_lists.proofs.SeatLemmas.{seats_stay}
use Rattle.plan_store.proofs.PartLemmas.{seats_put}
use Rattle.plan_store.proofs.parts.load.Goals as goal

pub returns-in_err-note_rows-clause-seated : goal.returns-in_err-note_rows-clause-seated
returns-in_err-note_rows-clause-seated g c =
    seats_stay g.T.PlanRow.row_of c.args.list.now.items c.args.seats.now c.note_rows.new.seats
    c.requires.seated c.note_rows.ensures.stay

pub returns-clause-seated : goal.returns-clause-seated
returns-clause-seated g c =
    let row_of = g.T.PlanRow.row_of in
    let old = c.args.list.now.items in
    let seats = c.note_rows.new.seats in
    let noted = rw c.from_ref.ensures.value at c.in_ok-note_rows.ensures.noted in
    seats_put row_of old c.put_in.new.list.items c.args.row.now seats
    (seats_stay row_of old c.args.seats.now seats c.requires.seated c.note_rows.ensures.stay) noted
    c.put_in.ensures.comes
