use Rattle.plan_store_lists.specs.Rows.{of_current, of_row}
use Rattle.plan_store_lists.proofs.SeatLemmas.{seats_stay}
use Rattle.plan_store.proofs.parts.seats_for.Goals as goal

pub returns-clause-ltp : goal.returns-clause-ltp
returns-clause-ltp c =
    seats_stay of_row c.args.ltp.now.items c.note_in.new.seats c.note_rows-2.new.seats
    c.in_ok-note_in.ensures.noted
    (λ s there. c.note_rows-2.ensures.stay s (c.note_rows.ensures.stay s (c.note_in-2.ensures.stay s there)))

pub returns-clause-cp : goal.returns-clause-cp
returns-clause-cp c =
    seats_stay of_current c.args.cp.now.items c.note_in-2.new.seats c.note_rows-2.new.seats
    c.in_ok-note_in-2.ensures.noted (λ s there. c.note_rows-2.ensures.stay s (c.note_rows.ensures.stay s there))

pub returns-clause-history : goal.returns-clause-history
returns-clause-history c =
    seats_stay of_row c.args.history.now c.note_rows.new.seats c.note_rows-2.new.seats
    c.in_ok-note_rows.ensures.noted (λ s there. c.note_rows-2.ensures.stay s there)
