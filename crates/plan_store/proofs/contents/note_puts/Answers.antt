use Rattle.std.proofs.Common.{Result, Ok, Err, OnOk}
use Rattle.plan_store_lists.specs.Rows.{of_current, of_row}
use Rattle.plan_store_lists.proofs.SeatLemmas.{seats_stay}
use Rattle.plan_store.proofs.contents.note_puts.Goals as goal

always : {T E : Type 0} (r : Result T E) (P : Type 0) → P → OnOk r P
always (Ok x) P p = p
always (Err e) P p = tt

pub returns-clause-ltp : goal.returns-clause-ltp
returns-clause-ltp c =
    let puts = c.args.change.now.ltp.put.items in
    let noted = rw c.deref.ensures.value at c.in_ok-note_rows.ensures.noted in
    always c.note_rows-4.result _ (seats_stay of_row puts c.note_rows.new.seats c.note_rows-4.new.seats
    noted (λ s there. c.note_rows-4.ensures.stay s
    (c.note_rows-3.ensures.stay s (c.note_rows-2.ensures.stay s there))))

pub returns-clause-cp : goal.returns-clause-cp
returns-clause-cp c =
    let puts = c.args.change.now.cp.put.items in
    let noted = rw c.deref-2.ensures.value at c.in_ok-note_rows-2.ensures.noted in
    always c.note_rows-4.result _ (seats_stay of_current puts c.note_rows-2.new.seats
    c.note_rows-4.new.seats noted (λ s there. c.note_rows-4.ensures.stay s
    (c.note_rows-3.ensures.stay s there)))

pub returns-clause-history : goal.returns-clause-history
returns-clause-history c =
    let puts = c.args.change.now.history.put.items in
    let noted = rw c.deref-3.ensures.value at c.in_ok-note_rows-3.ensures.noted in
    always c.note_rows-4.result _ (seats_stay of_row puts c.note_rows-3.new.seats c.note_rows-4.new.seats
    noted (λ s there. c.note_rows-4.ensures.stay s there))

pub returns-in_err-note_rows-3-clause-stay : goal.returns-in_err-note_rows-3-clause-stay
returns-in_err-note_rows-3-clause-stay c s there =
    c.note_rows-3.ensures.stay s (c.note_rows-2.ensures.stay s (c.note_rows.ensures.stay s there))

pub returns-clause-stay : goal.returns-clause-stay
returns-clause-stay c s there =
    c.note_rows-4.ensures.stay s
    (c.note_rows-3.ensures.stay s (c.note_rows-2.ensures.stay s (c.note_rows.ensures.stay s there)))
