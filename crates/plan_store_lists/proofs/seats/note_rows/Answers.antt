use Rattle.std.proofs.Common.{◌≡◌, ◌∙◌, List, subst, sym, inl, inr}
use Rattle.std.specs.List.{Contains}
use Rattle.plan_store_lists.specs.Blocks.{items_of}
use Rattle.plan_store_lists.specs.Keyed.{AreApart}
use Rattle.plan_store_lists.specs.declared.seats.Seat.{Seat}
use Rattle.plan_store_lists.proofs.SeatLemmas.{itself, missing_apart, missing_new, noted}
use Rattle.plan_store_lists.proofs.seats.note_rows.Goals as goal

pub reserve_for-requires-clause-sorted : goal.reserve_for-requires-clause-sorted
reserve_for-requires-clause-sorted g c =
    rw c.deref.ensures.value (c.sort.ensures.keyed (subst (AreApart itself) (sym c.in_ok-missing.ensures)
    (missing_apart g.T.PlanRow.row_of c.args.seats.now c.args.rows.now c.requires.once)))

pub insert_into-requires-clause-sorted : goal.insert_into-requires-clause-sorted
insert_into-requires-clause-sorted g c =
    rw c.deref-2.ensures.value (c.sort.ensures.keyed (subst (AreApart itself) (sym c.in_ok-missing.ensures)
    (missing_apart g.T.PlanRow.row_of c.args.seats.now c.args.rows.now c.requires.once)))

pub insert_into-requires-clause-new : goal.insert_into-requires-clause-new
insert_into-requires-clause-new g c x there other among same =
    let seats = c.args.seats.now in
    let was = (c.sort.ensures.same x).0 (subst (λ (l : List Seat). Contains l x) c.deref-2.ensures.value there) in
    let stays : items_of c.reserve_for.new.list ≡ seats = c.reserve_for.ensures.same ∙ c.seats.view_is in
    missing_new g.T.PlanRow.row_of seats c.args.rows.now x
    (subst (λ (l : List Seat). Contains l x) c.in_ok-missing.ensures was) other
    (subst (λ (l : List Seat). Contains l other) stays among) same

pub insert_into-requires-clause-room : goal.insert_into-requires-clause-room
insert_into-requires-clause-room g c =
    rw c.deref-2.ensures.value (rw c.deref.ensures.value at c.in_ok-reserve_for.ensures.room)

pub returns-clause-stay : goal.returns-clause-stay
returns-clause-stay g c seat there =
    let stays : items_of c.reserve_for.new.list ≡ c.args.seats.now = c.reserve_for.ensures.same ∙ c.seats.view_is in
    (c.insert_into.ensures.inserted seat).1 (inr (subst (λ (l : List Seat). Contains l seat) (sym stays) there))

pub returns-clause-noted : goal.returns-clause-noted
returns-clause-noted g c =
    let seats = c.args.seats.now in
    let stays : items_of c.reserve_for.new.list ≡ seats = c.reserve_for.ensures.same ∙ c.seats.view_is in
    let inserted = rw c.deref-2.ensures.value at c.insert_into.ensures.inserted in
    noted g.T.PlanRow.row_of seats c.args.rows.now (items_of c.insert_into.new.list)
    (λ s there. (inserted s).1
    (inl ((c.sort.ensures.same s).1 (subst (λ (l : List Seat). Contains l s) (sym c.in_ok-missing.ensures) there))))
    (λ s there. (inserted s).1 (inr (subst (λ (l : List Seat). Contains l s) (sym stays) there)))
