use Rattle.std.proofs.Common.{◌≡◌, ◌+◌, ◌++◌, ◌∷◌, ◌∙◌, [], take, inl, inr, sym, ap, subst, arith}
use Rattle.std.specs.List.{Contains}
use Rattle.std.proofs.lemmas.List.{take_more, take_all}
use Rattle.std.proofs.lemmas.List.Elements.{Contains-append_cases}
use Rattle.occurrences.specs.declared.key.Key.{Key}
use Rattle.plan_store_lists.specs.Seats.{seat_of}
use Rattle.plan_store_lists.specs.declared.seats.Seat.{Seat}
use Rattle.plan_store_lists.proofs.KeyLemmas.{one_is}
use Rattle.plan_store_lists.proofs.SeatLemmas.{seat_held}
use Rattle.plan_store.proofs.slices.of_serial.Goals as goal

abbrev key_at : Seat → Key
key_at seat = record { ia = seat.ia; app = seat.app }

pub loop-seat-preserved : goal.loop-seat-preserved
loop-seat-preserved g c x there front same =
    let row = g.T.PlanRow.row_of x in
    let found = c.seats_of-found.result.now in
    let index = c.loop-seat.seat-index in
    let seat = c.seat-item.result in
    let more : take (index + 1) found ≡ take index found ++ seat ∷ [] = take_more found index seat c.loop-seat-test.true
    ∙ ap (λ y. take index found ++ y ∷ []) (sym c.seat-item.is) in
    elim (Contains-append_cases (take index found) (seat ∷ []) (seat_of row) (subst (λ l. Contains l (seat_of row)) more
    front)) [
      | inl before ↦ c.loop-seat.invariant x there before same
      | inr last ↦ c.in-None.ensures x ((c.with_key.ensures.all x).1
          (there, ap key_at (sym (one_is seat (seat_of row) last)))) same
    ]

pub returns : goal.returns
returns g c x there same =
    let seats = c.args.seats.now in
    let row = g.T.PlanRow.row_of x in
    let found = c.seats_of-found.result.now in
    let whole : take c.loop-seat.seat-index found ≡ found = take_all c.loop-seat.seat-index found (omega arith) in
    let held = (c.seats_of-found.ensures (seat_of row)).1
    (seat_held seats (seat_of row) (c.requires x there), same) in
    c.loop-seat.invariant x there (subst (λ l. Contains l (seat_of row)) (sym whole) held) same
