use Rattle.std.proofs.Common.{◌≡◌, ◌+◌, ◌<◌, ◌++◌, List, length, get_or, take, sym, subst, rules}
use Rattle.plan_store_lists.specs.Blocks.{items_in}
use Rattle.plan_store_lists.specs.Rows.{HasEachOnce}
use Rattle.plan_store_lists.specs.Seats.{HasSeats}
use Rattle.plan_store_lists.proofs.BlockLemmas.{block_pairs}
use Rattle.plan_store_lists.proofs.RunLemmas.{items_more}
use Rattle.plan_store_lists.proofs.SeatLemmas.{seats_both, seats_stay}
use Rattle.plan_store_lists.proofs.seats.note_blocks.Goals as goal

pub note_rows-requires : goal.note_rows-requires
note_rows-requires g c =
    let row_of = g.T.PlanRow.row_of in
    let blocks = c.args.list.now.blocks.items in
    let block = c.block-item.result in
    let index = c.loop-block.block-index in
    let lt : index < length blocks = search rules in
    let at : block ≡ get_or blocks index block = search rules in
    record {
      once = subst (λ (l : List g.row.T.Denot). HasEachOnce row_of l) (sym c.deref.ensures.value)
          (block_pairs (λ x y. (row_of x).serial ≡ (row_of y).serial → ⊥) blocks block c.requires.once
          (index, lt, sym at));
    }

pub loop-block-preserved : goal.loop-block-preserved
loop-block-preserved g c =
    let row_of = g.T.PlanRow.row_of in
    let blocks = c.args.list.now.blocks.items in
    let block = c.block-item.result in
    let index = c.loop-block.block-index in
    let seats = c.note_rows.new.seats in
    let lt : index < length blocks = search rules in
    let at : block ≡ get_or blocks index block = search rules in
    let so_far = items_in (take index blocks) in
    let more : items_in (take (index + 1) blocks) ≡ so_far ++ block.items.items =
    items_more blocks index block lt at in
    let own : HasSeats row_of block.items.items seats = subst (λ (l : List g.row.T.Denot). HasSeats row_of l seats)
    c.deref.ensures.value c.in_ok-note_rows.ensures.noted in
    record {
      stay = λ seat there. c.note_rows.ensures.stay seat (c.loop-block.invariant.stay seat there);
      noted = subst (λ (l : List g.row.T.Denot). HasSeats row_of l seats) (sym more)
          (seats_both row_of so_far block.items.items seats
          (seats_stay row_of so_far c.loop-block.seats seats c.loop-block.invariant.noted c.note_rows.ensures.stay)
          own);
    }
