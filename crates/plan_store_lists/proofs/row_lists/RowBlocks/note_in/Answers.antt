use Rattle.std.proofs.Common.{OnOk, subst, sym}
use Rattle.plan_store_lists.specs.RowLists.{RowList}
use Rattle.plan_store_lists.specs.Rows.{HasEachOnce}
use Rattle.plan_store_lists.specs.Seats.{HasSeats}
use Rattle.plan_store_lists.proofs.row_lists.RowBlocks.note_in.Goals as goal

pub note_blocks-requires : goal.note_blocks-requires
note_blocks-requires g c = record {
  once = subst (λ (v : RowList g.row.T.Denot). HasEachOnce g.T.PlanRow.row_of v.items) (sym c.self.view_is) c.requires;
}

pub returns-clause-noted : goal.returns-clause-noted
returns-clause-noted g c =
    subst (λ (v : RowList g.row.T.Denot). OnOk c.note_blocks.result (HasSeats g.T.PlanRow.row_of v.items
    c.note_blocks.new.seats)) c.self.view_is c.note_blocks.ensures.noted
