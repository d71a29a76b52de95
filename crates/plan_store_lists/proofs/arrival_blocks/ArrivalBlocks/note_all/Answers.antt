use Rattle.std.proofs.Common.{List, inl, inr, subst}
use Rattle.std.specs.List.{Contains}
use Rattle.external_dependencies.specs.Nearest.{arrival_of}
use Rattle.plan_store_lists.proofs.ArrivalBlockLemmas.{block_item, front_items, of_front_blocks}
use Rattle.plan_store_lists.proofs.arrival_blocks.ArrivalBlocks.note_all.Goals as goal

pub returns-in_err-note-clause-come : goal.returns-in_err-note-clause-come
returns-in_err-note-clause-come g c a there =
    let blocks = c.blocks-blocks.result.now in
    let whole = c.blocks-blocks.ensures.all in
    let i = c.loop-block.block-index in
    elim (c.note.ensures.come a there) [
      | inl earlier ↦ elim (c.loop-block.invariant.come a earlier) [
        | inl was ↦ inl was
        | inr (x, early, is) ↦ inr (
          x,
          subst (λ (l : List g.row.T.Denot). Contains l x) whole (of_front_blocks i blocks x early),
          is,
        )
      ]
      | inr (x, own, is) ↦ inr (
        x,
        subst (λ (l : List g.row.T.Denot). Contains l x) whole (block_item blocks i c.block-item.result
            c.loop-block-test.true c.block-item.is x (rw c.items.ensures at own)),
        is,
      )
    ]

pub loop-block-preserved : goal.loop-block-preserved
loop-block-preserved g c =
    let blocks = c.blocks-blocks.result.now in
    let cases = front_items blocks c.loop-block.block-index c.block-item.result c.loop-block-test.true c.block-item.is in
    let before = c.loop-block.invariant in
    record {
      stay = λ a there. c.note.ensures.stay a (before.stay a there);
      come = λ a there. elim (c.note.ensures.come a there) [
        | inl earlier ↦ elim (before.come a earlier) [
          | inl was ↦ inl was
          | inr (x, early, is) ↦ inr (x, (cases x).1 (inl early), is)
        ]
        | inr (x, own, is) ↦ inr (x, (cases x).1 (inr (rw c.items.ensures at own)), is)
      ];
      noted = λ x there. elim ((cases x).0 there) [
        | inl early ↦ c.note.ensures.stay (arrival_of (g.T.PlanRow.row_of x)) (before.noted x early)
        | inr own ↦ c.in_ok-note.ensures.noted x (rw c.items.ensures own)
      ];
    }

pub returns-clause-come : goal.returns-clause-come
returns-clause-come g c a there =
    elim (c.loop-block.invariant.come a there) [
      | inl was ↦ inl was
      | inr (x, early, is) ↦ inr (
        x,
        subst (λ (l : List g.row.T.Denot). Contains l x) c.blocks-blocks.ensures.all
            (of_front_blocks c.loop-block.block-index c.blocks-blocks.result.now x early),
        is,
      )
    ]
