use Rattle.std.proofs.Common.{◌∙◌, ap, inl, inr, refl, subst, sym}
use Rattle.std.specs.List.{Contains}
use Rattle.external_dependencies.specs.Nearest.{arrival_of}
use Rattle.plan_store_lists.proofs.ArrivalBlockLemmas.{front_cases, of_front}
use Rattle.plan_store_lists.proofs.arrival_blocks.ArrivalBlocks.note.Goals as goal

pub returns-in_err-note_one-clause-stay : goal.returns-in_err-note_one-clause-stay
returns-in_err-note_one-clause-stay g c a there =
    rw c.in_err-note_one.ensures.same (c.loop-x.invariant.stay a there)

pub returns-in_err-note_one-clause-come : goal.returns-in_err-note_one-clause-come
returns-in_err-note_one-clause-come g c a there =
    elim (c.loop-x.invariant.come a (rw c.in_err-note_one.ensures.same at there)) [
      | inl was ↦ inl was
      | inr (x, early, is) ↦ inr (x, of_front c.loop-x.x-index c.args.rows.now x early, is)
    ]

pub loop-x-preserved : goal.loop-x-preserved
loop-x-preserved g c =
    let cases = front_cases c.args.rows.now c.loop-x.x-index c.x-item.result c.loop-x-test.true c.x-item.is in
    let noted = c.in_ok-note_one.ensures.noted in
    let own = c.arrival.ensures ∙ ap arrival_of c.row.ensures in
    let before = c.loop-x.invariant in
    record {
      stay = λ a there. (noted a).1 (inl (before.stay a there));
      come = λ a there. elim ((noted a).0 there) [
        | inl earlier ↦ elim (before.come a earlier) [
          | inl was ↦ inl was
          | inr (x, early, is) ↦ inr (x, (cases x).1 (inl early), is)
        ]
        | inr same ↦ inr (c.x-item.result, (cases c.x-item.result).1 (inr refl), sym own ∙ same)
      ];
      noted = λ x there. elim ((cases x).0 there) [
        | inl early ↦ (noted (arrival_of (g.T.PlanRow.row_of x))).1 (inl (before.noted x early))
        | inr same ↦ subst (λ y. Contains c.note_one.new.self (arrival_of (g.T.PlanRow.row_of y))) same
            ((noted (arrival_of (g.T.PlanRow.row_of c.x-item.result))).1 (inr own))
      ];
    }

pub returns-clause-come : goal.returns-clause-come
returns-clause-come g c a there =
    elim (c.loop-x.invariant.come a there) [
      | inl was ↦ inl was
      | inr (x, early, is) ↦ inr (x, of_front c.loop-x.x-index c.args.rows.now x early, is)
    ]
