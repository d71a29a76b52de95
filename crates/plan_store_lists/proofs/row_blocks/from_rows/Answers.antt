use Rattle.std.proofs.Common.{◌≡◌, ◌∙◌, [], ap, subst, inl, inr}
use Rattle.std.specs.List.{Contains}
use Rattle.plan_store_lists.specs.Blocks.{items_in, items_of}
use Rattle.plan_store_lists.proofs.KeyLemmas.{nothing}
use Rattle.plan_store_lists.proofs.RowBlockLemmas.{rows_keyed, rows_unique}
use Rattle.plan_store_lists.proofs.row_blocks.from_rows.Goals as goal

pub returns-clause-same : goal.returns-clause-same
returns-clause-same g c =
    let list = c.insert_rows.new.list in
    let inserted = c.insert_rows.ensures.inserted in
    let none : items_of c.reserve_rows.new.list ≡ [] = c.reserve_rows.ensures.same
    ∙ ap (λ bs. items_in bs) c.new-list.ensures in
    rows_unique g.T.PlanRow.row_of (items_of list) c.args.rows.now
    (rows_keyed g.T.PlanRow.row_of list c.insert_rows.ensures.blocks) c.requires (λ x. (
      (λ there. elim ((inserted x).0 there) [
        | inl given ↦ given
        | inr old ↦ absurd (nothing x (subst (λ l. Contains l x) none old))
      ]),
      λ there. (inserted x).1 (inl there),
    ))
