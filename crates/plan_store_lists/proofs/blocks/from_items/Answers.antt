use Rattle.std.proofs.Common.{◌≡◌, ◌∙◌, List, [], ap, subst, inl, inr}
use Rattle.std.specs.List.{Contains}
use Rattle.plan_store_lists.specs.Blocks.{items_in, items_of}
use Rattle.plan_store_lists.proofs.KeyLemmas.{nothing}
use Rattle.plan_store_lists.proofs.blocks.from_items.Goals as goal

pub returns-clause-same : goal.returns-clause-same
returns-clause-same g c x =
    let inserted = c.insert_into.ensures.inserted in
    let none : items_of c.reserve_for.new.list ≡ [] = c.reserve_for.ensures.same
    ∙ ap (λ bs. items_in bs) c.new-list.ensures in (
      (λ there. elim ((inserted x).0 there) [
        | inl given ↦ given
        | inr old ↦ absurd (nothing x (subst (λ (l : List g.row.T.Denot). Contains l x) none old))
      ]),
      λ there. (inserted x).1 (inl there),
    )
