use Rattle.std.proofs.Common.{◌≡◌, ◌∙◌, [], ◌∷◌, List, ap, inl, inr, subst, sym}
use Rattle.std.specs.List.{Contains}
use Rattle.external_dependencies.specs.Arrival.{arrival_cmp}
use Rattle.external_dependencies.specs.declared.live.Arrival.{Arrival}
use Rattle.plan_store_lists.specs.Blocks.{items_of}
use Rattle.plan_store_lists.specs.Keyed.{holds_key}
use Rattle.plan_store_lists.proofs.ArrivalBlockLemmas.{arrival_held, arrival_lacks, itself}
use Rattle.plan_store_lists.proofs.KeyLemmas.{contains_first, one_is}
use Rattle.plan_store_lists.proofs.arrival_blocks.ArrivalBlocks.note_one.Goals as goal

-- it is among them
pub returns-then-has_item-clause-noted : goal.returns-then-has_item-clause-noted
returns-then-has_item-clause-noted c a =
    let all = c.args.self.now in
    let held = arrival_held all c.args.arrival
    (ap (λ (l : List Arrival). holds_key arrival_cmp itself l c.args.arrival) (sym c.self.view_is)
    ∙ sym c.has_item.ensures ∙ c.if-has_item.true) in (
      (λ there. inl there),
      λ either. elim either [ inl there ↦ there | inr same ↦ subst (Contains all) same held ],
    )

pub insert_into-requires-clause-new : goal.insert_into-requires-clause-new
insert_into-requires-clause-new c x there other among same =
    arrival_lacks (items_of c.self.inside.blocks) c.args.arrival (sym c.has_item.ensures ∙ c.if-has_item.false) other
    (subst (λ (l : List Arrival). Contains l other) c.reserve_for.ensures.same among)
    (same ∙ sym (one_is c.args.arrival x there))

pub returns-clause-noted : goal.returns-clause-noted
returns-clause-noted c a =
    let stays : items_of c.reserve_for.new.list ≡ c.args.self.now = c.reserve_for.ensures.same ∙ c.self.view_is in (
      (λ there. elim ((c.insert_into.ensures.inserted a).0 there) [
        | inl own ↦ inr (one_is c.args.arrival a own)
        | inr was ↦ inl (subst (λ (l : List Arrival). Contains l a) stays was)
      ]),
      λ either. (c.insert_into.ensures.inserted a).1 (elim either [
        | inl was ↦ inr (subst (λ (l : List Arrival). Contains l a) (sym stays) was)
        | inr same ↦ inl (subst (Contains (c.args.arrival ∷ [])) same (contains_first c.args.arrival []))
      ]),
    )
