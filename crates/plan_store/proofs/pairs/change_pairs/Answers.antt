use Rattle.std.proofs.Common.{◌≡◌, ◌↔◌, ◌∙◌, ap, inl, inr, refl, rules, subst, true, false}
use Rattle.std.specs.Prelude.{filter}
use Rattle.std.specs.declared.cmp.Ordering.TheVariants.{Less}
use Rattle.std.specs.List.{Contains}
use Rattle.std.proofs.lemmas.Bool.{not-true, not_from_false}
use Rattle.std.proofs.lemmas.Fn.{filter_same}
use Rattle.std.proofs.lemmas.List.Kept.{AllPairs-filter}
use Rattle.external_dependencies.specs.Pair.{pair_cmp}
use Rattle.external_dependencies.specs.declared.pairs.Pair.{Pair}
use Rattle.std.specs.Ordering.{nat_cmp}
use Rattle.plan_store_lists.specs.Blocks.{items_of}
use Rattle.plan_store_lists.specs.PairBlocks.{pair_group}
use Rattle.plan_store_lists.proofs.RoomLemmas.{room_of_part}
use Rattle.plan_store_lists.specs.Keyed.{holds_key}
use Rattle.external_dependencies.proofs.PairLemmas.{pair_ties}
use Rattle.plan_store_lists.proofs.KeyLemmas.{contains_filter, filter_contains, holds_lacks}
use Rattle.plan_store.specs.Changes.{pairs_after}
use Rattle.plan_store.proofs.PairLemmas.{held_pair, is_new, itself, pair_total, pairs_after_contains}
use Rattle.plan_store.proofs.PairLemmas.{pairs_after_rising, pairs_rise, same_pairs}
use Rattle.plan_store.proofs.pairs.change_pairs.Goals as goal

pub insert_into-requires-clause-sorted : goal.insert_into-requires-clause-sorted
insert_into-requires-clause-sorted c =
    let rest = items_of c.remove_from.new.list in
    let kept : c.retain.new.self.items ≡ filter (is_new rest) c.into_vec-new.result.items = filter_same _ (is_new rest)
    _ (λ x b f' k. search rules) _ _ c.retain.ensures.filtered in
    rw (c.deref.ensures.value, kept, c.into_vec-new.ensures.all) (AllPairs-filter (λ x y. pair_cmp x y ≡ Less)
    (is_new rest) c.args.change.added c.into_vec-new.ensures.rising)

pub insert_into-requires-clause-new : goal.insert_into-requires-clause-new
insert_into-requires-clause-new c =
    let rest = items_of c.remove_from.new.list in
    let kept : c.retain.new.self.items ≡ filter (is_new rest) c.into_vec-new.result.items = filter_same _ (is_new rest)
    _ (λ x b f' k. search rules) _ _ c.retain.ensures.filtered in
    rw (c.deref.ensures.value, kept) (λ x there. holds_lacks pair_total pair_ties itself rest x
    (not-true _ (contains_filter (is_new rest) c.into_vec-new.result.items x there).1))

pub insert_into-requires-clause-room : goal.insert_into-requires-clause-room
insert_into-requires-clause-room c =
    let rest = items_of c.remove_from.new.list in
    let kept : c.retain.new.self.items ≡ filter (is_new rest) c.into_vec-new.result.items = filter_same _ (is_new rest)
    _ (λ x b f' k. search rules) _ _ c.retain.ensures.filtered in
    rw (c.deref.ensures.value, kept, c.into_vec-new.ensures.all) (room_of_part nat_cmp pair_group (is_new rest)
    c.args.change.added c.remove_from.new.list.blocks.items
    (λ x there. c.remove_from.ensures.stays _ _ (c.requires.room x there)))

pub returns-clause-changed : goal.returns-clause-changed
returns-clause-changed c =
    let change = c.args.change in
    let pairs = items_of c.args.pairs.now in
    let rest = items_of c.remove_from.new.list in
    let new = items_of c.insert_into.new.list in
    let kept : c.retain.new.self.items ≡ filter (is_new rest) c.into_vec-new.result.items = filter_same _ (is_new rest)
    _ (λ x b f' k. search rules) _ _ c.retain.ensures.filtered in
    let fresh : c.deref.result.now ≡ filter (is_new rest) change.added = c.deref.ensures.value ∙ kept
    ∙ ap (filter (is_new rest)) c.into_vec-new.ensures.all in
    let removed = rw c.as_slice.ensures.all at c.remove_from.ensures.removed in
    let inserted = rw fresh at c.insert_into.ensures.inserted in
    let same : (z : Pair) → Contains new z ↔ Contains (pairs_after change pairs) z = λ z.
    let after = pairs_after_contains change pairs z in (
      (λ there. elim ((inserted z).0 there) [
        | inl in_fresh ↦ after.1 (inl (contains_filter (is_new rest) change.added z in_fresh).0)
        | inr old ↦ let is = (removed z).0 old in after.1 (inr (is.0, λ gone. is.1 z gone refl))
      ]),
      λ there. elim (after.0 there) [
        | inl added ↦ elim (holds_key pair_cmp itself rest z) as (λ b. holds_key pair_cmp itself rest z ≡ b
            → Contains new z) [
              | true ↦ λ is. (inserted z).1 (inr (held_pair rest z is))
              | false ↦ λ is. (inserted z).1 (inl (filter_contains (is_new rest) change.added z added
                  (not_from_false _ is)))
            ] refl
        | inr old ↦ (inserted z).1 (inr
            ((removed z).1 (old.0, λ y at_y same. old.1 (subst (Contains change.removed) same at_y))))
      ],
    ) in
    same_pairs new (pairs_after change pairs) (pairs_rise c.insert_into.new.list c.insert_into.ensures.blocks)
    (pairs_after_rising change pairs (pairs_rise c.args.pairs.now c.requires.blocks)) same
