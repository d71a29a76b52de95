use Rattle.std.proofs.Common.{◌≡◌, ◌∙◌, ◌+◌, ◌++◌, ◌∷◌, [], take, sym, ap, subst, arith, inl, inr}
use Rattle.std.proofs.lemmas.List.{take_more, take_all}
use Rattle.plan_store_lists.specs.Blocks.{items_of}
use Rattle.plan_store_lists.specs.Keyed.{LacksKey}
use Rattle.plan_store_lists.proofs.KeyLemmas.{nothing}
use Rattle.plan_store_lists.proofs.EditLemmas.{replaced_more, lacks_front}
use Rattle.plan_store_lists.proofs.blocks.replace_in.Goals as goal

pub loop-item-init : goal.loop-item-init
loop-item-init g c = record {
  blocks = c.requires.blocks;
  has = λ k has. has;
  stays = λ group count room. room;
  replaced = λ x. (
    (λ there. inr (there, λ y at_y _. absurd (nothing y at_y))),
    λ both.
        elim both [ inl none ↦ absurd (nothing x none) | inr stays ↦ stays.0 ],
  );
}

pub replace_one_in-requires-clause-stands : goal.replace_one_in-requires-clause-stands
replace_one_in-requires-clause-stands g c =
    let item = c.item-item.result in
    c.loop-item.invariant.has (g.T.Keyed.key_of item)
    (c.requires.stand item (c.loop-item.item-index, c.loop-item-test.true, sym c.item-item.is))

pub loop-item-preserved : goal.loop-item-preserved
loop-item-preserved g c =
    let key = g.T.Keyed.key_of in
    let items = c.args.items.now in
    let item = c.item-item.result in
    let index = c.loop-item.item-index in
    let front : take (index + 1) items ≡ take index items ++ item ∷ [] = take_more items index item
    c.loop-item-test.true ∙ ap (λ x. take index items ++ x ∷ []) (sym c.item-item.is) in
    let lacks : LacksKey key (take index items) (key item) = subst (λ y. LacksKey key (take index items) (key y))
    (sym c.item-item.is) (lacks_front g.met.T.Key.Ord.total g.met.T.Keyed.ties key items c.requires.apart index item
    c.loop-item-test.true) in
    record {
      blocks = c.replace_one_in.ensures.blocks;
      has = λ k has. c.replace_one_in.ensures.stand k (c.loop-item.invariant.has k has);
      stays = λ group count room. c.replace_one_in.ensures.stays group count
          (c.loop-item.invariant.stays group count room);
      replaced = rw front (replaced_more g.met.T.Key.Ord.total g.met.T.Keyed.ties key (items_of c.args.list.now)
          (items_of c.loop-item.list) (items_of c.replace_one_in.new.list) (take index items) item lacks
          c.loop-item.invariant.replaced c.replace_one_in.ensures.replaced);
    }

pub returns-clause-replaced : goal.returns-clause-replaced
returns-clause-replaced g c =
    let whole : take c.loop-item.item-index c.args.items.now ≡ c.args.items.now = take_all c.loop-item.item-index
    c.args.items.now (omega arith) in
    rw whole at c.loop-item.invariant.replaced
