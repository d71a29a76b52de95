use Rattle.std.proofs.Common.{◌≡◌, ◌∙◌, ◌+◌, ◌++◌, ◌∷◌, [], take, sym, ap, subst, arith, inl, inr, refl}
use Rattle.std.proofs.lemmas.List.{take_more, take_all}
use Rattle.plan_store_lists.specs.Keyed.{LacksKey}
use Rattle.plan_store_lists.proofs.KeyLemmas.{nothing}
use Rattle.plan_store_lists.proofs.EditLemmas.{replaced_more, lacks_front}
use Rattle.plan_store_lists.proofs.changes.replace_all.Goals as goal

pub loop-item-init : goal.loop-item-init
loop-item-init g c = record {
  length = refl;
  capacity = refl;
  keyed = c.requires.keyed;
  has = λ k has. has;
  replaced = λ x. (
    (λ there. inr (there, λ y at_y _. absurd (nothing y at_y))),
    λ both.
        elim both [ inl none ↦ absurd (nothing x none) | inr stays ↦ stays.0 ],
  );
}

pub replace_one-requires-clause-stands : goal.replace_one-requires-clause-stands
replace_one-requires-clause-stands g c =
    let item = c.item-item.result in
    c.loop-item.invariant.has (g.T.Keyed.key_of item)
    (c.requires.stand item (c.loop-item.item-index, c.loop-item-test.true, sym c.item-item.is))

pub loop-item-preserved : goal.loop-item-preserved
loop-item-preserved g c =
    let key = g.T.Keyed.key_of in
    let items = c.args.items.now in
    let item = c.item-item.result in
    let index = c.loop-item.item-index in
    let front : take (index + 1) items ≡ take index items ++ item ∷ [] = take_more items index item
    c.loop-item-test.true ∙ ap (λ x. take index items ++ x ∷ []) (sym c.item-item.is) in
    let lacks : LacksKey key (take index items) (key item) = subst (λ y. LacksKey key (take index items) (key y))
    (sym c.item-item.is) (lacks_front g.met.T.Key.Ord.total g.met.T.Keyed.ties key items c.requires.apart index item
    c.loop-item-test.true) in
    record {
      length = c.replace_one.ensures.length ∙ c.loop-item.invariant.length;
      capacity = c.replace_one.ensures.capacity ∙ c.loop-item.invariant.capacity;
      keyed = c.replace_one.ensures.keyed;
      has = λ k has. c.replace_one.ensures.stand k (c.loop-item.invariant.has k has);
      replaced = rw front (replaced_more g.met.T.Key.Ord.total g.met.T.Keyed.ties key c.args.list.now.items
          c.loop-item.list.items c.replace_one.new.list.items (take index items) item lacks
          c.loop-item.invariant.replaced c.replace_one.ensures.replaced);
    }

pub returns-clause-replaced : goal.returns-clause-replaced
returns-clause-replaced g c =
    let whole : take c.loop-item.item-index c.args.items.now ≡ c.args.items.now = take_all c.loop-item.item-index
    c.args.items.now (omega arith) in
    rw whole at c.loop-item.invariant.replaced
