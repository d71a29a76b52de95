-- Lists of drafts: the drafts of one kind make one list.
use Rattle.std.proofs.Common.{◌≡◌, List}
use Rattle.occurrences.specs.Key.{KeyBefore}
use Rattle.occurrences.specs.Order.{IsStrictOrder}
use Rattle.occurrences.proofs.KeyLemmas.{key_strict}
use Rattle.planner_machine.specs.declared.content.Draft.{Draft}
use Rattle.planner_machine.specs.Drafts.{AreDrafts}
use Rattle.planner_machine.proofs.RisingLemmas.{one_list}

abbrev DraftBefore : Draft → Draft → Type 0
DraftBefore a b = KeyBefore a.key b.key

draft_strict : IsStrictOrder DraftBefore
draft_strict = record {
  irreflexive = λ a. key_strict.irreflexive a.key;
  transitive = λ a b c. key_strict.transitive a.key b.key c.key;
}

pub one_plan : (Is : Draft → Type 0) (xs ys : List Draft) → AreDrafts Is xs → AreDrafts Is ys → xs ≡ ys
one_plan Is xs ys a b = one_list DraftBefore draft_strict xs ys a.rising b.rising
    (λ z h. (b.exactly z).1 ((a.exactly z).0 h)) (λ z h. (a.exactly z).1 ((b.exactly z).0 h))
