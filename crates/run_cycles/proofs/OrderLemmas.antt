-- Lists of occurrences in order.
use Rattle.std.proofs.Common.{◌≡◌, ◌⊎◌, ◌↔◌, List, [], ◌∷◌, ◌++◌, get_or, subst, ⊎_elim, inl, inr}
use Rattle.std.specs.Prelude.{Contains}
use Rattle.std.proofs.lemmas.List.Elements.{Contains-append_left, Contains-push, Contains-push_cases, Contains-get_or}
use Rattle.std.proofs.lemmas.List.Quantifiers.{all_pairs_push}
use Rattle.run_cycles.specs.declared.named.Named.{Named}
use Rattle.run_cycles.specs.Occurrence.{IsEarlier, ListsInOrder}

pub lists_same : (P Q : Named → Type 0) (xs : List Named) → ListsInOrder P xs →
    ((x : Named) → P x ↔ Q x) → ListsInOrder Q xs
lists_same P Q xs lists same = record {
  exactly = λ x. ((λ h. (same x).0 ((lists.exactly x).0 h)), λ q. (lists.exactly x).1 ((same x).1 q));
  in_order = lists.in_order;
}

pub lists_push : (P Q : Named → Type 0) (xs : List Named) (x : Named) →
    ListsInOrder P xs → ((y : Named) → P y → IsEarlier y x) →
    ((y : Named) → Q y ↔ (P y ⊎ (x ≡ y))) → ListsInOrder Q (xs ++ x ∷ [])
lists_push P Q xs x lists earlier says = record {
  exactly = λ y. (
    (λ h. (says y).1 (⊎_elim (λ i. inl ((lists.exactly y).0 i)) (λ e. inr e) (Contains-push_cases xs x y h))),
    λ q. ⊎_elim (λ p. Contains-append_left xs (x ∷ []) y ((lists.exactly y).1 p)) (λ e. let R : Named →
        Type 0 = λ z. Contains (xs ++ x ∷ []) z in subst R e (Contains-push xs x)) ((says y).0 q),
  );
  in_order = all_pairs_push IsEarlier xs x lists.in_order (λ k d in'.
      earlier (get_or xs k d) ((lists.exactly (get_or xs k d)).0 (Contains-get_or xs k d in')));
}
