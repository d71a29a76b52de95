-- Arrivals in blocks.
use Rattle.std.proofs.Common.{◌≡◌, ◌↔◌, ◌⊎◌, ℕ, ◌+◌, ◌<◌, true, false, List, [], ◌∷◌, ◌++◌, length, get_or, take, drop}
use Rattle.std.proofs.Common.{sym, ap, subst, ◌∙◌, inl, inr}
use Rattle.std.specs.List.{Contains}
use Rattle.std.specs.Ordering.{is_eq}
use Rattle.std.proofs.lemmas.List.{take-append-drop, take_more}
use Rattle.std.proofs.lemmas.List.Elements.{Contains-append_cases, Contains-append_left, Contains-append_right}
use Rattle.std.proofs.lemmas.List.Folds.{Any-from_list_any}
use Rattle.external_dependencies.specs.Arrival.{arrival_cmp}
use Rattle.external_dependencies.specs.declared.live.Arrival.{Arrival}
use Rattle.external_dependencies.proofs.NearestLemmas.{arrival_ties, arrival_total}
use Rattle.plan_store_lists.specs.Blocks.{items_in}
use Rattle.plan_store_lists.specs.Keyed.{LacksKey, holds_key}
use Rattle.plan_store_lists.specs.declared.blocks.Block.{Block}
use Rattle.plan_store_lists.proofs.BlockLemmas.{contains_items}
use Rattle.plan_store_lists.proofs.KeyLemmas.{contains_first, holds_lacks, one_is}
use Rattle.plan_store_lists.proofs.RunLemmas.{items_more}
use Rattle.plan_store_lists.proofs.SeatLemmas.{equal_from}

abbrev pub itself : Arrival → Arrival
itself arrival = arrival

-- a test for an arrival
pub arrival_held : (all : List Arrival) (arrival : Arrival) → holds_key arrival_cmp itself all arrival ≡ true
    → Contains all arrival
arrival_held all arrival is =
    let (k, s, lt, at, same) = Any-from_list_any (λ (s : Arrival). is_eq (arrival_cmp s arrival)) all is in
    subst (Contains all) (arrival_ties s arrival (equal_from (arrival_cmp s arrival) same)) (k, lt, at)

pub arrival_lacks : (all : List Arrival) (arrival : Arrival) → holds_key arrival_cmp itself all arrival ≡ false
    → LacksKey itself all arrival
arrival_lacks all arrival is = holds_lacks arrival_total arrival_ties itself all arrival is

module _ {X : Type 0} where
  -- items at the front are items
  pub of_front : (i : ℕ) (xs : List X) (x : X) → Contains (take i xs) x → Contains xs x
  of_front i xs x there = subst (λ (l : List X). Contains l x) (take-append-drop i xs)
      (Contains-append_left (take i xs) (drop i xs) x there)

  -- the items up to a place
  module _ (xs : List X) (i : ℕ) (item : X) (lt : i < length xs) (at : item ≡ get_or xs i item) where
    front : take (i + 1) xs ≡ take i xs ++ item ∷ []
    front = take_more xs i item lt ∙ ap (λ x. take i xs ++ x ∷ []) (sym at)

    pub front_cases : (x : X) → Contains (take (i + 1) xs) x ↔ (Contains (take i xs) x ⊎ (item ≡ x))
    front_cases x = (
      (λ there. elim (Contains-append_cases (take i xs) (item ∷ []) x (subst (λ (l : List X). Contains l x) front there)) [
        | inl before ↦ inl before
        | inr last ↦ inr (one_is item x last)
      ]),
      λ either. subst (λ (l : List X). Contains l x) (sym front) (elim either [
        | inl before ↦ Contains-append_left (take i xs) (item ∷ []) x before
        | inr same ↦ subst (Contains (take i xs ++ item ∷ [])) same
            (Contains-append_right (take i xs) (item ∷ []) item (contains_first item []))
      ]),
    )

-- the items of the blocks up to a place
module _ {X : Type 0} (blocks : List (Block (List ℕ) X)) (i : ℕ) (block : Block (List ℕ) X) (lt : i < length blocks)
    (at : block ≡ get_or blocks i block) where
  pub front_items : (x : X) → Contains (items_in (take (i + 1) blocks)) x
      ↔ (Contains (items_in (take i blocks)) x ⊎ Contains block.items.items x)
  front_items x = (
    (λ there. Contains-append_cases (items_in (take i blocks)) block.items.items x
        (subst (λ (l : List X). Contains l x) (items_more blocks i block lt at) there)),
    λ either. subst (λ (l : List X). Contains l x) (sym (items_more blocks i block lt at)) (elim either [
      | inl before ↦ Contains-append_left (items_in (take i blocks)) block.items.items x before
      | inr own ↦ Contains-append_right (items_in (take i blocks)) block.items.items x own
    ]),
  )

  pub block_item : (x : X) → Contains block.items.items x → Contains (items_in blocks) x
  block_item x there = (contains_items blocks x).1 (block, (i, lt, sym at), there)

-- items of the blocks at the front are items of the blocks
pub of_front_blocks : {X : Type 0} (i : ℕ) (blocks : List (Block (List ℕ) X)) (x : X)
    → Contains (items_in (take i blocks)) x → Contains (items_in blocks) x
of_front_blocks i blocks x there =
    let (block, at, own) = (contains_items (take i blocks) x).0 there in
    (contains_items blocks x).1 (block, of_front i blocks block at, own)
