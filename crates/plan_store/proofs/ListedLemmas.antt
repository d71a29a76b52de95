-- Rows and pairs in the order of listings.
use Rattle.std.proofs.Common.{◌≡◌, ◌≢◌, ◌↔◌, ℕ, zero, suc, ◌+◌, ◌<◌, List, [], ◌∷◌, ◌++◌, length, get_or}
use Rattle.std.proofs.Common.{take, drop, map, false, refl, sym, ap, subst, ◌∙◌, inl, inr, arith, rules, append_assoc}
use Rattle.std.specs.List.{AllPairs, Contains}
use Rattle.std.specs.List.Sorted.{IsPermutation, IsSortedByKey}
use Rattle.std.specs.Ordering.{is_lt, MatchOrdering}
use Rattle.std.specs.declared.cmp.Ordering.TheVariants.{Less, Equal}
use Rattle.std.proofs.lemmas.Cmp.{tied_itself}
use Rattle.std.proofs.lemmas.List.{get_or-map, length-map, map-append}
use Rattle.std.proofs.lemmas.List.Elements.{Contains-get_or}
use Rattle.std.proofs.lemmas.List.Sorted.{IsPermutation-map, IsPermutation-sym, Contains-permutation}
use Rattle.occurrences.specs.Row.{RowBefore, row_cmp}
use Rattle.occurrences.specs.declared.row.Row.{Row}
use Rattle.occurrences.specs.contracts.row.RowOrd.TheImpl.{ghosts}
use Rattle.occurrences.proofs.RowLemmas.{row_cmp_total, row_equal, row_ranks}
use Rattle.plan_store_lists.specs.Blocks.{items_in}
use Rattle.plan_store_lists.specs.Rows.{AreRows}
use Rattle.plan_store_lists.specs.declared.blocks.Block.{Block}
use Rattle.plan_store_lists.proofs.EditLemmas.{sorted_keyed}
use Rattle.plan_store_lists.proofs.KeyLemmas.{contains_cases, contains_first, contains_later, nothing}
use Rattle.plan_store_lists.proofs.RunLemmas.{items_more}
use Rattle.plan_store.specs.Listed.{SortsRows}
use Rattle.plan_store.specs.Listings.{Shown, AcceptsAll}
use Rattle.plan_store.specs.declared.listings.SinkFault.{SinkFault}
use Rattle.plan_store.specs.declared.listings.ListFault.TheVariants.{Device, Sink}
use Rattle.plan_store.proofs.ViewLemmas.{once_from_rows}

-- rows compare so
rows_compare : (a b : Row) → ghosts.cmp a b ≡ row_cmp a b
rows_compare a b = search rules

sorted_by_rows : {X : Type 0} (key : X → Row) (xs : List X) → IsSortedByKey key ghosts.cmp xs
    → IsSortedByKey key row_cmp xs
sorted_by_rows key xs h k d low high = ap is_lt (sym (rows_compare (key (get_or xs (k + 1) d)) (key (get_or xs k d))))
    ∙ h k d low high

-- elements of what is mapped
module _ {X Y : Type 0} (f : X → Y) where
  pub from_map : (xs : List X) (z : Y) → Contains (map f xs) z → (x : X) × Contains xs x × (f x ≡ z)
  from_map [] z there = absurd (nothing z there)
  from_map (x ∷ xs) z there = elim (contains_cases (f x) z (map f xs) there) [
    | inl at ↦ (x, contains_first x xs, at)
    | inr later ↦ let (y, among, is) = from_map xs z later in (y, contains_later x y xs among, is)
  ]

  pub to_map : (xs : List X) (x : X) → Contains xs x → Contains (map f xs) (f x)
  to_map [] x there = absurd (nothing x there)
  to_map (y ∷ ys) x there = elim (contains_cases y x ys there) [
    | inl at ↦ subst (Contains (map f (y ∷ ys))) (ap f at) (contains_first (f y) (map f ys))
    | inr later ↦ contains_later (f y) (f x) (map f ys) (to_map ys x later)
  ]

  pub pairs_map : (R : Y → Y → Type 0) (xs : List X) → AllPairs (λ x y. R (f x) (f y)) xs → AllPairs R (map f xs)
  pairs_map R [] all i j d below lt = absurd (omega arith)
  pairs_map R (x ∷ xs) all i j d below lt =
      let zs = x ∷ xs in
      let long : j < length zs = omega (arith, length-map zs f) in
      let one : get_or (map f zs) i d ≡ f (get_or zs i x) = get_or-map f zs i x d (omega arith) in
      let two : get_or (map f zs) j d ≡ f (get_or zs j x) = get_or-map f zs j x d long in
      subst (λ u. R u (get_or (map f zs) j d)) (sym one) (subst (λ u. R (f (get_or zs i x)) u) (sym two)
      (all i j x below long))

  sorted_map : (key : Y → Row) (xs : List X) → IsSortedByKey (λ x. key (f x)) ghosts.cmp xs
      → IsSortedByKey key ghosts.cmp (map f xs)
  sorted_map key [] all k d low high = absurd (omega arith)
  sorted_map key (x ∷ xs) all k d low high =
      let zs = x ∷ xs in
      let long : k + 1 < length zs = omega (arith, length-map zs f) in
      let one : get_or (map f zs) (k + 1) d ≡ f (get_or zs (k + 1) x) = get_or-map f zs (k + 1) x d long in
      let two : get_or (map f zs) k d ≡ f (get_or zs k x) = get_or-map f zs k x d (omega arith) in
      subst (λ u. is_lt (ghosts.cmp (key u) (key (get_or (map f zs) k d))) ≡ false) (sym one)
      (subst (λ u. is_lt (ghosts.cmp (key (f (get_or zs (k + 1) x))) (key u)) ≡ false) (sym two) (all k x low long))

-- rows of a set that are sorted rise
module _ {X : Type 0} (row_of : X → Row) (xs ys : List X) (moves : IsPermutation xs ys)
    (sorted : IsSortedByKey row_of ghosts.cmp ys) where
  same_rows : (x : X) → Contains ys x ↔ Contains xs x
  same_rows x = (Contains-permutation _ _ x (IsPermutation-sym _ _ moves), Contains-permutation _ _ x moves)

  apart_rows : AreRows row_of xs → (i j : ℕ) (d : X) → i < j → j < length xs → row_of (get_or xs i d)
      ≡ row_of (get_or xs j d) → ⊥
  apart_rows rows i j d below lt same = once_from_rows row_of xs rows i j d below lt (ap (λ (r : Row). r.serial) same)

  rows_rise : AreRows row_of xs → AllPairs (λ x y. RowBefore (row_of x) (row_of y)) ys
  rows_rise rows i j d below lt =
      let a = get_or ys i d in
      let b = get_or ys j d in
      let less : row_cmp (row_of a) (row_of b) ≡ Less = sorted_keyed row_cmp_total row_equal row_of xs ys
      (apart_rows rows) moves (sorted_by_rows row_of ys sorted) i j d below lt in
      let apart : (row_of a).serial ≢ (row_of b).serial = λ same.
      let one : a ≡ b = rows.one_each a b ((same_rows a).0 (Contains-get_or ys i d (omega arith)))
      ((same_rows b).0 (Contains-get_or ys j d lt)) same in
      let tied : row_cmp (row_of a) (row_of b) ≡ Equal = subst (λ (y : X). row_cmp (row_of a) (row_of y) ≡ Equal) one
      (tied_itself row_cmp_total (row_of a)) in
      not_both (sym less ∙ tied) in
      subst (λ o. MatchOrdering o (RowBefore (row_of a) (row_of b)) ⊥ (RowBefore (row_of b) (row_of a))) less
      (row_ranks (row_of a) (row_of b) apart)
    where
      not_both : Less ≡ Equal → ⊥
      not_both is = cc

  pub in_order : SortsRows row_of xs ys
  in_order = record { rising = rows_rise; same = same_rows }

-- the same of references to them
pub in_order_by : {X B : Type 0} (now : B → X) (row_of : X → Row) (bs cs : List B) → IsPermutation bs cs
    → IsSortedByKey (λ b. row_of (now b)) ghosts.cmp cs → SortsRows row_of (map now bs) (map now cs)
in_order_by now row_of bs cs moves sorted =
    in_order row_of (map now bs) (map now cs) (IsPermutation-map now bs cs moves) (sorted_map now row_of cs sorted)

-- the rows of one block more
pub block_more : {X : Type 0} (first : List X) (blocks : List (Block (List ℕ) X)) (index : ℕ) (block : Block (List ℕ) X)
    (old new part : List X) → index < length blocks → block ≡ get_or blocks index block → part ≡ block.items.items
    → old ≡ first ++ items_in (take index blocks) → new ≡ old ++ part → new ≡ first ++ items_in (take (index + 1) blocks)
block_more first blocks index block old new part lt at is_part is_old is =
    is ∙ (λ i. is_old i ++ is_part i) ∙ append_assoc first (items_in (take index blocks)) block.items.items
    ∙ ap (λ l. first ++ l) (sym (items_more blocks index block lt at))

-- and what they give
pub block_more_given : {X Y : Type 0} (f : X → Y) (first : List Y) (blocks : List (Block (List ℕ) X)) (index : ℕ)
    (block : Block (List ℕ) X) (old new : List Y) (part : List X) → index < length blocks
    → block ≡ get_or blocks index block → part ≡ block.items.items
    → old ≡ first ++ map f (items_in (take index blocks)) → new ≡ old ++ map f part
    → new ≡ first ++ map f (items_in (take (index + 1) blocks))
block_more_given f first blocks index block old new part lt at is_part is_old is =
    is ∙ (λ i. is_old i ++ map f (is_part i))
    ∙ append_assoc first (map f (items_in (take index blocks))) (map f block.items.items)
    ∙ ap (λ l. first ++ l) (sym (map-append f (items_in (take index blocks)) block.items.items)
    ∙ ap (map f) (sym (items_more blocks index block lt at)))

-- a sink that refuses is no device that fails
pub refused_apart : (fault : SinkFault) → Sink fault ≢ Device
refused_apart fault is = cc

-- one more item for a sink
pub takes_more : {K : Type 0} (Accepts : K → Shown → K → Type 0) (old : K) (items : List Shown) (last : K) (item : Shown)
    (new : K) → AcceptsAll Accepts old items last → Accepts last item new → AcceptsAll Accepts old (items ++ item ∷ []) new
takes_more Accepts old [] last item new all one = (new, subst (λ k. Accepts k item new) all one, refl)
takes_more Accepts old (x ∷ items) last item new all one = let (next, first, rest) = all in
    (next, first, takes_more Accepts next items last item new rest one)

-- what was handed out, and the rest
module _ {X Y : Type 0} (f : X → Y) where
  pub map_split : (i : ℕ) (xs : List X) → map f xs ≡ map f (take i xs) ++ map f (drop i xs)
  map_split zero xs = refl
  map_split (suc i) [] = refl
  map_split (suc i) (x ∷ xs) = ap (λ l. f x ∷ l) (map_split i xs)

  pub map_rest : (i : ℕ) (xs : List X) (x : X) → i < length xs → x ≡ get_or xs i x → map f (drop i xs)
      ≡ f x ∷ map f (drop (suc i) xs)
  map_rest i [] x lt at = absurd (omega arith)
  map_rest zero (y ∷ xs) x lt at = ap (λ z. f z ∷ map f xs) (sym at)
  map_rest (suc i) (y ∷ xs) x lt at = map_rest i xs x (omega arith) at
