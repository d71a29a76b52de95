-- Lists in blocks: where their items stand, and what a change of one block changes.
use Rattle.std.proofs.Common.{◌≡◌, ◌≢◌, ◌↔◌, ℕ, zero, suc, ◌+◌, ◌-◌, ◌<◌, ◌≤◌, ◌⊎◌, List, [], ◌∷◌, ◌++◌, length}
use Rattle.std.proofs.Common.{get_or, set, take, drop, refl, sym, ap, subst, ◌∙◌, inl, inr, arith, append_assoc}
use Rattle.std.proofs.Common.{vec_capacity, Ordering, true, false}
use Rattle.std.specs.declared.cmp.Ordering.TheVariants.{Less, Equal, Greater}
use Rattle.std.specs.List.{AllPairs, Contains, HoldsAt, insert}
use Rattle.std.specs.List.Sorted.{IsPartitionPoint}
use Rattle.std.specs.Cmp.{IsTotalOrder}
use Rattle.std.specs.FinMap.{IsAntisymmetric}
use Rattle.std.specs.Ordering.{ordering_reverse}
use Rattle.std.proofs.lemmas.Cmp.{tied_itself}
use Rattle.std.proofs.lemmas.Bool.{cases_lt, cases_eq, false≢true}
use Rattle.std.proofs.lemmas.List.{get_or_append_left, get_or-append_right, get_or-append-add, length-append, length-set}
use Rattle.std.proofs.lemmas.List.{get_or_default, get_or-set_same, get_or-set_other, take-append-drop}
use Rattle.std.proofs.lemmas.List.Edits.{length-insert, get_or-insert_at}
use Rattle.std.proofs.lemmas.List.Elements.{Contains-append_cases, Contains-append_left, Contains-append_right}
use Rattle.plan_store_lists.specs.Keyed.{HasKey, IsKeyed, LacksKey, holds_key}
use Rattle.plan_store_lists.specs.Blocks.{AreBlocks, GroupsRise, HasRoomAt, items_in}
use Rattle.plan_store_lists.specs.declared.blocks.Block.{Block}
use Rattle.plan_store_lists.proofs.KeyLemmas.{contains_first, contains_later, contains_cases, nothing, one_item}
use Rattle.plan_store_lists.proofs.KeyLemmas.{holds_none, holds_lacks}
use Rattle.plan_store_lists.proofs.SliceLemmas.{less_not_equal}
use Rattle.plan_store_lists.proofs.EditLemmas.{set_keyed, set_contains, insert_keyed, insert_contains}

-- two lists of pairs that also agree across
pub all_pairs_append : {X : Type 0} (R : X → X → Type 0) (xs ys : List X) → AllPairs R xs → AllPairs R ys
    → ((x y : X) → Contains xs x → Contains ys y → R x y) → AllPairs R (xs ++ ys)
all_pairs_append R xs ys front back across i j d below lt =
    let long = length-append xs ys in
    elim (cases_lt j (length xs)) [
      | inl in_j ↦ rw (get_or_append_left xs ys d i (omega arith), get_or_append_left xs ys d j in_j)
          (front i j d below in_j)
      | inr past_j ↦
          let in_ys : j - length xs < length ys = omega arith in
          elim (cases_lt i (length xs)) [
            | inl in_i ↦
                let x = get_or xs i d in
                let y = get_or ys (j - length xs) d in
                rw (get_or_append_left xs ys d i in_i, get_or-append_right xs ys (length xs) j d refl past_j)
                (across x y (i, in_i, get_or_default xs i x d in_i)
                (j - length xs, in_ys, get_or_default ys (j - length xs) y d in_ys))
            | inr past_i ↦ rw (
              get_or-append_right xs ys (length xs) i d refl past_i,
              get_or-append_right xs ys (length xs) j d refl past_j,
            ) (back (i - length xs) (j - length xs) d (omega arith) in_ys)
          ]
    ]

all_pairs_parts : {X : Type 0} (R : X → X → Type 0) (xs ys : List X) → AllPairs R (xs ++ ys) → AllPairs R xs
    × AllPairs R ys
all_pairs_parts R xs ys pairs =
    let long = length-append xs ys in (
      λ i j d below lt. rw (
        get_or_append_left xs ys d i (omega arith),
        get_or_append_left xs ys d j lt,
      ) at (pairs i j d below (omega arith)),
      λ i j d below lt. rw (
        get_or-append-add xs ys i d,
        get_or-append-add xs ys j d,
      ) at (pairs (length xs + i) (length xs + j) d (omega arith) (omega arith)),
    )

module _ {G X : Type 0} where
  block_of : (bs : List (Block G X)) (x : X) → Contains (items_in bs) x
      → (block : Block G X) × Contains bs block × Contains block.items.items x
  block_of [] x there = absurd (nothing x there)
  block_of (first ∷ bs) x there = elim (Contains-append_cases first.items.items (items_in bs) x there) [
    | inl here ↦ (first, contains_first first bs, here)
    | inr later ↦ let is = block_of bs x later in (is.0, contains_later first is.0 bs is.1, is.2)
  ]

  in_block : (bs : List (Block G X)) (x : X) (block : Block G X) → Contains bs block → Contains block.items.items x
      → Contains (items_in bs) x
  in_block [] x block at there = absurd (nothing block at)
  in_block (first ∷ bs) x block at there = elim (contains_cases first block bs at) [
    | inl is ↦ Contains-append_left first.items.items (items_in bs) x
        (subst (λ (b : Block G X). Contains b.items.items x) (sym is) there)
    | inr later ↦ Contains-append_right first.items.items (items_in bs) x (in_block bs x block later there)
  ]

  -- each item stands in a block
  pub contains_items : (bs : List (Block G X)) (x : X) → Contains (items_in bs) x
      ↔ ((block : Block G X) × Contains bs block × Contains block.items.items x)
  contains_items bs x = (λ there. block_of bs x there, λ (block, at, there). in_block bs x block at there)

  -- what holds of all pairs of items holds of those of a block
  pub block_pairs : (R : X → X → Type 0) (bs : List (Block G X)) (block : Block G X) → AllPairs R (items_in bs)
      → Contains bs block → AllPairs R block.items.items
  block_pairs R [] block pairs at = absurd (nothing block at)
  block_pairs R (first ∷ bs) block pairs at = elim (contains_cases first block bs at) [
    | inl is ↦ subst (λ (b : Block G X). AllPairs R b.items.items) is
        (all_pairs_parts R first.items.items (items_in bs) pairs).0
    | inr later ↦ block_pairs R bs block (all_pairs_parts R first.items.items (items_in bs) pairs).1 later
  ]

  pub items_append : (bs cs : List (Block G X)) → items_in (bs ++ cs) ≡ items_in bs ++ items_in cs
  items_append [] cs = refl
  items_append (first ∷ bs) cs = ap (λ xs. first.items.items ++ xs) (items_append bs cs)
      ∙ sym (append_assoc first.items.items (items_in bs) (items_in cs))

  -- an empty block more
  pub insert_empty : (bs : List (Block G X)) (i : ℕ) (block : Block G X) → block.items.items ≡ []
      → items_in (insert bs i block) ≡ items_in bs
  insert_empty bs i block none = items_append (take i bs) (block ∷ drop i bs)
      ∙ ap (λ xs. items_in (take i bs) ++ (xs ++ items_in (drop i bs))) none
      ∙ sym (items_append (take i bs) (drop i bs)) ∙ ap (λ cs. items_in cs) (take-append-drop i bs)

  -- a block that is written again
  pub set_same : (bs : List (Block G X)) (i : ℕ) (was item : Block G X) → i < length bs → get_or bs i was ≡ was
      → item.items.items ≡ was.items.items → items_in (set bs i item) ≡ items_in bs
  set_same [] i was item lt at same = absurd (omega arith)
  set_same (first ∷ bs) zero was item lt at same = ap (λ xs. xs ++ items_in bs)
      (same ∙ ap (λ (b : Block G X). b.items.items) (sym at))
  set_same (first ∷ bs) (suc i) was item lt at same = ap (λ xs. first.items.items ++ xs)
      (set_same bs i was item (omega arith) at same)

  -- one block is written
  module _ (bs : List (Block G X)) (i : ℕ) (lt : i < length bs) (was : Block G X) (at : was ≡ get_or bs i was)
      (item : Block G X) where
    pub stands : Contains (set bs i item) item
    stands = (i, omega (arith, length-set bs i item), get_or-set_same bs i item item lt)

    pub was_or_stays : (block : Block G X) → Contains bs block → (was ≡ block) ⊎ Contains (set bs i item) block
    was_or_stays block (k, lt_k, at_k) = elim (cases_eq k i) [
      | inl here ↦ inl (at ∙ get_or_default bs i was block lt ∙ subst (λ n. get_or bs n block ≡ block) here at_k)
      | inr other ↦ inr (k, omega (arith, length-set bs i item), get_or-set_other bs i k item block other ∙ at_k)
    ]

    pub new_or_old : (block : Block G X) → Contains (set bs i item) block → (item ≡ block) ⊎ Contains bs block
    new_or_old block (k, lt_k, at_k) = elim (cases_eq k i) [
      | inl here ↦ inl (sym (get_or-set_same bs i item block lt)
          ∙ subst (λ n. get_or (set bs i item) n block ≡ block) here at_k)
      | inr other ↦ inr (
        k,
        omega (arith, length-set bs i item),
        sym (get_or-set_other bs i k item block other) ∙ at_k,
      )
    ]

    pub set_room : was.group ≡ item.group → (group : G) (count : ℕ)
        → (group ≡ was.group → length was.items.items + count ≤ vec_capacity was.items
        → length item.items.items + count ≤ vec_capacity item.items) → HasRoomAt bs group count
        → HasRoomAt (set bs i item) group count
    set_room same group count fits (block, there, of, room) = elim (was_or_stays block there) [
      | inl is ↦
          let of_was : was.group ≡ group = ap (λ (b : Block G X). b.group) is ∙ of in (
            item,
            stands,
            sym same ∙ of_was,
            fits (sym of_was)
                (subst (λ (b : Block G X). length b.items.items + count ≤ vec_capacity b.items) (sym is) room),
          )
      | inr stays ↦ (block, stays, of, room)
    ]

module _ {G K X : Type 0} (group_cmp : G → G → Ordering) (cmp : K → K → Ordering) (group_of : X → G) (key : X → K)
  where
    blocks_later : (first : Block G X) (bs : List (Block G X)) → AreBlocks group_cmp cmp group_of key (first ∷ bs)
        → AreBlocks group_cmp cmp group_of key bs
    blocks_later first bs is = record {
      rise = λ i j d below lt. is.rise (suc i) (suc j) d (omega arith) (omega arith);
      keyed = λ b at. is.keyed b (contains_later first b bs at);
      grouped = λ b at. is.grouped b (contains_later first b bs at);
    }

    first_less : (first block : Block G X) (bs : List (Block G X)) → GroupsRise group_cmp (first ∷ bs)
        → Contains bs block → group_cmp first.group block.group ≡ Less
    first_less first block bs rise (k, lt, at) = subst
        (λ (b : Block G X). group_cmp first.group b.group ≡ Less) at (rise 0 (suc k) block (omega arith) (omega arith))

    -- the whole list is in the order of keys
    pub blocks_keyed : (bs : List (Block G X)) → AreBlocks group_cmp cmp group_of key bs
        → ((x y : X) → group_cmp (group_of x) (group_of y) ≡ Less → cmp (key x) (key y) ≡ Less)
        → IsKeyed cmp key (items_in bs)
    blocks_keyed [] is rises = λ i j d below lt. absurd (omega arith)
    blocks_keyed (first ∷ bs) is rises = all_pairs_append (λ x y. cmp (key x) (key y) ≡ Less) first.items.items
        (items_in bs) (is.keyed first (contains_first first bs)) (blocks_keyed bs (blocks_later first bs is) rises)
        (λ x y in_first in_later.
        let (block, at, there) = block_of bs y in_later in
        rises x y (rw (
          is.grouped first (contains_first first bs) x in_first,
          is.grouped block (contains_later first block bs at) y there,
        ) (first_less first block bs is.rise at)))

module _ {G K X : Type 0} {group_cmp : G → G → Ordering} (total : IsTotalOrder group_cmp)
    (ties : IsAntisymmetric group_cmp) (cmp : K → K → Ordering) (group_of : X → G) (key : X → K) where
  -- the items of a group are those of its block
  pub group_items : (bs : List (Block G X)) → AreBlocks group_cmp cmp group_of key bs → (block : Block G X)
      → Contains bs block → (x : X) → Contains block.items.items x ↔ (Contains (items_in bs) x
      × (group_of x ≡ block.group))
  group_items bs is block at x = (
    λ there. (in_block bs x block at there, is.grouped block at x there),
    λ (there, same).
        let (other, at', there') = block_of bs x there in
        subst (λ (b : Block G X). Contains b.items.items x) (one_item total ties (λ (b : Block G X). b.group) bs
        is.rise other block at' at (sym (is.grouped other at' x there') ∙ same)) there',
  )

  pub no_items : (bs : List (Block G X)) → AreBlocks group_cmp cmp group_of key bs → (group : G)
      → LacksKey (λ (b : Block G X). b.group) bs group → (x : X) → Contains (items_in bs) x → group_of x ≢ group
  no_items bs is group lacks x there same =
      let (block, at, there') = block_of bs x there in
      lacks block at (sym (is.grouped block at x there') ∙ same)

  -- the same at a place that a search found
  pub group_items_at : (bs : List (Block G X)) → AreBlocks group_cmp cmp group_of key bs → (i : ℕ) (block : Block G X)
      (group : G) → i < length bs → block ≡ get_or bs i block → HoldsAt (λ (b : Block G X). b.group ≡ group) bs i
      → (x : X) → Contains block.items.items x ↔ (Contains (items_in bs) x × (group_of x ≡ group))
  group_items_at bs is i block group lt at holds x =
      let same : block.group ≡ group = ap (λ (b : Block G X). b.group) at ∙ holds block in
      subst (λ h. Contains block.items.items x ↔ (Contains (items_in bs) x × (group_of x ≡ h))) same
      (group_items bs is block (i, lt, sym at) x)

  -- a block gets other items
  module _ (bs : List (Block G X)) (is : AreBlocks group_cmp cmp group_of key bs) (i : ℕ) (lt : i < length bs)
      (was : Block G X) (at : was ≡ get_or bs i was) (item : Block G X) (same : was.group ≡ item.group) where
    holds : HoldsAt (λ (b : Block G X). b.group ≡ item.group) bs i
    holds d = ap (λ (b : Block G X). b.group) (get_or_default bs i d was lt ∙ sym at) ∙ same

    was_in : Contains bs was
    was_in = (i, lt, sym at)

    pub set_blocks : IsKeyed cmp key item.items.items → ((x : X) → Contains item.items.items x → group_of x ≡ item.group)
        → AreBlocks group_cmp cmp group_of key (set bs i item)
    set_blocks keyed grouped = record {
      rise = set_keyed total ties (λ (b : Block G X). b.group) bs is.rise item i lt holds;
      keyed = λ block there. elim (new_or_old bs i lt was at item block there) [
        | inl new ↦ subst (λ (b : Block G X). IsKeyed cmp key b.items.items) new keyed
        | inr old ↦ is.keyed block old
      ];
      grouped = λ block there. elim (new_or_old bs i lt was at item block there) [
        | inl new ↦ subst (λ (b : Block G X). (x : X) → Contains b.items.items x → group_of x ≡ b.group) new grouped
        | inr old ↦ is.grouped block old
      ];
    }

    new_item : (x : X) → Contains item.items.items x → Contains (items_in (set bs i item)) x
    new_item x there = in_block (set bs i item) x item (stands bs i lt was at item) there

    old_item : (x : X) → Contains (items_in bs) x → Contains was.items.items x ⊎ Contains (items_in (set bs i item)) x
    old_item x there =
        let (block, at_block, in_it) = block_of bs x there in
        elim (was_or_stays bs i lt was at item block at_block) [
          | inl here ↦ inl (subst (λ (b : Block G X). Contains b.items.items x) (sym here) in_it)
          | inr stays ↦ inr (in_block (set bs i item) x block stays in_it)
        ]

    came_from : (x : X) → Contains (items_in (set bs i item)) x → Contains item.items.items x
        ⊎ (Contains (items_in bs) x × (group_of x ≢ item.group))
    came_from x there =
        let (block, at_block, in_it) = block_of (set bs i item) x there in
        elim ((set_contains total ties (λ (b : Block G X). b.group) bs is.rise item i lt holds block).0 at_block) [
          | inl here ↦ inl (subst (λ (b : Block G X). Contains b.items.items x) (sym here) in_it)
          | inr (old, apart) ↦ inr (
            in_block bs x block old in_it,
            λ same_group. apart (sym (is.grouped block old x in_it) ∙ same_group),
          )
        ]

    -- only those of its group change
    pub set_items : (x : X) → Contains (items_in (set bs i item)) x
        ↔ (Contains item.items.items x ⊎ (Contains (items_in bs) x × (group_of x ≢ item.group)))
    set_items x = (
      (λ there. came_from x there),
      λ there. elim there [
        | inl here ↦ new_item x here
        | inr (old, apart) ↦ elim (old_item x old) [
          | inl here ↦ absurd (apart (is.grouped was was_in x here ∙ same))
          | inr stays ↦ stays
        ]
      ],
    )

    -- more items of its group
    module _ (run : List X) (one : (x : X) → Contains run x → group_of x ≡ item.group)
        (more : (x : X) → Contains item.items.items x ↔ (Contains run x ⊎ Contains was.items.items x)) where
      pub inserted_blocks : IsKeyed cmp key item.items.items → AreBlocks group_cmp cmp group_of key (set bs i item)
      inserted_blocks keyed = set_blocks keyed (λ x there. elim ((more x).0 there) [
        | inl in_run ↦ one x in_run
        | inr old ↦ is.grouped was was_in x old ∙ same
      ])

      pub inserted_items : (x : X) → Contains (items_in (set bs i item)) x
          ↔ (Contains run x ⊎ Contains (items_in bs) x)
      inserted_items x = (
        λ there. elim (came_from x there) [
          | inl here ↦ elim ((more x).0 here) [
            | inl in_run ↦ inl in_run
            | inr old ↦ inr (in_block bs x was was_in old)
          ]
          | inr other ↦ inr other.0
        ],
        λ there. elim there [
          | inl in_run ↦ new_item x ((more x).1 (inl in_run))
          | inr old ↦ elim (old_item x old) [
            | inl here ↦ new_item x ((more x).1 (inr here))
            | inr stays ↦ stays
          ]
        ],
      )

    -- fewer items, none of them of other groups
    module _ (run : List X) (others : (x y : X) → Contains run y → key y ≡ key x → group_of x ≡ item.group)
        (fewer : (x : X) → Contains item.items.items x ↔ (Contains was.items.items x × LacksKey key run (key x))) where
      pub removed_blocks : IsKeyed cmp key item.items.items → AreBlocks group_cmp cmp group_of key (set bs i item)
      removed_blocks keyed = set_blocks keyed (λ x there. is.grouped was was_in x ((fewer x).0 there).0 ∙ same)

      pub removed_items : (x : X) → Contains (items_in (set bs i item)) x
          ↔ (Contains (items_in bs) x × LacksKey key run (key x))
      removed_items x = (
        λ there. elim (came_from x there) [
          | inl here ↦ (in_block bs x was was_in ((fewer x).0 here).0, ((fewer x).0 here).1)
          | inr other ↦ (other.0, λ y in_run same_key. other.1 (others x y in_run same_key))
        ],
        λ (there, lacks). elim (old_item x there) [
          | inl here ↦ new_item x ((fewer x).1 (here, lacks))
          | inr stays ↦ stays
        ],
      )

    -- an item in the place of the one that has its key
    module _ (new : X) (own : group_of new ≡ item.group) (one : (x : X) → key x ≡ key new → group_of x ≡ group_of new)
        (written : (x : X) → Contains item.items.items x
        ↔ ((new ≡ x) ⊎ (Contains was.items.items x × (key x ≢ key new)))) where
      pub replaced_blocks : IsKeyed cmp key item.items.items → AreBlocks group_cmp cmp group_of key (set bs i item)
      replaced_blocks keyed = set_blocks keyed (λ x there. elim ((written x).0 there) [
        | inl here ↦ subst (λ y. group_of y ≡ item.group) here own
        | inr old ↦ is.grouped was was_in x old.0 ∙ same
      ])

      pub replaced_items : (x : X) → Contains (items_in (set bs i item)) x
          ↔ ((new ≡ x) ⊎ (Contains (items_in bs) x × (key x ≢ key new)))
      replaced_items x = (
        λ there. elim (came_from x there) [
          | inl here ↦ elim ((written x).0 here) [
            | inl it ↦ inl it
            | inr (old, apart) ↦ inr (in_block bs x was was_in old, apart)
          ]
          | inr (old, other) ↦ inr (old, λ same_key. other (one x same_key ∙ own))
        ],
        λ there. elim there [
          | inl it ↦ new_item x ((written x).1 (inl it))
          | inr (old, apart) ↦ elim (old_item x old) [
            | inl here ↦ new_item x ((written x).1 (inr (here, apart)))
            | inr stays ↦ stays
          ]
        ],
      )

    -- the block has its keys, and so has the list
    pub keys_stand : ((k : K) → HasKey key was.items.items k → HasKey key item.items.items k) → (k : K)
        → HasKey key (items_in bs) k → HasKey key (items_in (set bs i item)) k
    keys_stand stand k (x, there, at) = elim (old_item x there) [
      | inl here ↦ let (y, in_it, at_y) = stand k (x, here, at) in (y, new_item y in_it, at_y)
      | inr stays ↦ (x, stays, at)
    ]

  -- items of one key are of one group
  pub one_group : IsTotalOrder cmp
      → ((x y : X) → group_cmp (group_of x) (group_of y) ≡ Less → cmp (key x) (key y) ≡ Less)
      → (x y : X) → key x ≡ key y → group_of x ≡ group_of y
  one_group keys rises x y same = elim (group_cmp (group_of x) (group_of y))
      as (λ r. group_cmp (group_of x) (group_of y) ≡ r → group_of x ≡ group_of y) [
        | Less ↦ λ less. absurd (tied_not_less keys x y same (rises x y less))
        | Equal ↦ λ tied. ties (group_of x) (group_of y) tied
        | Greater ↦ λ greater. absurd (tied_not_less keys y x (sym same) (rises y x
            (total.antisymm (group_of y) (group_of x) ∙ ap ordering_reverse greater)))
      ] refl
    where
      tied_not_less : IsTotalOrder cmp → (x y : X) → key x ≡ key y → cmp (key x) (key y) ≡ Less → ⊥
      tied_not_less keys x y same less =
          let tied : cmp (key x) (key y) ≡ Equal = subst (λ k. cmp (key x) k ≡ Equal) same
          (tied_itself keys (key x)) in
          less_not_equal (sym less ∙ tied)

  -- a key is looked for among the items of its group
  pub holds_in_group : IsTotalOrder cmp → IsAntisymmetric cmp
      → ((x y : X) → group_cmp (group_of x) (group_of y) ≡ Less → cmp (key x) (key y) ≡ Less)
      → (xs ys : List X) (item : X) → ((x : X) → Contains ys x ↔ (Contains xs x × (group_of x ≡ group_of item)))
      → holds_key cmp key ys (key item) ≡ holds_key cmp key xs (key item)
  holds_in_group keys key_ties rises xs ys item are =
      elim (holds_key cmp key ys (key item))
      as (λ b. holds_key cmp key ys (key item) ≡ b → b ≡ holds_key cmp key xs (key item)) [
        | true ↦ λ has. elim (holds_key cmp key xs (key item))
            as (λ b. holds_key cmp key xs (key item) ≡ b → true ≡ b) [
              | true ↦ λ _. refl
              | false ↦ λ none. absurd (false≢true (sym (holds_none keys key_ties key ys (key item) (λ x there.
                  holds_lacks keys key_ties key xs (key item) none x ((are x).0 there).0)) ∙ has))
            ] refl
        | false ↦ λ none. sym (holds_none keys key_ties key xs (key item) (λ x there same.
            holds_lacks keys key_ties key ys (key item) none x
            ((are x).1 (there, one_group keys rises x item same)) same))
      ] refl

-- the block of a group is there: it stood, or an empty one was put in
pub record Opened {G X : Type 0} (group_cmp : G → G → Ordering) (group : G) (bs now : List (Block G X)) (i : ℕ)
    : Type 0
  where
    pub rise : GroupsRise group_cmp now
    pub within : i < length now
    pub is_at : HoldsAt (λ (b : Block G X). b.group ≡ group) now i
    pub same : items_in now ≡ items_in bs
    pub came : (block : Block G X) → Contains now block → (block.items.items ≡ []) ⊎ Contains bs block
    pub stays : (block : Block G X) → Contains bs block → Contains now block

module _ {G X : Type 0} {group_cmp : G → G → Ordering} (total : IsTotalOrder group_cmp)
    (ties : IsAntisymmetric group_cmp) where
  -- the block of a group has the room that the group has
  pub room_of : (bs : List (Block G X)) → GroupsRise group_cmp bs → (i : ℕ) (was : Block G X) (group : G) (count : ℕ)
      → i < length bs → was ≡ get_or bs i was → HoldsAt (λ (b : Block G X). b.group ≡ group) bs i
      → HasRoomAt bs group count → length was.items.items + count ≤ vec_capacity was.items
  room_of bs rise i was group count lt at holds (block, there, of, room) =
      let same : block.group ≡ was.group = of ∙ sym (ap (λ (b : Block G X). b.group) at ∙ holds was) in
      subst (λ (b : Block G X). length b.items.items + count ≤ vec_capacity b.items)
      (one_item total ties (λ (b : Block G X). b.group) bs rise block was there (i, lt, sym at) same) room

  pub opened_taken : (group : G) (bs : List (Block G X)) (i : ℕ) → GroupsRise group_cmp bs → i < length bs
      → HoldsAt (λ (b : Block G X). b.group ≡ group) bs i → Opened group_cmp group bs bs i
  opened_taken group bs i rise lt holds = record {
    rise = rise;
    within = lt;
    is_at = holds;
    same = refl;
    came = λ block there. inr there;
    stays = λ block there. there;
  }

  pub opened_new : (bs : List (Block G X)) (i : ℕ) (item : Block G X) → GroupsRise group_cmp bs → i ≤ length bs
      → IsPartitionPoint (λ (b : Block G X). group_cmp b.group item.group ≡ Less)
      (λ (b : Block G X). group_cmp b.group item.group ≡ Greater) bs i → item.items.items ≡ []
      → Opened group_cmp item.group bs (insert bs i item) i
  opened_new bs i item rise le point none = record {
    rise = insert_keyed total ties (λ (b : Block G X). b.group) bs rise item i le point;
    within = omega (arith, length-insert bs i item le);
    is_at = λ d. ap (λ (b : Block G X). b.group) (get_or-insert_at bs i item d le);
    same = insert_empty bs i item none;
    came = λ block there. elim ((insert_contains total ties (λ (b : Block G X). b.group) bs i item block).0 there) [
      | inl is ↦ inl (subst (λ (b : Block G X). b.items.items ≡ []) is none)
      | inr old ↦ inr old
    ];
    stays = λ block there. (insert_contains total ties (λ (b : Block G X). b.group) bs i item block).1 (inr there);
  }

  -- that block has the same items, in more room
  module _ (group : G) (bs now : List (Block G X)) (i : ℕ) (opened : Opened group_cmp group bs now i)
      (was : Block G X) (at : was ≡ get_or now i was) (item : Block G X) (same : was.group ≡ item.group)
      (items : item.items.items ≡ was.items.items) where
    pub grown_rise : GroupsRise group_cmp (set now i item)
    grown_rise = set_keyed total ties (λ (b : Block G X). b.group) now opened.rise item i opened.within
        (λ d. ap (λ (b : Block G X). b.group) (get_or_default now i d was opened.within ∙ sym at) ∙ same)

    pub grown_same : items_in (set now i item) ≡ items_in bs
    grown_same = set_same now i was item opened.within (sym at) items ∙ opened.same

    came_block : (block : Block G X) → Contains now block → (block.items.items ≡ []) ⊎ ((old : Block G X)
        × Contains bs old × (old.group ≡ block.group) × (old.items.items ≡ block.items.items))
    came_block block there = elim (opened.came block there) [
      | inl none ↦ inl none
      | inr old ↦ inr (block, old, refl, refl)
    ]

    pub grown_blocks : (block : Block G X) → Contains (set now i item) block → (block.items.items ≡ [])
        ⊎ ((old : Block G X) × Contains bs old × (old.group ≡ block.group) × (old.items.items ≡ block.items.items))
    grown_blocks block there = elim (new_or_old now i opened.within was at item block there) [
      | inl is ↦ subst (λ (b : Block G X). (b.items.items ≡ []) ⊎ ((old : Block G X) × Contains bs old
          × (old.group ≡ b.group) × (old.items.items ≡ b.items.items))) is
          (elim (came_block was (i, opened.within, sym at)) [
            | inl none ↦ inl (items ∙ none)
            | inr (old, there, of, are) ↦ inr (old, there, of ∙ same, are ∙ sym items)
          ])
      | inr old ↦ came_block block old
    ]

    pub grown_stays : vec_capacity was.items ≤ vec_capacity item.items → (other : G) (count : ℕ)
        → HasRoomAt bs other count → HasRoomAt (set now i item) other count
    grown_stays capacity other count (block, there, of, room) =
        let long : length item.items.items ≡ length was.items.items = ap length items in
        set_room now i opened.within was at item same other count (λ _ fits. omega arith)
        (block, opened.stays block there, of, room)

    pub grown_room : (count : ℕ) → length item.items.items + count ≤ vec_capacity item.items
        → HasRoomAt (set now i item) group count
    grown_room count room = (
      item,
      stands now i opened.within was at item,
      sym same ∙ ap (λ (b : Block G X). b.group) at ∙ opened.is_at was,
      room,
    )
