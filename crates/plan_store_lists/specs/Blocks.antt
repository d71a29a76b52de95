-- Lists in blocks: each block has the items of one group, and the groups rise.
use Rattle.std.specs.Prelude.{◌≡◌, ℕ, ◌+◌, ◌≤◌, List, [], ◌∷◌, ◌++◌, Contains, length, filter, vec_capacity}
use Rattle.std.specs.List.{AllPairs}
use Rattle.std.specs.Ordering.{is_eq}
use Rattle.std.specs.declared.cmp.Ordering.{Ordering}
use Rattle.std.specs.declared.cmp.Ordering.TheVariants.{Less}
use Rattle.plan_store_lists.specs.Keyed.{IsKeyed}
use Rattle.plan_store_lists.specs.declared.blocks.Block.{Block}
use Rattle.plan_store_lists.specs.declared.blocks.Blocks.{Blocks}

-- the items of the blocks, one block after another
abbrev pub items_in : {G X : Type 0} → List (Block G X) → List X
items_in [] = []
items_in (block ∷ blocks) = block.items.items ++ items_in blocks

-- the list that is kept in blocks
abbrev pub items_of : {G X : Type 0} → Blocks G X → List X
items_of list = items_in list.blocks.items

-- the groups of the blocks rise
abbrev pub GroupsRise : {G X : Type 0} → (G → G → Ordering) → List (Block G X) → Type 0
GroupsRise {G} {X} group_cmp blocks = AllPairs (λ (a b : Block G X). group_cmp a.group b.group ≡ Less) blocks

-- the groups of the blocks rise, and each block has items of its group alone, in the order of their keys
pub record AreBlocks {G K X : Type 0} (group_cmp : G → G → Ordering) (cmp : K → K → Ordering) (group_of : X → G)
    (key : X → K) (blocks : List (Block G X)) : Type 0 where
  pub rise : GroupsRise group_cmp blocks
  pub keyed : (block : Block G X) → Contains blocks block → IsKeyed cmp key block.items.items
  pub grouped : (block : Block G X) → Contains blocks block → (x : X) → Contains block.items.items x
      → group_of x ≡ block.group

-- the block of the group has room for so many more items
abbrev pub HasRoomAt : {G X : Type 0} → List (Block G X) → G → ℕ → Type 0
HasRoomAt {G} {X} blocks group more = (block : Block G X) × Contains blocks block × (block.group ≡ group)
    × (length block.items.items + more ≤ vec_capacity block.items)

-- how many of the items are of the group
abbrev pub count_of : {G X : Type 0} → (G → G → Ordering) → (X → G) → List X → G → ℕ
count_of group_cmp group_of xs group = length (filter (λ x. is_eq (group_cmp (group_of x) group)) xs)

-- each group of these items has a block with room for those of it
abbrev pub HasRoomFor : {G X : Type 0} → (G → G → Ordering) → (X → G) → List X → List (Block G X) → Type 0
HasRoomFor {G} {X} group_cmp group_of xs blocks = (x : X) → Contains xs x
    → HasRoomAt blocks (group_of x) (count_of group_cmp group_of xs (group_of x))
