-- What is listed of the rows of a set, block by block.
use Rattle.std.proofs.Common.{◌≡◌, ◌+◌, ◌<◌, ◌++◌, ◌∙◌, ℕ, List, ap, append_assoc, get_or, length, sym, take}
use Rattle.std.specs.Prelude.{map}
use Rattle.std.proofs.lemmas.List.{map-append}
use Rattle.plan_store_lists.specs.Blocks.{items_in}
use Rattle.plan_store_lists.specs.declared.blocks.Block.{Block}
use Rattle.plan_store_lists.proofs.RunLemmas.{items_more}

-- one block more
pub block_more : {X Y : Type 0} (f : X → Y) (first : List Y) (blocks : List (Block (List ℕ) X)) (index : ℕ)
    (block : Block (List ℕ) X) (old new : List Y) (part : List X) → index < length blocks
    → block ≡ get_or blocks index block → part ≡ block.items.items
    → old ≡ first ++ map f (items_in (take index blocks)) → new ≡ old ++ map f part
    → new ≡ first ++ map f (items_in (take (index + 1) blocks))
block_more f first blocks index block old new part lt at is_part is_old is =
    is ∙ (λ i. is_old i ++ map f (is_part i))
    ∙ append_assoc first (map f (items_in (take index blocks))) (map f block.items.items)
    ∙ ap (λ l. first ++ l) (sym (map-append f (items_in (take index blocks)) block.items.items)
    ∙ ap (map f) (sym (items_more blocks index block lt at)))
