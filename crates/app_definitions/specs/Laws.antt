-- What the definitions of blocks imply.
use Rattle.std.specs.Prelude.{◌≡◌, ℕ, List}
use Rattle.app_definitions.specs.Blocks.{ReadsAs, IsFaultyAt}
use Rattle.app_definitions.specs.Definitions.{merged}
use Rattle.app_definitions.specs.Replacing.{CanPutBack, put_back, replaced_by}
use Rattle.app_definitions.specs.declared.definitions.Definitions.{Definitions}
use Rattle.app_definitions.specs.declared.kinds.Block.{Block}
use Rattle.app_definitions.specs.declared.kinds.Kind.{Kind}

-- a text reads as one block of a kind at most
abbrev pub ReadsAsOne : Type 0
ReadsAsOne = (kind : Kind) (text : List ℕ) (a b : Block) → ReadsAs kind text a → ReadsAs kind text b → a ≡ b

-- no text reads as a block and is faulty
abbrev pub ReadsOrIsFaulty : Type 0
ReadsOrIsFaulty = (kind : Kind) (text : List ℕ) (b : Block) (number : ℕ) → ReadsAs kind text b
    → IsFaultyAt kind text number → ⊥

-- a text is faulty at one record at most
abbrev pub IsFaultyOnce : Type 0
IsFaultyOnce = (kind : Kind) (text : List ℕ) (m n : ℕ) → IsFaultyAt kind text m → IsFaultyAt kind text n → m ≡ n

-- once a block is merged, what its names had before can be restored, and then the definitions are those before the
-- merge
abbrev pub MergeIsRolledBack : Type 0
MergeIsRolledBack = (all : Definitions) (block : Block) → CanPutBack (replaced_by all block) (merged all block)
    × (put_back (replaced_by all block) (merged all block) ≡ all)
