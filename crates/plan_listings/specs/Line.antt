-- Parts of lines, and lists of lines.
use Rattle.std.specs.Prelude.{ℕ, ◌-◌, List, [], ◌∷◌, ◌++◌, length, replicate}

-- a text, left-aligned in that many places and filled up with blanks
abbrev pub left_in : ℕ → List ℕ → List ℕ
left_in width text = text ++ replicate (width - length text) 32

-- a text, right-aligned in that many places, with blanks before it
abbrev pub right_in : ℕ → List ℕ → List ℕ
right_in width text = replicate (width - length text) 32 ++ text

-- a line and the line feed that ends it
abbrev pub ended : List ℕ → List ℕ
ended line = line ++ 10 ∷ []

-- each line is that of the item at its place
abbrev pub AreLinesOf : {X : Type 0} → (X → List ℕ → Type 0) → List X → List (List ℕ) → Type 0
AreLinesOf Is [] [] = Unit {0}
AreLinesOf Is (x ∷ xs) (line ∷ lines) = Is x line × AreLinesOf Is xs lines
AreLinesOf Is _ _ = ⊥
