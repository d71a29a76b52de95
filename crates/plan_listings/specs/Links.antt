-- The line of a predecessor in a list.
use Rattle.std.specs.Prelude.{ℕ, List, [], ◌∷◌, ◌++◌, Option, Some, None}
use Rattle.std.specs.Fmt.{decimal}
use Rattle.plan_listings.specs.Line.{left_in, right_in}

-- the hours of a limit right in 4 places, or 4 blanks
abbrev pub within_text : Option ℕ → List ℕ
within_text None = right_in 4 []
within_text (Some hours) = right_in 4 (decimal hours)

-- the application and the predecessor, each left in 16 places, and the limit, with one blank between two
abbrev pub link_text : List ℕ → List ℕ → Option ℕ → List ℕ
link_text app predecessor within = left_in 16 app ++ 32 ∷ left_in 16 predecessor ++ 32 ∷ within_text within
