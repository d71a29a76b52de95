-- The words of a line.
use Rattle.std.specs.Prelude.{◌==◌, ◌||◌, ℕ, Bool, true, false, not, List, [], ◌∷◌, ◌++◌, filter, flat_map}
use Rattle.std.specs.Int.{is_in_range}
use Rattle.std.specs.List.{slice_split}
use Rattle.planner_cli_stream.specs.Grammar.{Text}

-- a blank (32) or a tab (9), which separate words
abbrev pub is_blank : ℕ → Bool
is_blank b = b == 32 || b == 9

abbrev pub is_word_byte : ℕ → Bool
is_word_byte b = not (is_blank b)

-- what a line may have: a tab, and printable ASCII (32 to 126)
abbrev pub is_line_byte : ℕ → Bool
is_line_byte b = b == 9 || is_in_range 32 126 b

abbrev pub has_bytes : Text → Bool
has_bytes [] = false
has_bytes (x ∷ xs) = true

-- the line cut at each blank and tab; there is no word between two that are next to each other
abbrev pub words_of : List ℕ → List Text
words_of line = filter has_bytes (slice_split is_blank line)

-- words, separated by one blank each
abbrev pub joined : List Text → List ℕ
joined [] = []
joined (word ∷ rest) = word ++ flat_map (λ more. 32 ∷ more) rest
