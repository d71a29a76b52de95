-- The texts of jobs, which show whether a job is repeated.
use Rattle.std.specs.Prelude.{ℕ, List, ◌∷◌, ◌++◌}
use Rattle.planner_cli_stream.specs.Line.{joined, words_of}

-- the words of the line, joined by one blank
abbrev pub line_text : List ℕ → List ℕ
line_text line = joined (words_of line)

-- for `define` a line feed after them, and the bytes of the block
abbrev pub data_text : List ℕ → List ℕ → List ℕ
data_text line bytes = line_text line ++ 10 ∷ bytes
