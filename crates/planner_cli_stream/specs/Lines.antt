-- The lines of a text, and what one line may hold.
use Rattle.std.specs.Prelude.{ℕ, ◌+◌, List, [], ◌∷◌, ◌==◌, ◌||◌, Bool, false, Option, None, Some, is_none}
use Rattle.std.specs.Prelude.{length, take, nat_lt, slice_get, bytes_eq, codes, if◌then◌else◌}
use Rattle.std.specs.List.{onto_first, list_all}
use Rattle.std.specs.Io.BufRead.{strip_last}
use Rattle.planner_cli_stream.specs.Grammar.{Text}
use Rattle.planner_cli_stream.specs.Line.{is_line_byte, words_of}
use Rattle.planner_cli_stream.specs.declared.line_kinds.LineKind.{LineKind}
use Rattle.planner_cli_stream.specs.declared.line_kinds.LineKind.TheVariants.{Skipped, NoStatement, Statement}

-- the pieces of a text separated by line feeds, each with the line feed that ends it; the last one may lack it
unfoldable pub raw_lines : List ℕ → List (List ℕ)
raw_lines [] = []
raw_lines (x ∷ xs) = if x == 10 then (x ∷ []) ∷ raw_lines xs else onto_first x (raw_lines xs)

-- a piece without its line feed, and then without one carriage return at its end
unfoldable pub line_of : List ℕ → List ℕ
line_of raw = strip_last 13 (strip_last 10 raw)

-- the most bytes that a statement's line may have
abbrev pub longest_line : ℕ
longest_line = 1024

-- how many bytes of a line are held: a statement's, and those of its end
abbrev pub line_room : ℕ
line_room = longest_line + 2

-- whether the first word of a line, if it has one, is `define`
abbrev pub is_define : Option Text → Bool
is_define None = false
is_define (Some word) = bytes_eq word (codes "define")

-- the first word of a line, if it has one
abbrev pub first_word : List ℕ → Option Text
first_word line = slice_get (words_of line) 0

-- data follow a line whose front has `define` as its first word, whatever else is in it
unfoldable pub opens_data : List ℕ → Bool
opens_data line = is_define (first_word (take longest_line line))

-- the line that ends data
unfoldable pub ends_data : List ℕ → Bool
ends_data line = bytes_eq line (codes "/*")

-- a line that starts with `*`
unfoldable pub is_comment : List ℕ → Bool
is_comment [] = false
is_comment (b ∷ bs) = b == 42

-- what a line is: too long a line is no statement, whatever it holds; a line without words is blank
unfoldable pub kind_of : List ℕ → LineKind
kind_of line =
    if nat_lt longest_line (length line) then NoStatement
    else (if is_comment line || is_none (first_word line) then Skipped
    else (if list_all is_line_byte line then Statement else NoStatement))
