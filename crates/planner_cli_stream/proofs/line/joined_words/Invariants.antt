use Rattle.std.proofs.Common.{◌++◌, ◌∷◌, ◌≡◌, length}
use Rattle.std.specs.Prelude.{flat_map}
use Rattle.planner_cli_stream.specs.Line.{joined, words_of}
use Rattle.planner_cli_stream.proofs.line.joined_words.Given as goal

abbrev pub invariant-loop-word : goal.invariant-loop-word
invariant-loop-word l = l.text.items ++ flat_map (λ more. 32 ∷ more) (words_of l.rest) ≡ joined (words_of l.line)

abbrev pub decreases-loop-word : goal.decreases-loop-word
decreases-loop-word l = length l.rest
