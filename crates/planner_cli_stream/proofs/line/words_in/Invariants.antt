use Rattle.std.proofs.Common.{◌++◌, ◌≡◌, length}
use Rattle.std.specs.Str.{IsAscii}
use Rattle.planner_cli_stream.specs.Form.{texts}
use Rattle.planner_cli_stream.specs.Line.{words_of}
use Rattle.planner_cli_stream.proofs.line.words_in.Given as goal

abbrev pub invariant-loop-word : goal.invariant-loop-word
invariant-loop-word l = record {
  words : texts l.words.items ++ words_of l.rest ≡ words_of l.line;
  ascii : IsAscii l.rest;
}

abbrev pub decreases-loop-word : goal.decreases-loop-word
decreases-loop-word l = length l.rest
