use Rattle.std.proofs.Common.{◌≡◌, ◌∷◌, true, Some, None, rules}
use Rattle.std.specs.List.{list_all}
use Rattle.planner_cli_stream.specs.Form.{texts}
use Rattle.planner_cli_stream.specs.Grammar.{reading_of}
use Rattle.planner_cli_stream.specs.Line.{is_line_byte, words_of}
use Rattle.planner_cli_stream.specs.Verb.{layout_for, verb_text}
use Rattle.planner_cli_stream.proofs.OneStatement.{no_values, read_values}
use Rattle.planner_cli_stream.proofs.read.read_statement.Goals as goal

pub returns-in-Some-2 : goal.returns-in-Some-2
returns-in-Some-2 c =
    let name = c.in-Some.name.now.now in
    let after = texts c.in-Some.after.now in
    let verb = c.in-Some-from_text.verb in
    let printable : list_all is_line_byte c.args.line.now ≡ true = search rules in
    let words : words_of c.args.line.now ≡ name ∷ after = search rules in
    let named : name ≡ verb_text verb = search rules in
    let read : reading_of (layout_for verb) after ≡ Some c.in-Some-2.values = search rules in
    read_values c.args.line.now name after verb c.in-Some-2.values c.arguments_in.result c.statement_of.result printable
    words named read c.arguments_in.ensures c.statement_of.ensures

pub returns : goal.returns
returns c =
    let name = c.in-Some.name.now.now in
    let after = texts c.in-Some.after.now in
    let verb = c.in-Some-from_text.verb in
    let words : words_of c.args.line.now ≡ name ∷ after = search rules in
    let named : name ≡ verb_text verb = search rules in
    let read : reading_of (layout_for verb) after ≡ None = search rules in
    no_values c.args.line.now name after verb words named read
