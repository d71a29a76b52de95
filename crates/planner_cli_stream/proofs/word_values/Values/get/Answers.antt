use Rattle.std.proofs.Common.{◌∙◌, ap, sym}
use Rattle.clap.proofs.WalkLemmas.{first_value-rows}
use Rattle.clap.specs.Words.{found_of, rows_of}
use Rattle.planner_cli_stream.specs.Grammar.{value_in}
use Rattle.planner_cli_stream.proofs.WordReading.{value_in-uses_in}
use Rattle.planner_cli_stream.proofs.word_values.Values.get.Goals as goal

pub returns : goal.returns
returns c =
    let found = found_of c.self.inside.matches in
    let name = c.args.name.now in
    c.get_str.ensures ∙ first_value-rows found name ∙ sym (value_in-uses_in (rows_of found) name c.self.invariant)
    ∙ ap (λ us. value_in us name) c.self.view_is
