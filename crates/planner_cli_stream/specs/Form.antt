-- What a clause reads of a form and of a list of words.
use Rattle.std.specs.Prelude.{◌++◌, Bool, true, false, List, Option, map, option_map}
use Rattle.std.specs.Borrow.{Bor}
use Rattle.planner_cli_stream.specs.Grammar.{Choice, Layout, Text}
use Rattle.planner_cli_stream.specs.declared.form.Form.{Form}

-- the texts behind references
abbrev pub texts : List (Bor Text) → List Text
texts = map (λ (s : Bor Text). s.now)

abbrev pub text_in : Option (Bor Text) → Option Text
text_in = option_map (λ (s : Bor Text). s.now)

-- an option's name, with whether the option has to be there
abbrev pub choice : Bool → Text → Choice
choice is_required name = (name, is_required)

-- a form, as the grammar reads it
abbrev pub layout_of : Form → Layout
layout_of f = record {
  options = map (choice true) (texts f.required.now) ++ map (choice false) (texts f.optional.now);
  word = text_in f.word;
}
