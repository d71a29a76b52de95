-- The command of `clap` that a layout stands for, before it is built.
use Rattle.std.specs.Prelude.{true, List, [], ◌∷◌, ◌++◌, map, Option, Some, None, codes}
use Rattle.planner_cli_stream.specs.Grammar.{Choice, Layout, Text}
use Rattle.clap.specs.Walk.{Rule}
use Rattle.clap.specs.Simple.{App, new_rule, new_shape}
use Rattle.clap.specs.declared.builder.action.ArgAction.TheVariants.{Set}

abbrev pub option_rule : Choice → Rule
option_rule o = record (new_rule o.0) { long = Some o.0; action = Some Set; required = o.1 }

abbrev pub word_rule : Text → Rule
word_rule name = record (new_rule name) { action = Some Set; required = true }

abbrev pub word_rules : Option Text → List Rule
word_rules None = []
word_rules (Some name) = word_rule name ∷ []

abbrev pub app_with : Option Text → List Choice → App
app_with word os = record {
  top = record (new_shape (codes "statement")) {
    rules = word_rules word ++ map option_rule os;
    no_binary_name = true;
    disable_help_flag = true;
  };
  subs = [];
}

abbrev pub app_for : Layout → App
app_for l = app_with l.word l.options
