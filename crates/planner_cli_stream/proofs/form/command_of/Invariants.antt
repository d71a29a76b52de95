use Rattle.std.proofs.Common.{◌++◌, ◌≡◌, map, take, true, false}
use Rattle.planner_cli_stream.specs.Form.{choice, text_in, texts}
use Rattle.planner_cli_stream.specs.Command.{app_with}
use Rattle.clap.specs.Words.{app_of}
use Rattle.planner_cli_stream.proofs.form.command_of.Given as goal

abbrev pub invariant-loop-required : goal.invariant-loop-required
invariant-loop-required l =
    app_of l.command
    ≡ app_with (text_in l.form.word) (map (choice true) (texts (take l.required-index l.required-items)))

abbrev pub invariant-loop-optional : goal.invariant-loop-optional
invariant-loop-optional l = app_of l.command
    ≡ app_with (text_in l.form.word)
    (map (choice true) (texts l.form.required.now)
    ++ map (choice false) (texts (take l.optional-index l.optional-items)))
