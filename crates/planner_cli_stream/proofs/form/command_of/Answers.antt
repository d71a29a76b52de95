use Rattle.std.proofs.Common.{◌++◌, ◌∙◌, ap, ap₂, append_assoc, false, map, true}
use Rattle.clap.specs.Words.{with_rule}
use Rattle.planner_cli_stream.specs.Form.{choice, texts}
use Rattle.planner_cli_stream.proofs.Rules.{app_next, choices_next}
use Rattle.planner_cli_stream.proofs.form.command_of.Goals as goal

pub loop-required-preserved : goal.loop-required-preserved
loop-required-preserved c =
    c.in_ok-command-2.ensures.shape c.option_arg.ensures.local
    ∙ ap₂ with_rule c.loop-required.invariant c.option_arg.ensures.rule
    ∙ app_next _ _ _ _ (choices_next true _ _ _ c.loop-required-test.true)

pub loop-optional-preserved : goal.loop-optional-preserved
loop-optional-preserved c =
    let first = map (choice true) (texts c.args.form.now.required.now) in
    c.in_ok-command-3.ensures.shape c.option_arg-in-loop-optional.ensures.local
    ∙ ap₂ with_rule c.loop-optional.invariant c.option_arg-in-loop-optional.ensures.rule
    ∙ app_next _ _ _ _
    (append_assoc first _ _ ∙ ap (λ os. first ++ os) (choices_next false _ _ _ c.loop-optional-test.true))
