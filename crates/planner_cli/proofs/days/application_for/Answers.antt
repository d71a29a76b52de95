use Rattle.planner_cli.proofs.days.application_for.Goals as goal

pub returns-in-Some-missing_definition-clause-refused : goal.returns-in-Some-missing_definition-clause-refused
returns-in-Some-missing_definition-clause-refused c c' is =
    c.in-Some-missing_definition.ensures.some c' is c.args.from c.args.to
