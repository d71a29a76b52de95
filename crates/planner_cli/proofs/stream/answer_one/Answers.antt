use Rattle.std.proofs.Common.{refl}
use Rattle.std.specs.Prelude.{None}
use Rattle.occurrences.specs.declared.refusal.Refusal.TheVariants.{NotAStatement}
use Rattle.planner_cli.specs.Outcomes.{refusing}
use Rattle.planner_cli.proofs.StoreLemmas.{untouched}
use Rattle.planner_cli.proofs.WriteLemmas.{wrote}
use Rattle.planner_cli.proofs.stream.answer_one.Goals as goal

pub returns-in-NoStatement : goal.returns-in-NoStatement
returns-in-NoStatement g c = rw c.in-NoStatement.is (wrote g.S.PlanStore _ _ _ _ _ c.no_statement-answered.result _
    (untouched g.S.PlanStore c.args.store.now c.no_statement-answered.result (refusing NotAStatement) _
    (None, refl, (refl, refl))
    c.no_statement-answered.ensures.prints c.no_statement-answered.ensures.err) c.write_answer.ensures.ok c.write_answer.ensures.err)

pub returns-in-WithBlock : goal.returns-in-WithBlock
returns-in-WithBlock g c = rw c.in-WithBlock.is (wrote g.S.PlanStore _ _ _ _ _ _ _ c.answer_with_data-answered.ensures
    c.write_answer-in-WithBlock.ensures.ok c.write_answer-in-WithBlock.ensures.err)
