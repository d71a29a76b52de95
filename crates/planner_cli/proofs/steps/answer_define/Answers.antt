use Rattle.std.proofs.Common.{sym, subst, Err}
use Rattle.occurrences.specs.declared.refusal.Refusal.TheVariants.{FaultyData}
use Rattle.planner_cli.specs.Outcomes.{answering}
use Rattle.planner_cli_stream.specs.Pages.{block_shown}
use Rattle.planner_cli.specs.Requests.{define_asked}
use Rattle.planner_cli.specs.Steps.{Serves}
use Rattle.planner_cli.proofs.ServeLemmas.{serves_no_data}
use Rattle.planner_cli.proofs.StoreLemmas.{untouched}
use Rattle.planner_cli.proofs.steps.answer_define.Goals as goal

pub returns-in-TooLong : goal.returns-in-TooLong
returns-in-TooLong g c = untouched g.S.PlanStore c.args.store.now c.print_alone.result _ _
    (subst (λ b. Serves (define_asked c.args.line.now c.args.number c.args.kind (block_shown b))
    (g.S.PlanStore.content c.args.store.now) (answering (Err (FaultyData 0))) (g.S.PlanStore.content c.args.store.now))
    (sym c.in-TooLong.is) (serves_no_data c.args.number _ c.args.kind (g.S.PlanStore.content c.args.store.now)
    c.requires.numbered)) c.print_alone.ensures.prints c.print_alone.ensures.err

pub returns-in-Unended : goal.returns-in-Unended
returns-in-Unended g c = untouched g.S.PlanStore c.args.store.now c.print_alone-in-Unended.result _ _
    (subst (λ b. Serves (define_asked c.args.line.now c.args.number c.args.kind (block_shown b))
    (g.S.PlanStore.content c.args.store.now) (answering (Err (FaultyData 0))) (g.S.PlanStore.content c.args.store.now))
    (sym c.in-Unended.is) (serves_no_data c.args.number _ c.args.kind (g.S.PlanStore.content c.args.store.now)
    c.requires.numbered)) c.print_alone-in-Unended.ensures.prints c.print_alone-in-Unended.ensures.err
