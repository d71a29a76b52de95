use Rattle.std.proofs.Common.{◌∙◌, subst}
use Rattle.planner_machine.specs.Statement.{Define}
use Rattle.planner_cli.proofs.ServeLemmas.{AnswersBoth, block_well_formed, serves_define, serves_faulty}
use Rattle.planner_cli.proofs.StoreLemmas.{answers_so, untouched}
use Rattle.planner_cli.proofs.steps.answer_data.Goals as goal

pub answer_job-requires-clause-well_formed : goal.answer_job-requires-clause-well_formed
answer_job-requires-clause-well_formed g c =
    block_well_formed c.args.kind c.args.bytes.now c.in-Ok-read_block.block c.requires.short
    c.in-Ok-read_block.ensures.reads

pub returns-in-Ok-read_block : goal.returns-in-Ok-read_block
returns-in-Ok-read_block g c = answers_so g.S.PlanStore _ _ _ _ _ (λ honest reply c' h.
    serves_define c.args.number _ c.args.kind c.args.bytes.now _ _ c.requires.numbered c.requires.short
    c.in-Ok-read_block.ensures.reads reply c'
    (subst (λ t. AnswersBoth c.args.number t (Define c.in-Ok-read_block.block) (g.S.PlanStore.content c.args.store.now)
    reply c') (c.from_vec-text.ensures ∙ c.in-Ok.ensures) h)) c.answer_job.ensures

pub returns-in-Err-Faulty : goal.returns-in-Err-Faulty
returns-in-Err-Faulty g c = untouched g.S.PlanStore c.args.store.now c.print_alone.result _ _
    (serves_faulty c.args.number _ c.args.kind c.args.bytes.now _ _ c.requires.numbered c.requires.short
    (rw c.in-Err-Faulty.field-0-is at c.in-Err-Faulty.ensures.faulty)) c.print_alone.ensures.prints c.print_alone.ensures.err
