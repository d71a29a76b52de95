use Rattle.std.proofs.Common.{◌≡◌, ◌∙◌, ap}
use Rattle.plan_tables_content.specs.Content.{answer_text}
use Rattle.plan_tables_schema.proofs.ResultLemmas.{if_ok}
use Rattle.plan_tables_loading.specs.Lines.{back, front}
use Rattle.plan_tables_loading.proofs.AnswerLemmas.{chosen}
use Rattle.plan_tables_loading.proofs.answers.decode_answer.Goals as goal

pub returns-in-None-clause-none : goal.returns-in-None-clause-none
returns-in-None-clause-none c none a kept is =
    let word = c.split-2.ensures.front ∙ ap (λ l. front l) c.split.ensures.back in
    let text = c.split-2.ensures.back ∙ ap (λ l. back l) c.split.ensures.back in
    let one = chosen c.args.line.now _ _ c.answer_in.result word text c.answer_in.ensures a kept is in
    let no = c.in-None.is in
    absurd (cc)

pub returns-in-Some-clause-none : goal.returns-in-Some-clause-none
returns-in-Some-clause-none c = if_ok c.if_line.result _ _ (λ found not none a kept is.
    let word = c.split-2.ensures.front ∙ ap (λ l. front l) c.split.ensures.back in
    let text = c.split-2.ensures.back ∙ ap (λ l. back l) c.split.ensures.back in
    let one = chosen c.args.line.now _ _ c.answer_in.result word text c.answer_in.ensures a kept is in
    let here = c.in-Some.is in
    let same : c.in-Some.answer ≡ a = cc in
    not none (ap answer_text same ∙ is)) c.if_line.ensures.none
