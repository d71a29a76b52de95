use Rattle.std.proofs.Common.{◌∙◌, [], sym, subst, Err, Ok}
use Rattle.app_definition_records.proofs.ByNameLemmas.{IfOk-map}
use Rattle.occurrences.specs.declared.reply.Reply.TheVariants.{Rows}
use Rattle.planner_machine.specs.Days.{ListsDays}
use Rattle.planner_cli.specs.Outcomes.{answer_text, answering}
use Rattle.planner_cli.specs.Replies.{Prints}
use Rattle.planner_cli.proofs.ServeLemmas.{serves_days, serves_no_days}
use Rattle.planner_cli.proofs.days.days.Goals as goal

pub returns-in_ok-rows-in-Ok : goal.returns-in_ok-rows-in-Ok
returns-in_ok-rows-in-Ok c =
    let all = c.args.all.now in
    let app = c.args.app.now in
    let lists = subst (ListsDays all app c.args.from c.args.to) (sym c.deref.ensures.value)
    (rw c.in-Ok.is at c.in_ok-named.ensures.listed) in
    let good = rw c.in-Ok.is at c.in_ok-named.ensures.good in
    let (lines, are, text) = c.in_ok-rows-in-Ok.ensures in
    IfOk-map c.print_answer.result _ _ (λ printed h c' is. (
      _,
      serves_days all app c.args.from c.args.to c.deref.result.now lines lists good are c' is,
      subst (λ n. Prints (record { rows = lines; line = answer_text (Ok (Rows n)) }) printed.text.items
          printed.is_accepted) (c.len.ensures ∙ sym c.deref.ensures.len) (h lines text),
    )) c.print_answer.ensures

pub returns-in-Err : goal.returns-in-Err
returns-in-Err c =
    IfOk-map c.print_answer-in-Err.result _ _ (λ printed h c' is. (
      answering (Err c.in-Err.refusal),
      serves_no_days c.args.app.now c.args.from c.args.to c.in-Err.refusal c'
          ((rw c.in-Err.is at c.in_ok-named.ensures.refused) c' is),
      h [] c.new.ensures.items,
    )) c.print_answer-in-Err.ensures
