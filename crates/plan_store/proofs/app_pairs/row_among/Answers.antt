use Rattle.std.proofs.Common.{◌∙◌, Some, ap, rules}
use Rattle.std.proofs.lemmas.List.Sorted.{answers_always}
use Rattle.plan_store.specs.Views.{row_serial}
use Rattle.plan_store.proofs.AppPairLemmas.{among_missed, among_taken}
use Rattle.plan_store.proofs.app_pairs.row_among.Goals as goal

pub returns-in-Ok : goal.returns-in-Ok
returns-in-Ok c are =
    let is = c.in-Ok.ensures in
    let position = is.position row_serial (answers_always _ _ _ (λ f a r q called. search rules)) in
    ap Some c.index-rows-at.is ∙ among_taken c.args.rows.now are c.args.serial c.get.result c.get.ensures.number
    c.in-Ok.at c.index-rows-at.result is.bound position

pub returns-in-Err : goal.returns-in-Err
returns-in-Err c are =
    let is = c.in-Err.ensures in
    let position = is.position row_serial (answers_always _ _ _ (λ f a r q called. search rules)) in
    rw c.get.ensures.number at (among_missed c.args.rows.now are c.get.result c.in-Err._at position)
