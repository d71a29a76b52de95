use Rattle.std.proofs.Common.{Bor, rules}
use Rattle.std.proofs.lemmas.List.Sorted.{answers_always}
use Rattle.occurrences.specs.declared.row.Row.{Row}
use Rattle.plan_store.proofs.SerialLemmas.{number_missed, number_taken}
use Rattle.plan_store.proofs.listed.with_number.Goals as goal

pub returns-in-Ok : goal.returns-in-Ok
returns-in-Ok c s numbered are =
    let is = c.in-Ok.ensures in
    let position = is.position (λ (b : Bor Row). b.now.serial)
    (answers_always _ _ _ (λ f a r q called. search rules)) in
    rw c.get.ensures.number at (number_taken (λ (b : Bor Row). b.now) s numbered c.args.all.now are c.get.result
    c.in-Ok.at c.index-all-at.result is.bound position)

pub returns-in-Err : goal.returns-in-Err
returns-in-Err c s numbered are =
    let is = c.in-Err.ensures in
    let position = is.position (λ (b : Bor Row). b.now.serial)
    (answers_always _ _ _ (λ f a r q called. search rules)) in
    rw c.get.ensures.number at (number_missed (λ (b : Bor Row). b.now) s numbered c.args.all.now are c.get.result
    c.in-Err._at position)
