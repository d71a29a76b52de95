use Rattle.std.proofs.Common.{◌↔◌, ◌∙◌, List, IfOk, subst}
use Rattle.std.specs.Prelude.{IsTrue}
use Rattle.std.specs.List.{All}
use Rattle.std.proofs.lemmas.Result.{IfOk-weaker}
use Rattle.occurrences.specs.declared.place.Deletion.{Deletion}
use Rattle.occurrences.specs.declared.row.Row.{Row}
use Rattle.plan_store_soundness.specs.Arrivals.{IsFreeOf}
use Rattle.plan_store_soundness.proofs.NumberedLemmas.{has_rows}
use Rattle.plan_store_soundness.proofs.RuleLemmas.{deleted_from, deleted_to}
use Rattle.plan_store_soundness.proofs.rules.has_arrivals.Goals as goal

pub returns-in_ok-deletions : goal.returns-in_ok-deletions
returns-in_ok-deletions c numbered =
    let kept = c.args.content.now in
    let inside = (c.all_in_bounds.ensures numbered).0 c.if-all_in_bounds.true in
    let Tells : List Row → List Deletion → Type 0 = λ r d.
    IfOk c.none_deleted.result (λ b. IsTrue b ↔ All (IsFreeOf d) r) in
    let some : Tells kept.ltp.items c.deref-then-all_in_bounds.result.now =
    subst (λ r. Tells r c.deref-then-all_in_bounds.result.now) (c.deref.ensures.value ∙ c.in_ok-ltp.ensures)
    c.none_deleted.ensures in
    let free : Tells kept.ltp.items kept.deletions.items =
    subst (λ d. Tells kept.ltp.items d) (c.deref-then-all_in_bounds.ensures.value
    ∙ c.in_ok-deletions.ensures) some in
    IfOk-weaker c.none_deleted.result (λ b. IsTrue b ↔ All (IsFreeOf kept.deletions.items) kept.ltp.items) _
    (λ b tells. (
      (λ yes. record { in_bounds = inside; not_deleted = deleted_from kept (has_rows kept) (tells.0 yes) }),
      λ have. tells.1 (deleted_to kept (has_rows kept) have.not_deleted),
    )) free
