use Rattle.std.proofs.Common.{◌≡◌, ◌∙◌, sym, subst, inl, inr, arith, None, Some, get_or}
use Rattle.std.proofs.lemmas.Bool.{cases_lt}
use Rattle.std.proofs.lemmas.List.{get_or_default}
use Rattle.plan_store_soundness.proofs.seats.is_full.Goals as goal

pub loop-row-preserved : goal.loop-row-preserved
loop-row-preserved c k lt = elim (cases_lt k c.loop-row.row-index) [
  | inl before ↦ c.loop-row.invariant k before
  | inr here ↦
      let table = c.args.table.now in
      let index = c.loop-row.row-index in
      let row = c.row-item.result in
      let same : index ≡ k = omega arith in
      let at : get_or table index None ≡ Some c.in-Some.field-0 =
      sym (get_or_default table index row None c.loop-row-test.true) ∙ sym c.row-item.is ∙ c.in-Some.is in
      (c.in-Some.field-0, subst (λ n. get_or table n None ≡ Some c.in-Some.field-0) same at)
]
