use Rattle.std.proofs.Common.{◌∙◌, ℕ, Bool, ap, filter}
use Rattle.std.proofs.lemmas.Result.{IfOk-weaker}
use Rattle.occurrences.specs.declared.row.Row.{Row}
use Rattle.plan_store.proofs.contents.Content.followed_rows.Goals as goal

pub returns : goal.returns
returns c =
    let kept = c.args.self.now in
    let found = rw c.deref.ensures.value at c.rows_among.ensures in
    IfOk-weaker c.rows_among.result _ _ (λ rows is. is
    ∙ ap (λ (q : ℕ → Bool). filter (λ (row : Row). q row.serial) kept.history.items)
    (λ i serial. c.in_ok-serials.ensures.all serial i)) found
