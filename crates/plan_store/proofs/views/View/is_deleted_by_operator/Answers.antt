use Rattle.std.proofs.Common.{◌≡◌, ◌∙◌, refl, sym, true}
use Rattle.plan_store.specs.Views.{is_from_plan_end, shown}
use Rattle.plan_store.proofs.WindowLemmas.{barred_key, key_barred}
use Rattle.plan_store.proofs.views.View.is_deleted_by_operator.Goals as goal

pub returns-then-is_from_plan_end : goal.returns-then-is_from_plan_end
returns-then-is_from_plan_end c =
    let view = c.args.self.now in
    let bounds = view.content.now.bounds in
    let key = c.args.key.now in
    let all = view.deletions.now.items in
    let own = c.with_key.result.now in
    let is = c.with_key.ensures.all in
    let ahead : is_from_plan_end bounds key ≡ true = sym c.is_from_plan_end.ensures ∙ c.if-is_from_plan_end.true in (
      (λ yes. barred_key bounds key all own view.deletion_rows is (shown view).sets refl ahead
          (c.has_operator.ensures.0 yes)),
      λ there. c.has_operator.ensures.1 (key_barred bounds key all own view.deletion_rows is (shown view).sets refl there).1,
    )
