use Rattle.std.proofs.Common.{OnOk, inl, inr, subst, sym}
use Rattle.plan_store.specs.Views.{IsFilled}
use Rattle.plan_store.proofs.contents.Content.fill_window.Goals as goal

pub returns-in-Key-clause-filled : goal.returns-in-Key-clause-filled
returns-in-Key-clause-filled c = elim c.in-Key.is [
  | inl (key, is) ↦ subst (λ n. OnOk c.fill_for.result (IsFilled n c.fill_for.new.self)) (sym is)
      (rw is at c.fill_for.ensures.filled)
  | inr (only, is) ↦ subst (λ n. OnOk c.fill_for.result (IsFilled n c.fill_for.new.self)) (sym is)
      (rw is at c.fill_for.ensures.filled)
]
