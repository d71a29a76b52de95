use Rattle.plan_store.proofs.views.View.previous.Goals as goal

pub returns : goal.returns
returns c hidden numbered part last = (rw c.number.ensures.value at c.last_before.ensures) hidden numbered part last
