use Rattle.std.proofs.Common.{arith, refl}
use Rattle.plan_tables_loading.proofs.OrderLemmas.{rise_far}
use Rattle.plan_tables_loading.proofs.order.numbers_rise.Goals as goal

pub returns : goal.returns
returns g c = (
  (λ _ i j d low within. rise_far g.X.Numbered.number_of c.args.xs.now c.loop-at.at c.loop-at.invariant i j d low
      (omega (arith, within, c.loop-at))),
  λ _. refl,
)
