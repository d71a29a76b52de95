use Rattle.std.proofs.Common.{arith, refl}
use Rattle.sqlite.specs.Order.{Row as Values, column}
use Rattle.plan_tables_loading.proofs.OrderLemmas.{rise_far}
use Rattle.plan_tables_loading.specs.Rowids.{place_of}
use Rattle.plan_tables_opening.proofs.rowids.places_rise.Goals as goal

pub returns : goal.returns
returns c = (
  (λ _ i j d low within. rise_far (λ (r : Values). place_of (column r 0)) c.args.rows.now c.loop-at.at
      c.loop-at.invariant i j d low (omega (arith, within, c.loop-at))),
  λ _. refl,
)
