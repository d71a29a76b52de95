use Rattle.plan_store_lists.specs.Rows.{look_up}
use Rattle.plan_store.proofs.FittingLemmas.{fits_tested, refused, serial_of}
use Rattle.plan_store.proofs.fitting.fits_set.Goals as goal

pub returns-then-not-gone_stand : goal.returns-then-not-gone_stand
returns-then-not-gone_stand g c = refused c.gone_stand.result c.gone_stand.ensures c.if-not-gone_stand.true
    (λ fits. fits.goes)

pub returns-then-not-changed_stand : goal.returns-then-not-changed_stand
returns-then-not-changed_stand g c = refused c.changed_stand.result c.changed_stand.ensures
    c.if-not-changed_stand.true (λ fits. fits.changes)

pub returns-then-not-put_are_new : goal.returns-then-not-put_are_new
returns-then-not-put_are_new g c = refused c.put_are_new.result c.put_are_new.ensures c.if-not-put_are_new.true
    (λ fits. fits.new)

pub returns : goal.returns
returns g c =
    let row_of = g.T.PlanRow.row_of in
    fits_tested row_of c.args.moves.now (look_up (serial_of row_of) c.args.list.now.items)
    (c.gone_stand.ensures.0 c.if-not-gone_stand.false) (c.changed_stand.ensures.0 c.if-not-changed_stand.false)
    (c.put_are_new.ensures.0 c.if-not-put_are_new.false) c.names_each_once.result c.names_each_once.ensures
