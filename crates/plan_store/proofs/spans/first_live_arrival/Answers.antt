use Rattle.std.proofs.Common.{◌≢◌, rules}
use Rattle.occurrences.specs.declared.status.Status.TheVariants.{D}
use Rattle.plan_store.proofs.SpanLemmas.{live_least}
use Rattle.plan_store.proofs.spans.first_live_arrival.Goals as goal

pub returns-then-ne : goal.returns-then-ne
returns-then-ne c keyed one =
    let current = c.current-item.result in
    let live : current.status ≢ D = search rules in
    live_least c.args.rows.now keyed one c.loop-current.current-index current c.loop-current-test.true
    c.current-item.is live c.loop-current.invariant
