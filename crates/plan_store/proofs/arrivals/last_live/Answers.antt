use Rattle.std.proofs.Common.{◌≡◌, ◌≢◌, ◌-◌, ◌<◌, ◌≤◌, ◌∙◌, get_or, length, sym, ap, arith, rules}
use Rattle.std.proofs.lemmas.List.{get_or_default}
use Rattle.occurrences.specs.declared.place.CurrentRow.{CurrentRow}
use Rattle.occurrences.specs.declared.status.Status.TheVariants.{D}
use Rattle.plan_store.proofs.ArrivalLemmas.{live_greatest}
use Rattle.plan_store.proofs.arrivals.last_live.Goals as goal

pub returns-then-ne : goal.returns-then-ne
returns-then-ne c keyed =
    let rows = c.args.rows.now in
    let i = c.loop-left.left - 1 in
    let above : 0 < c.loop-left.left = c.loop-left-test.true in
    let bound : c.loop-left.left ≤ length rows = c.loop-left.invariant.within in
    let in_range : i < length rows = omega arith in
    let tested = c.index-rows-left.result in
    let d = c.index-rows-left-then-ne.result in
    let current = get_or rows i d in
    let same : current ≡ tested = get_or_default rows i d tested in_range ∙ sym c.index-rows-left.is in
    let live : tested.status ≢ D = search rules in
    live_greatest rows keyed i current c.arrival.result in_range (get_or_default rows i d current in_range)
    (λ deleted. live (ap (λ (x : CurrentRow). x.status) (sym same) ∙ deleted))
    (λ k d le lt. c.loop-left.invariant.deleted k d (omega arith) lt) c.arrival.ensures
