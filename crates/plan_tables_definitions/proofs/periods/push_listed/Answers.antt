use Rattle.std.proofs.Common.{arith}
use Rattle.std.specs.Prelude.{codes}
use Rattle.plan_tables_content.specs.Facts.{entry_values}
use Rattle.plan_tables_definitions.specs.Parts.{IsListedRow}
use Rattle.plan_tables_definitions.proofs.AddLemmas.{adds_step, get_at, row_added}
use Rattle.plan_tables_definitions.proofs.KeyLemmas.{entry_places_apart}
use Rattle.plan_tables_definitions.proofs.periods.push_listed.Goals as goal

pub loop-place-preserved : goal.loop-place-preserved
loop-place-preserved c = adds_step 2 (IsListedRow c.args.name.now) c.args.entries.now c.loop-place.place
    c.index-entries-place.result c.args.rows.now.items
    c.loop-place.rows.items c.push.new.self.items
    (get_at c.args.entries.now c.loop-place.place c.index-entries-place.result (omega (arith, c.loop-place-test.true))
    c.index-entries-place.is)
    (λ place entry under there v w.
    entry_places_apart place c.loop-place.place under c.args.name.now v w entry c.index-entries-place.result)
    c.loop-place.invariant
    (row_added 2 (entry_values c.args.name.now c.loop-place.place (codes "N") c.index-entries-place.result.0
    c.index-entries-place.result.1) c.in_ok-row.row c.loop-place.rows.items c.push.new.self.items c.in_ok-row.ensures
    c.in_ok-push.ensures.items)
