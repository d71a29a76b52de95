use Rattle.std.proofs.Common.{arith, ℤ, get_or, pos}
use Rattle.std.proofs.lemmas.Option.{slice_get-get_or}
use Rattle.plan_tables_content.specs.Facts.{offset_values}
use Rattle.plan_tables_definitions.specs.Parts.{IsOffsetAt}
use Rattle.plan_tables_definitions.proofs.AddLemmas.{adds_step, row_added}
use Rattle.plan_tables_definitions.proofs.KeyLemmas.{offset_places_apart}
use Rattle.plan_tables_definitions.proofs.offsets.push_offsets.Goals as goal

pub loop-place-preserved : goal.loop-place-preserved
loop-place-preserved c =
    let k : ℤ = get_or c.args.offsets.now c.loop-place.place (pos 0) in
    adds_step 3 (IsOffsetAt c.args.app.now c.args.name.now) c.args.offsets.now c.loop-place.place k c.args.rows.now.items
    c.loop-place.rows.items c.push.new.self.items
    (slice_get-get_or c.args.offsets.now c.loop-place.place (pos 0) (omega (arith, c.loop-place-test.true)))
    (λ place j under there v w.
    offset_places_apart place c.loop-place.place under c.args.app.now v w c.args.name.now j k)
    c.loop-place.invariant
    (row_added 3 (offset_values c.args.app.now c.args.name.now c.loop-place.place k) c.in_ok-row.row
    c.loop-place.rows.items c.push.new.self.items c.in_ok-row.ensures c.in_ok-push.ensures.items)
