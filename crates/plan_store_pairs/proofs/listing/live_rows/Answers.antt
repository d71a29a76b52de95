use Rattle.std.proofs.Common.{◌↔◌, subst, sym}
use Rattle.std.specs.List.{Contains}
use Rattle.occurrences.specs.declared.place.Place.TheVariants.{LongTerm}
use Rattle.external_dependencies.specs.declared.rows.PlacedRow.{PlacedRow}
use Rattle.plan_store_pairs.specs.LiveRows.{AddsRows, AreLiveRows}
use Rattle.plan_store_pairs.specs.Turns.{IsInLists}
use Rattle.plan_store_pairs.proofs.RowLemmas.{are_listed, are_live}
use Rattle.plan_store_pairs.proofs.listing.live_rows.Goals as goal

pub returns-clause-live : goal.returns-clause-live
returns-clause-live c s has =
    let planned = c.args.planned.now.items in
    let r1 = c.push_set.new.rows.items in
    let first = subst (λ old. AddsRows planned LongTerm old r1) c.in_ok-rows.ensures.items c.in_ok-push_set.ensures in
    let live = are_live s planned c.args.current.now.items c.args.history.now.items has r1
    c.push_current_set.new.rows.items c.push_set-2.new.rows.items first c.in_ok-push_current_set.ensures
    c.in_ok-push_set-2.ensures in
    subst (AreLiveRows s) (sym c.from_vec.ensures) live

pub returns-clause-listed : goal.returns-clause-listed
returns-clause-listed c =
    let planned = c.args.planned.now.items in
    let current = c.args.current.now.items in
    let history = c.args.history.now.items in
    let r1 = c.push_set.new.rows.items in
    let first = subst (λ old. AddsRows planned LongTerm old r1) c.in_ok-rows.ensures.items c.in_ok-push_set.ensures in
    let listed = are_listed planned current history r1 c.push_current_set.new.rows.items c.push_set-2.new.rows.items
    first c.in_ok-push_current_set.ensures c.in_ok-push_set-2.ensures in
    subst (λ rows. (p : PlacedRow) → Contains rows p ↔ IsInLists planned current history p) (sym c.from_vec.ensures)
    listed
