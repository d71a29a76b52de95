use Rattle.std.proofs.Common.{◌↔◌, ◌++◌, [], subst, sym}
use Rattle.std.specs.List.{Contains}
use Rattle.occurrences.specs.declared.place.Place.TheVariants.{LongTerm}
use Rattle.external_dependencies.specs.declared.rows.PlacedRow.{PlacedRow}
use Rattle.plan_store_pairs.specs.LiveRows.{AddsRows, AreLiveRows}
use Rattle.plan_store_pairs.specs.Turns.{IsInLists}
use Rattle.plan_store_pairs.proofs.RowLemmas.{are_listed, are_live, rows_both}
use Rattle.plan_store_pairs.proofs.listing.live_rows_with.Goals as goal

pub returns-clause-live : goal.returns-clause-live
returns-clause-live c s has =
    let planned = c.args.planned.now in
    let made = c.args.made.now in
    let r1 = c.push_rows.new.rows.items in
    let r2 = c.push_rows-2.new.rows.items in
    let first =
    subst (λ old. AddsRows planned LongTerm old r1) c.in_ok-rows.ensures.items c.in_ok-push_rows.ensures in
    let both = rows_both planned made LongTerm [] r1 r2 first c.in_ok-push_rows-2.ensures in
    let live = are_live s (planned ++ made) c.args.current.now.items c.args.history.now has
    r2 c.push_current_set.new.rows.items c.push_rows-3.new.rows.items
    both c.in_ok-push_current_set.ensures c.in_ok-push_rows-3.ensures in
    subst (AreLiveRows s) (sym c.from_vec.ensures) live

pub returns-clause-listed : goal.returns-clause-listed
returns-clause-listed c =
    let planned = c.args.planned.now in
    let made = c.args.made.now in
    let current = c.args.current.now.items in
    let history = c.args.history.now in
    let r1 = c.push_rows.new.rows.items in
    let r2 = c.push_rows-2.new.rows.items in
    let first =
    subst (λ old. AddsRows planned LongTerm old r1) c.in_ok-rows.ensures.items c.in_ok-push_rows.ensures in
    let both = rows_both planned made LongTerm [] r1 r2 first c.in_ok-push_rows-2.ensures in
    let listed = are_listed (planned ++ made) current history r2 c.push_current_set.new.rows.items
    c.push_rows-3.new.rows.items both c.in_ok-push_current_set.ensures c.in_ok-push_rows-3.ensures in
    subst (λ rows. (p : PlacedRow) → Contains rows p ↔ IsInLists (planned ++ made) current history p)
    (sym c.from_vec.ensures) listed
