use Rattle.std.proofs.Common.{Err, Some, refl, subst, sym}
use Rattle.sqlite.specs.Held.{state}
use Rattle.planner_machine.specs.Content.{Content}
use Rattle.plan_store.specs.Contents.{content_of}
use Rattle.plan_store.specs.Ends.{HasFound}
use Rattle.plan_store.specs.declared.listings.What.TheVariants as Whats
use Rattle.plan_tables_windows.specs.Fetching.{rest_in}
use Rattle.plan_tables_lookups.specs.declared.faults.Stopped.{Stopped}
use Rattle.plan_tables_lookups.specs.declared.faults.TableFault.{TableFault}
use Rattle.plan_tables.specs.Listing.{ListsKept}
use Rattle.plan_tables.specs.declared.listing.ListedTable.TheVariants as asked
use Rattle.plan_tables.proofs.ListLemmas.{ends_ready, pairs_ended, pairs_ok, unread_kept}
use Rattle.plan_tables.proofs.listing.list_app_pairs.Goals as goal

pub returns-in_err-found : goal.returns-in_err-found
returns-in_err-found g c =
    unread_kept g.S.Store c.args.conn.now c.find_ends.new.conn (content_of c.args.lists.now) g.K.RowSink.accepts
    g.K.RowSink.refuses c.args.sink.now c.args.sink.now asked.Pairs (Some c.args.app.now) _ c.in_err-found.field-0.0
    c.in_err-found.ensures.found (λ numbered. c.has_listings_with.ensures
    (rest_in (state g.S.Store c.args.conn.now)) numbered Whats.Dependencies (Some c.args.app.now)) refl c.from_residual.result
    c.from_residual.ensures.1

pub returns-in-Ok : goal.returns-in-Ok
returns-in-Ok g c =
    let lists = content_of c.args.lists.now in
    let app = c.args.app.now in
    let found = c.in_ok-found.found in
    pairs_ok g.S.Store c.args.conn.now c.find_ends.new.conn lists g.K.RowSink.accepts g.K.RowSink.refuses
    c.args.sink.now c.app_pairs_to.new.sink asked.Pairs (Some app) found
    (λ (k : Content) rows. HasFound app lists k.sets.history rows.items) c.in_ok-found.ensures.found _
    (ends_ready g.S.Store c.args.conn.now c.find_ends.new.conn lists found _ c.in_ok-found.ensures.found app found.items
    c.in_ok-found.ensures.sorted (λ k is. is)) c.in-Ok.count
    (λ numbered ready. (rw c.as_slice-rows.ensures.value at c.in-Ok.ensures.all)
    (rest_in (state g.S.Store c.args.conn.now)) numbered ready)

pub returns : goal.returns
returns g c =
    let lists = content_of c.args.lists.now in
    let app = c.args.app.now in
    let found = c.in_ok-found.found in
    subst (λ (f : Stopped TableFault). ListsKept g.S.Store c.args.conn.now c.find_ends.new.conn lists g.K.RowSink.accepts
    g.K.RowSink.refuses c.args.sink.now c.app_pairs_to.new.sink asked.Pairs (Some app) (Err f))
    (sym c.ended_so.ensures)
    (pairs_ended g.S.Store c.args.conn.now c.find_ends.new.conn lists g.K.RowSink.accepts g.K.RowSink.refuses
    c.args.sink.now c.app_pairs_to.new.sink asked.Pairs (Some app) found
    (λ (k : Content) rows. HasFound app lists k.sets.history rows.items) c.in_ok-found.ensures.found _
    (ends_ready g.S.Store c.args.conn.now c.find_ends.new.conn lists found _ c.in_ok-found.ensures.found app found.items
    c.in_ok-found.ensures.sorted (λ k is. is)) c.in-Err.fault
    (λ numbered ready. (rw c.as_slice-rows.ensures.value at c.in-Err.ensures.part)
    (rest_in (state g.S.Store c.args.conn.now)) numbered ready))
