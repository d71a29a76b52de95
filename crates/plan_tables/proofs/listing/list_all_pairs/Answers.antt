use Rattle.std.proofs.Common.{List, Err, None, refl, subst, sym}
use Rattle.sqlite.specs.Held.{state}
use Rattle.occurrences.specs.declared.place.Deletion.{Deletion}
use Rattle.occurrences.specs.declared.row.Row.{Row}
use Rattle.planner_machine.specs.Content.{Content}
use Rattle.plan_store_lists.specs.Rows.{of_deletion, of_row}
use Rattle.plan_store.specs.Contents.{content_of}
use Rattle.plan_store.specs.Parts.{ListsAll}
use Rattle.plan_store.specs.declared.listings.What.TheVariants as Whats
use Rattle.plan_tables_windows.specs.Fetching.{rest_in}
use Rattle.plan_tables_lookups.specs.declared.faults.Stopped.{Stopped}
use Rattle.plan_tables_lookups.specs.declared.faults.TableFault.{TableFault}
use Rattle.plan_tables.specs.Listing.{ListsKept}
use Rattle.plan_tables.specs.declared.listing.ListedTable.TheVariants as asked
use Rattle.plan_tables.proofs.ListLemmas.{pairs_ended, pairs_ok, rest_ready, unread_kept}
use Rattle.plan_tables.proofs.listing.list_all_pairs.Goals as goal

pub returns-in_err-rows : goal.returns-in_err-rows
returns-in_err-rows g c =
    unread_kept g.S.Store c.args.conn.now c.read_rest.new.conn (content_of c.args.lists.now) g.K.RowSink.accepts
    g.K.RowSink.refuses c.args.sink.now c.args.sink.now asked.Pairs None _ c.in_err-rows.field-0.0
    c.in_err-rows.ensures (λ numbered. c.has_listings_with.ensures
    (rest_in (state g.S.Store c.args.conn.now)) numbered Whats.Dependencies None) refl c.from_residual.result
    c.from_residual.ensures.1

pub returns-in-Ok : goal.returns-in-Ok
returns-in-Ok g c =
    let lists = content_of c.args.lists.now in
    pairs_ok g.S.Store c.args.conn.now c.read_rest.new.conn lists g.K.RowSink.accepts g.K.RowSink.refuses
    c.args.sink.now c.pairs_to.new.sink asked.Pairs None c.in_ok-rows.rows (λ (k : Content) found.
    ListsAll of_row found.0.items k.sets.history × ListsAll of_deletion found.1.items k.sets.deletions) c.in_ok-rows.ensures
    _ (rest_ready g.S.Store c.args.conn.now c.read_rest.new.conn lists c.in_ok-rows.rows _ c.in_ok-rows.ensures
    c.as_slice-completed.result.now c.as_slice-deleted.result.now (λ k is. (
      subst (λ (l : List Row). ListsAll of_row l k.sets.history) (sym c.as_slice-completed.ensures.value) is.0,
      subst (λ (l : List Deletion). ListsAll of_deletion l k.sets.deletions) (sym c.as_slice-deleted.ensures.value)
          is.1,
    ))) c.in-Ok.count (λ numbered ready. c.in-Ok.ensures.all
    (rest_in (state g.S.Store c.args.conn.now)) numbered ready.0 ready.1)

pub returns : goal.returns
returns g c =
    let lists = content_of c.args.lists.now in
    subst (λ (f : Stopped TableFault). ListsKept g.S.Store c.args.conn.now c.read_rest.new.conn lists g.K.RowSink.accepts
    g.K.RowSink.refuses c.args.sink.now c.pairs_to.new.sink asked.Pairs None (Err f)) (sym c.ended_so.ensures)
    (pairs_ended g.S.Store c.args.conn.now c.read_rest.new.conn lists g.K.RowSink.accepts g.K.RowSink.refuses
    c.args.sink.now c.pairs_to.new.sink asked.Pairs None c.in_ok-rows.rows (λ (k : Content) found.
    ListsAll of_row found.0.items k.sets.history × ListsAll of_deletion found.1.items k.sets.deletions) c.in_ok-rows.ensures
    _ (rest_ready g.S.Store c.args.conn.now c.read_rest.new.conn lists c.in_ok-rows.rows _ c.in_ok-rows.ensures
    c.as_slice-completed.result.now c.as_slice-deleted.result.now (λ k is. (
      subst (λ (l : List Row). ListsAll of_row l k.sets.history) (sym c.as_slice-completed.ensures.value) is.0,
      subst (λ (l : List Deletion). ListsAll of_deletion l k.sets.deletions) (sym c.as_slice-deleted.ensures.value)
          is.1,
    ))) c.in-Err.fault (λ numbered ready. c.in-Err.ensures.part
    (rest_in (state g.S.Store c.args.conn.now)) numbered ready.0 ready.1))
