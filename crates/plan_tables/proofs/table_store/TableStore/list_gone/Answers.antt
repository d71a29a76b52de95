use Rattle.std.proofs.Common.{Some}
use Rattle.sqlite.specs.Held.{state}
use Rattle.plan_store.specs.declared.listings.What.TheVariants as Showable
use Rattle.plan_tables_schema.specs.Rows.{tables_of}
use Rattle.plan_tables_windows.specs.Fetching.{told_rest}
use Rattle.plan_tables.proofs.UnreadLemmas.{lists_unread}
use Rattle.plan_tables.proofs.table_store.TableStore.list_gone.Goals as goal

pub returns-in-Err : goal.returns-in-Err
returns-in-Err g c =
    lists_unread _ c.args.self.now c.find_gone.new.self g.K.RowSink.accepts g.K.RowSink.refuses c.args.sink.now
    Showable.Deletions (Some c.args.app.now) _ c.in-Err.fault c.in-Err.ensures.reads c.requires
    c.listing_fault.result c.listing_fault.ensures (λ numbered. c.has_listings_with.ensures
    (told_rest (tables_of (state g.S.Store c.args.self.now.session.conn).now.trees)) numbered Showable.Deletions
    (Some c.args.app.now))
