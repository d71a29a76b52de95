use Rattle.std.specs.Prelude.{option_copied}
use Rattle.plan_store.specs.Contents.{content_of}
use Rattle.plan_tables_schema.specs.declared.tables.Table.TheVariants as table
use Rattle.plan_tables.specs.declared.listing.ListedTable.TheVariants as asked
use Rattle.plan_tables.proofs.ListLemmas.{lists_kept}
use Rattle.plan_tables.proofs.listing.list_facts.Goals as goal

pub returns-in-History : goal.returns-in-History
returns-in-History g c = rw c.in-History.is (lists_kept g.S.Store c.args.conn.now c.list_history.new.conn
    (content_of c.args.lists.now) g.K.RowSink.accepts g.K.RowSink.refuses c.args.sink.now c.list_history.new.sink
    asked.History (option_copied c.args.app) table.History c.list_history.result c.list_history.ensures)

pub returns-in-Deletions : goal.returns-in-Deletions
returns-in-Deletions g c = rw c.in-Deletions.is (lists_kept g.S.Store c.args.conn.now c.list_deletions.new.conn
    (content_of c.args.lists.now) g.K.RowSink.accepts g.K.RowSink.refuses c.args.sink.now c.list_deletions.new.sink
    asked.Deletions (option_copied c.args.app) table.Deletion c.list_deletions.result c.list_deletions.ensures)

pub returns-in-Pairs : goal.returns-in-Pairs
returns-in-Pairs g c = rw c.in-Pairs.is c.list_pairs.ensures
