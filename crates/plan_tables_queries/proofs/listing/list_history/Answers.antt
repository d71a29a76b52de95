use Rattle.std.proofs.Common.{None, Some, [], ◌∷◌, refl}
use Rattle.sqlite.specs.declared.types.Value.TheVariants.{Text}
use Rattle.planner_machine.specs.Content.{Content}
use Rattle.planner_machine.specs.Shown.{InHistory}
use Rattle.plan_tables_lookups.specs.declared.looks.Look.TheVariants.{HistoryListed, HistoryOf}
use Rattle.plan_tables_queries.proofs.ListsLemmas.{lists}
use Rattle.plan_tables_queries.proofs.SetLemmas.{all_history, history_of, history_read, history_shown}
use Rattle.plan_tables_queries.proofs.listing.list_history.Goals as goal

pub returns-in-Some : goal.returns-in-Some
returns-in-Some g c =
    let app = c.in-Some.app.now in
    let told = rw c.name.ensures at c.decode_rows.ensures in
    rw c.in-Some.is (lists _ _ _ _ (λ (c : Content). c.sets.history) InHistory history_shown HistoryOf
    (Text app ∷ []) (Some app) (history_of app) (app, refl) _ _ _ history_read g.S.Store
    c.args.conn.now c.decode_rows.new.conn g.K.RowSink.accepts g.K.RowSink.refuses c.args.sink.now c.decode_rows.new.sink
    c.decode_rows.result told.all told.part told.same told.fails told.leaves told.mode told.survives)

pub returns-in-None : goal.returns-in-None
returns-in-None g c =
    let told = c.decode_rows-in-None.ensures in
    rw c.in-None.is (lists _ _ _ _ (λ (c : Content). c.sets.history) InHistory history_shown HistoryListed
    [] None all_history refl _ _ _ history_read g.S.Store
    c.args.conn.now c.decode_rows-in-None.new.conn g.K.RowSink.accepts g.K.RowSink.refuses c.args.sink.now
    c.decode_rows-in-None.new.sink
    c.decode_rows-in-None.result told.all told.part told.same told.fails told.leaves told.mode told.survives)
