use Rattle.sqlite.specs.Held.{state}
use Rattle.plan_tables_schema.specs.Rows.{tables_of}
use Rattle.plan_tables_loading.specs.Reading.{HasPlan}
use Rattle.plan_tables_loading.proofs.CollectLemmas.{kept_rows, kept_shown, untold_row}
use Rattle.plan_tables_loading.proofs.tables.read_table.Goals as goal

pub returns-in-Ok-clause-told : goal.returns-in-Ok-clause-told
unfolding HasPlan
returns-in-Ok-clause-told g c clean plan =
    kept_shown (λ w. w.xs.items) (λ w. w.is_short) g.X.Decode.has_form g.X.Decode.values c.args.table
    (tables_of (state g.S.Store c.args.conn.now).now.trees) _ c.emit_all.new.sink c.new.ensures.items
    (c.in-Ok.ensures.all clean plan)

pub returns-in-Ok-clause-listed : goal.returns-in-Ok-clause-listed
unfolding HasPlan
returns-in-Ok-clause-listed g c clean plan =
    kept_rows (λ w. w.xs.items) (λ w. w.is_short) g.X.Decode.has_form g.X.Decode.values _ _ c.emit_all.new.sink c.new.ensures.items
    (c.in-Ok.ensures.all clean plan)

pub returns-clause-refused : goal.returns-clause-refused
unfolding HasPlan
returns-clause-refused g c clean plan _ =
    untold_row (λ w. w.xs.items) (λ w. w.is_short) g.X.Decode.has_form g.X.Decode.values c.args.table
    (tables_of (state g.S.Store c.args.conn.now).now.trees) _ c.emit_all.new.sink
    (rw c.in-Err-Sink-2.field-0-is at (c.in-Err-Sink.ensures.part clean plan)) c.if-told.false
