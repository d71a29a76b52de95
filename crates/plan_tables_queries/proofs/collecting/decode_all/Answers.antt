use Rattle.std.proofs.Common.{false, map}
use Rattle.sqlite.specs.Held.{state}
use Rattle.sqlite.specs.State.{HasCleanDisk}
use Rattle.plan_tables_schema.specs.Rows.{shown, tables_of}
use Rattle.plan_tables_schema.specs.Schema.{HasTables}
use Rattle.plan_tables_loading.proofs.CollectLemmas.{kept_rows}
use Rattle.plan_tables_queries.proofs.CollectLemmas.{refused}
use Rattle.plan_tables_queries.proofs.FindLemmas.{stops_for}
use Rattle.plan_tables_queries.proofs.RowLemmas.{is_of_row, untold_of}
use Rattle.plan_tables_queries.proofs.collecting.decode_all.Goals as goal

pub returns-in-Ok : goal.returns-in-Ok
returns-in-Ok g c = record {
  told = λ clean has. kept_rows (λ w. w.xs.items) (λ _. false) g.X.Decode.has_form g.X.Decode.values _ _ c.emit_all.new.sink
      c.new.ensures.items (c.in-Ok.ensures.all clean has);
  untold = λ _ _. tt;
  same = c.in-Ok.ensures.same;
  fails = λ _ _. tt;
  leaves = c.in-Ok.ensures.leaves;
  mode = c.in-Ok.ensures.mode;
  survives = c.in-Ok.ensures.survives;
}

pub returns : goal.returns
returns g c =
    let rows = map (shown c.args.table) (tables_of (state g.S.Store c.args.conn.now).now.trees c.args.table) in
    let tells = λ (clean : HasCleanDisk (state g.S.Store c.emit_all.new.conn))
    (has : HasTables (state g.S.Store c.args.conn.now).now.schema). refused (λ w. w.xs.items) (λ w. w.why) g.X.Decode.has_form g.X.Decode.values rows _
    c.emit_all.new.sink (rw c.in-Err-Sink.field-0-is at (c.in-Err-Sink.ensures.part clean has)) in
    record {
      told = λ _ _. tt;
      untold = λ clean has. untold_of _ _ rows c.emit_all.new.sink.why (tells clean has);
      same = λ _ _. tt;
      fails = λ clean has. stops_for c.emit_all.new.sink.why _ _ (is_of_row _ _ rows _ (tells clean has))
          (rw c.in-Err-Sink.field-0-is at (c.in-Err-Sink.ensures.fails clean has));
      leaves = c.in-Err-Sink.ensures.leaves;
      mode = c.in-Err-Sink.ensures.mode;
      survives = c.in-Err-Sink.ensures.survives;
    }
