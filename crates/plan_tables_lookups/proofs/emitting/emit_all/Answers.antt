use Rattle.std.proofs.Common.{[]}
use Rattle.sqlite.specs.Held.{state}
use Rattle.plan_tables_schema.specs.Rows.{tables_of}
use Rattle.plan_tables_schema.proofs.ResultLemmas.{if_err, still_ok}
use Rattle.plan_tables_lookups.proofs.EmitLemmas.{table_handed, table_parted}
use Rattle.plan_tables_lookups.proofs.emitting.emit_all.Goals as goal

pub returns-clause-all : goal.returns-clause-all
returns-clause-all g c clean has =
    still_ok c.emit.result _ _ (table_handed c.args.table [] (tables_of (state g.S.Store c.args.conn.now).now.trees)
    g.K.ValuesSink.accepts g.K.ValuesSink.refuses c.args.sink.now c.emit.new.sink) (c.emit.ensures.all clean has)

pub returns-clause-part : goal.returns-clause-part
returns-clause-part g c clean has =
    if_err c.emit.result _ _ (table_parted c.args.table [] (tables_of (state g.S.Store c.args.conn.now).now.trees)
    g.K.ValuesSink.accepts g.K.ValuesSink.refuses c.args.sink.now c.emit.new.sink) (c.emit.ensures.part clean has)
