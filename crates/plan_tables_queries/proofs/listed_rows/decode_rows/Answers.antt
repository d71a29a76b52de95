use Rattle.std.proofs.Common.{refl, rules, subst}
use Rattle.sqlite.specs.Held.{state}
use Rattle.sqlite.specs.Values.{bound}
use Rattle.plan_tables_lookups.specs.Looks.{question}
use Rattle.plan_tables_lookups.specs.Question.{Answers}
use Rattle.plan_tables_schema.specs.Rows.{tables_of}
use Rattle.plan_tables_queries.specs.ListedRows.{TellsAll, TellsPart}
use Rattle.plan_tables_lookups.specs.declared.faults.Stopped.TheVariants.{Fault}
use Rattle.plan_tables_lookups.specs.declared.faults.TableFault.TheVariants.{Store}
use Rattle.plan_tables_queries.proofs.TellLemmas.{told_all, told_before, told_part}
use Rattle.plan_tables_queries.proofs.listed_rows.decode_rows.Goals as goal

pub returns-in-Ok-clause-all : goal.returns-in-Ok-clause-all
returns-in-Ok-clause-all g c clean has =
    let whole = Answers (question c.args.look) (bound c.args.asked.now)
    (tables_of (state g.S.Store c.args.conn.now).now.trees) in
    let (named, told) = told_all c.emit.new.sink (λ w. w.sink.now) (λ w. w.sink.ghost_name) (λ w. w.count) (λ w. w.why)
    g.T.Decode.has_form g.T.Decode.values g.T.Marked.row_of g.T.Marked.letter_of g.K.RowSink.accepts g.K.RowSink.refuses
    whole _ c.emit.new.sink refl (c.in-Ok.ensures.all clean has) in
    subst (λ k. TellsAll g.T.Decode.values g.T.Marked.row_of g.T.Marked.letter_of g.K.RowSink.accepts whole
    c.args.sink.now k c.emit.new.sink.count) (search rules) told

pub returns-in-Err-Fault-clause-part : goal.returns-in-Err-Fault-clause-part
returns-in-Err-Fault-clause-part g c clean has =
    let whole = Answers (question c.args.look) (bound c.args.asked.now)
    (tables_of (state g.S.Store c.args.conn.now).now.trees) in
    let (named, told) = told_before c.emit.new.sink (λ w. w.sink.now) (λ w. w.sink.ghost_name) (λ w. w.count)
    (λ w. w.why) g.T.Decode.has_form g.T.Decode.values g.T.Marked.row_of g.T.Marked.letter_of g.K.RowSink.accepts
    g.K.RowSink.refuses whole _ c.emit.new.sink c.in-Err-Fault.error
    (rw c.in-Err-Fault.field-0-is at (c.in-Err-Fault.ensures.part clean has)) in
    subst (λ k. TellsPart g.T.Decode.has_form g.T.Decode.values g.T.Marked.row_of g.T.Marked.letter_of g.K.RowSink.accepts
    g.K.RowSink.refuses whole c.args.sink.now k (Fault (Store c.in-Err-Fault.error))) (search rules) told

pub returns-in-Err-Sink-clause-part : goal.returns-in-Err-Sink-clause-part
returns-in-Err-Sink-clause-part g c clean has =
    let whole = Answers (question c.args.look) (bound c.args.asked.now)
    (tables_of (state g.S.Store c.args.conn.now).now.trees) in
    let (named, told) = told_part c.emit.new.sink (λ w. w.sink.now) (λ w. w.sink.ghost_name) (λ w. w.count)
    (λ w. w.why) g.T.Decode.has_form g.T.Decode.values g.T.Marked.row_of g.T.Marked.letter_of g.K.RowSink.accepts
    g.K.RowSink.refuses whole _ c.emit.new.sink
    (rw c.in-Err-Sink.field-0-is at (c.in-Err-Sink.ensures.part clean has)) in
    subst (λ k. TellsPart g.T.Decode.has_form g.T.Decode.values g.T.Marked.row_of g.T.Marked.letter_of g.K.RowSink.accepts
    g.K.RowSink.refuses whole c.args.sink.now k c.emit.new.sink.why) (search rules) told
