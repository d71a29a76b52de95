use Rattle.sqlite.specs.Held.{state}
use Rattle.plan_tables_schema.specs.Rows.{tables_of}
use Rattle.plan_tables_loading.specs.Cells.{IsPair}
use Rattle.plan_tables_loading.specs.Reading.{HasPlan}
use Rattle.plan_tables_loading.specs.Rowids.{pair_row_values}
use Rattle.plan_tables_loading.proofs.CollectLemmas.{kept_rows, untold}
use Rattle.plan_tables_loading.proofs.PairEmitLemmas.{ArePairs}
use Rattle.plan_tables_loading.proofs.PairLemmas.{no_pair}
use Rattle.plan_tables_loading.proofs.pairs.read_pairs.Goals as goal

pub returns-in-Ok-clause-listed : goal.returns-in-Ok-clause-listed
unfolding HasPlan
returns-in-Ok-clause-listed g c clean plan =
    kept_rows (λ w. w.xs.items) (λ w. w.is_short) (λ x. IsPair x.pair) pair_row_values
    (ArePairs (state g.S.Store c.args.conn.now)) _ c.emit_pairs.new.sink c.new.ensures.items
    (c.in-Ok.ensures.all clean plan)

pub returns-clause-refused : goal.returns-clause-refused
unfolding HasPlan
returns-clause-refused g c clean plan _ shows =
    let (rows, whole, none) = untold (λ w. w.xs.items) (λ w. w.is_short) (λ x. IsPair x.pair) pair_row_values
    (ArePairs (state g.S.Store c.args.conn.now)) _ c.emit_pairs.new.sink
    (rw c.in-Err-Sink-2.field-0-is at (c.in-Err-Sink.ensures.part clean plan)) c.if-told.false in
    no_pair (tables_of (state g.S.Store c.args.conn.now).now.trees) rows whole none shows
