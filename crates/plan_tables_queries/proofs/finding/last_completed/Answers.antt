use Rattle.std.specs.Prelude.{Ok, Err, Some, None}
use Rattle.sqlite.specs.Held.{state}
use Rattle.plan_tables_schema.specs.Rows.{tables_of}
use Rattle.plan_tables_queries.proofs.FindLemmas.{finds_fact, not_found, passes_on}
use Rattle.plan_tables_queries.proofs.LastLemmas.{last_is_told, last_row, none_last}
use Rattle.plan_tables_queries.proofs.RowLemmas.{none_of_row}
use Rattle.plan_tables_queries.proofs.finding.last_completed.Goals as goal

pub returns-in_default : goal.returns-in_default
returns-in_default g c =
    finds_fact g.S.Store c.args.conn.now c.last_of.new.conn None _
    (rw (c.as_str.ensures.value, c.in_default.is) at c.in_ok-cells.ensures) _ (Ok None)
    (λ content is sound found. none_last (tables_of (state g.S.Store c.args.conn.now).now.trees) content is sound
    c.args.app.now c.args.moment found)
    (λ _ _ _ _. tt) tt

pub returns : goal.returns
returns g c =
    finds_fact g.S.Store c.args.conn.now c.last_of.new.conn (Some c.in-Some.cells) _
    (rw (c.as_str.ensures.value, c.in-Some.is) at c.in_ok-cells.ensures) _ (Ok (Some c.in_ok-row.row))
    (λ content is sound found. last_row (tables_of (state g.S.Store c.args.conn.now).now.trees) content is sound
    c.args.app.now c.args.moment c.in-Some.cells found c.in_ok-row.row c.in_ok-row.ensures.told)
    (λ _ _ _ _. tt) tt

pub returns-in_err-row : goal.returns-in_err-row
returns-in_err-row g c = passes_on g.S.Store c.args.conn.now c.last_of.new.conn c.in_err-row.field-0.0 _
    c.from_residual-in_err-row.result c.from_residual-in_err-row.ensures.1 (
    finds_fact g.S.Store c.args.conn.now c.last_of.new.conn (Some c.in-Some.cells) _
    (rw (c.as_str.ensures.value, c.in-Some.is) at c.in_ok-cells.ensures) _ (Err c.in_err-row.field-0.0)
    (λ _ _ _ _. tt)
    (λ content is sound found. last_is_told (tables_of (state g.S.Store c.args.conn.now).now.trees) content is sound
    c.args.app.now c.args.moment c.in-Some.cells found c.in_err-row.field-0.0 c.in_err-row.ensures.untold)
    (none_of_row _ _ c.in-Some.cells c.in_err-row.field-0.0 c.in_err-row.ensures.untold))

pub returns-in_err-cells : goal.returns-in_err-cells
returns-in_err-cells g c = not_found g.S.Store c.args.conn.now c.last_of.new.conn c.in_err-cells.field-0.0 _
    (rw c.as_str.ensures.value at c.in_err-cells.ensures) _ c.from_residual.result c.from_residual.ensures.1
