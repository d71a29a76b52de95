use Rattle.std.proofs.Common.{subst}
use Rattle.std.specs.List.{Contains}
use Rattle.sqlite.specs.Held.{state}
use Rattle.plan_tables_schema.specs.Rows.{tables_of}
use Rattle.plan_tables_schema.specs.declared.tables.Table.{Table}
use Rattle.plan_tables_loading.specs.Tables.{ShowsOnly}
use Rattle.plan_tables_loading.specs.Reading.{HasPlan}
use Rattle.plan_tables_opening.proofs.StoredLemmas.{shows_rows}
use Rattle.plan_tables_opening.proofs.stored.ShownTablePart.read.Goals as goal

pub returns-clause-told : goal.returns-clause-told
unfolding HasPlan
returns-clause-told g c clean plan =
    let all = tables_of (state g.S.Store c.args.conn.now).now.trees in
    subst (λ (t : Table). ShowsOnly all t (λ v. Contains c.in_ok-rows.rows.items v)) c.table_at.ensures
    (shows_rows all c.table_at.result c.in_ok-rows.rows.items (c.in_ok-rows.ensures.rows clean plan))
