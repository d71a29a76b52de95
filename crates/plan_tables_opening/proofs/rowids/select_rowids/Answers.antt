use Rattle.std.proofs.Common.{[], ◌∷◌}
use Rattle.sqlite.specs.Held.{state}
use Rattle.plan_tables_schema.proofs.ResultLemmas.{if_err, if_ok}
use Rattle.plan_tables_schema.proofs.StatementLemmas.{text_fails, text_leaves, text_quiet, text_stays}
use Rattle.plan_tables_opening.specs.Rowids.{rowid_sql, rowid_terms}
use Rattle.plan_tables_loading.specs.Reading.{HasPlan}
use Rattle.plan_tables_loading.proofs.LookLemmas.{on_done}
use Rattle.plan_tables_opening.proofs.RowidLemmas.{reads_rowids}
use Rattle.plan_tables_opening.proofs.RowidTexts.{rowid_name, rowids}
use Rattle.plan_tables_opening.proofs.rowids.select_rowids.Goals as goal

pub returns-clause-rows : goal.returns-clause-rows
unfolding HasPlan
returns-clause-rows g c clean has =
    if_ok c.query_all.result _ _ (λ rows h. reads_rowids c.args.table (state g.S.Store c.args.conn.now) (state g.S.Store
    c.query_all.new.self) rows.items has c.schema.ensures.live h)
    (rw c.rowid_text.ensures at (c.query_all.ensures.ok clean))

pub returns-clause-looks : goal.returns-clause-looks
unfolding HasPlan
returns-clause-looks g c =
    let t = c.args.table in
    let old = state g.S.Store c.args.conn.now in
    let new = state g.S.Store c.query_all.new.self in
    record {
      same = λ clean has done.
          on_done c.query_all.result _ _ (λ rows h. text_stays t (rowid_sql t) rowid_terms (rowid_name t ∷ []) old new
          has (rowids old.now.schema (has.trees t) (has.at t) t (has.stands t)) rows.items h)
          (rw c.rowid_text.ensures at (c.query_all.ensures.ok clean)) done;
      leaves = λ clean has.
          text_leaves t (rowid_sql t) rowid_terms (rowid_name t ∷ []) old new has (rowids old.now.schema (has.trees t)
          (has.at t) t (has.stands t)) (λ rows. rows.items) c.query_all.result (rw c.rowid_text.ensures at (c.query_all.ensures.ok clean))
          (rw c.rowid_text.ensures at (c.query_all.ensures.err clean));
      survives = text_quiet (rowid_sql t) old new (λ has. (rowids old.now.schema (has.trees t) (has.at t) t
          (has.stands t)).plain) (rw c.rowid_text.ensures at c.query_all.ensures.survives);
    }

pub returns-clause-fails : goal.returns-clause-fails
unfolding HasPlan
returns-clause-fails g c clean has =
    let t = c.args.table in
    let old = state g.S.Store c.args.conn.now in
    if_err c.query_all.result _ _ (λ e h. text_fails t (rowid_sql t) rowid_terms (rowid_name t ∷ []) old (state
    g.S.Store c.query_all.new.self) has (rowids old.now.schema (has.trees t) (has.at t) t (has.stands t)) e h)
    (rw c.rowid_text.ensures at (c.query_all.ensures.err clean))
