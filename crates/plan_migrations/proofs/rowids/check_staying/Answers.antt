use Rattle.std.proofs.Common.{◌∙◌, subst, sym, true≢false, ℕ, List, []}
use Rattle.sqlite.specs.Held.{state}
use Rattle.sqlite.specs.State.{Shown}
use Rattle.plan_tables_schema.specs.Rows.{tables_of}
use Rattle.plan_tables_loading.proofs.TableLemmas.{at_some}
use Rattle.plan_tables_opening.specs.Foreign.{RefusesToShow}
use Rattle.plan_tables_opening.specs.Queries.{IsReading}
use Rattle.plan_migrations.proofs.RowidLemmas.{reads_rowids, refused_rowids}
use Rattle.plan_migrations.proofs.TextLemmas.{rowid_reads}
use Rattle.plan_migrations.proofs.rowids.check_staying.Goals as goal

pub ask-requires-clause-reading : goal.ask-requires-clause-reading
ask-requires-clause-reading g c = subst IsReading (sym c.rowid_text.ensures) (rowid_reads c.args.table)

pub returns-then-are_rowids-clause-checked : goal.returns-then-are_rowids-clause-checked
returns-then-are_rowids-clause-checked g c clean can other =
    let t = c.args.table in
    let old = state g.S.Store c.args.conn.now in
    let new = state g.S.Store c.ask.new.conn in
    let rows = c.in-Some.rows.items in
    let told = at_some _ _ _ c.in-Some.is (c.in_ok-rows.ensures.shown clean) in
    (c.are_rowids.ensures (tables_of old.now.trees t) (reads_rowids t old new other can.has rows c.schema.ensures.live
    (subst (λ (sql : List ℕ). Shown sql [] old new rows) c.rowid_text.ensures told))).0 c.if-are_rowids.true

pub returns-in-Some-clause-checked : goal.returns-in-Some-clause-checked
returns-in-Some-clause-checked g c clean can have =
    let t = c.args.table in
    let old = state g.S.Store c.args.conn.now in
    let new = state g.S.Store c.ask.new.conn in
    let other = c.requires.stays in
    let rows = c.in-Some.rows.items in
    let told = at_some _ _ _ c.in-Some.is (c.in_ok-rows.ensures.shown clean) in
    let good = (c.are_rowids.ensures (tables_of old.now.trees t) (reads_rowids t old new other can.has rows
    c.schema.ensures.live (subst (λ (sql : List ℕ). Shown sql [] old new rows) c.rowid_text.ensures told))).1
    (have t other) in
    true≢false (sym good ∙ c.if-are_rowids.false)

pub returns-clause-checked : goal.returns-clause-checked
returns-clause-checked g c clean can =
    let old = state g.S.Store c.args.conn.now in
    let new = state g.S.Store c.ask.new.conn in
    refused_rowids c.args.table old new c.requires.stays can.has
    (subst (λ (sql : List ℕ). RefusesToShow sql old new) c.rowid_text.ensures
    (c.in_ok-rows.ensures.refused clean c.in-None.is))
