use Rattle.std.proofs.Common.{subst, sym}
use Rattle.sqlite.proofs.Callers.{memory_is_clean}
use Rattle.plan_tables_schema.specs.Free.{IsFree, with_plan}
use Rattle.plan_tables_schema.specs.Rows.{no_rows}
use Rattle.plan_tables_schema.proofs.MadeLemmas.{nothing_is_free}
use Rattle.plan_tables_schema.proofs.ResultLemmas.{if_from}
use Rattle.plan_migrations_remaking.specs.Remaking.{RefusesToFill, with_all_put}
use Rattle.plan_migrations_remaking.proofs.FillLemmas.{memory_fails, or_alone}
use Rattle.plan_migrations_remaking.proofs.filling.plan_in_memory.Goals as goal

pub returns-in_err-fill_tables-clause-fails : goal.returns-in_err-fill_tables-clause-fails
returns-in_err-fill_tables-clause-fails c =
    let empty = c.in_ok-conn.ensures.empty in
    let unlimited = c.in_ok-conn.ensures.fresh.unlimited in
    if_from c.from_residual-in_err-fill_tables.result _ _ (λ e is. or_alone c.in_ok-conn.conn c.args.reads.now
    c.in_err-fill_tables.field-0.0 e is unlimited empty.2 (memory_fails c.in_ok-conn.conn c.fill_tables.new.conn
    c.in_err-fill_tables.field-0.0 (RefusesToFill c.in_ok-conn.conn.step_limit (with_plan c.in_ok-conn.conn.schema)
    (with_all_put c.args.reads.now no_rows)) empty.0.is_open unlimited (c.in_err-fill_tables.ensures.fails (memory_is_clean
    c.fill_tables.new.conn) (subst IsFree (sym empty.2) nothing_is_free))))
    c.from_residual-in_err-fill_tables.ensures.1

pub returns-clause-plan : goal.returns-clause-plan
returns-clause-plan c = (c.in_ok-fill_tables.ensures.done (memory_is_clean c.fill_tables.new.conn)
    (subst IsFree (sym c.in_ok-conn.ensures.empty.2) nothing_is_free)).0

pub returns-clause-rows : goal.returns-clause-rows
returns-clause-rows c = (c.in_ok-fill_tables.ensures.done (memory_is_clean c.fill_tables.new.conn)
    (subst IsFree (sym c.in_ok-conn.ensures.empty.2) nothing_is_free)).1
