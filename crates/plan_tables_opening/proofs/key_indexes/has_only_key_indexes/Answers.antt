use Rattle.std.proofs.Common.{◌∙◌, ap, subst, sym}
use Rattle.sqlite.proofs.Callers.{memory_is_clean}
use Rattle.sqlite.specs.Schema.{Schema}
use Rattle.plan_tables_schema.specs.Free.{IsFree}
use Rattle.plan_tables_schema.proofs.MadeLemmas.{nothing_is_free}
use Rattle.plan_tables_opening.proofs.IndexLemmas.{own_told}
use Rattle.plan_tables_opening.proofs.MemoryLemmas.{only_memory, told_error}
use Rattle.plan_tables_opening.proofs.StandingLemmas.{made_alone}
use Rattle.plan_tables_opening.proofs.key_indexes.has_only_key_indexes.Goals as goal

pub returns-clause-own : goal.returns-clause-own
returns-clause-own g c has =
    let empty = c.in_ok-made.ensures.empty.2 in
    let beside = c.in_ok-make_tables.ensures.done (memory_is_clean c.make_tables.new.conn) (subst IsFree (sym empty)
    nothing_is_free) in
    let alone = c.schema-plan.ensures.value ∙ made_alone _ _ empty beside.schema in
    own_told c.schema-schema.result.now _ (c.as_slice.ensures) (c.as_slice-2.ensures)
    (c.as_slice-3.ensures ∙ ap (λ (s : Schema). s.tables) alone) c.schema-schema.ensures.value has c.are_own.result
    c.are_own.ensures

pub returns-in_err-make_tables-clause-refused : goal.returns-in_err-make_tables-clause-refused
returns-in_err-make_tables-clause-refused g c =
    let empty = c.in_ok-made.ensures.empty in
    told_error c.from_residual-in_err-make_tables.result c.in_err-make_tables.field-0.0
    c.from_residual-in_err-make_tables.ensures.1 (only_memory _ c.make_tables.new.conn _ empty c.in_ok-made.ensures.fresh
    (c.in_err-make_tables.ensures.fails (memory_is_clean c.make_tables.new.conn)
    (subst IsFree (sym empty.2) nothing_is_free)))
