use Rattle.std.proofs.Common.{◌∙◌, ap, subst, sym, true≢false}
use Rattle.sqlite.proofs.Callers.{memory_is_clean}
use Rattle.sqlite.specs.Schema.{Schema}
use Rattle.plan_tables_schema.specs.Free.{CanMake, IsFree}
use Rattle.plan_tables_schema.specs.Schema.{HasTables}
use Rattle.plan_tables_schema.proofs.MadeLemmas.{nothing_is_free}
use Rattle.plan_tables_loading.specs.Reading.{HasPlan}
use Rattle.plan_tables_opening.specs.Standing.{StandAmong}
use Rattle.plan_tables_opening.proofs.StandingLemmas.{made_alone, stand_iff}
use Rattle.plan_tables_opening.proofs.schemas.find_tables.Goals as goal

pub returns-then-stand_among : goal.returns-then-stand_among
unfolding HasPlan
returns-then-stand_among g c =
    let empty = c.in_ok-made.ensures.empty.2 in
    let beside = c.in_ok-make_tables.ensures.done (memory_is_clean c.make_tables.new.conn) (subst IsFree (sym empty) nothing_is_free) in
    let alone = c.schema-plan.ensures.value ∙ made_alone _ _ empty beside.schema in
    let both = stand_iff c.schema-schema.result.now c.as_slice-2.result.now (c.as_slice-2.ensures ∙ ap (λ (s : Schema). s.tables) alone) in
    subst HasTables c.schema-schema.ensures.value (both.0 (subst (λ tables. StandAmong tables c.as_slice-2.result.now)
    c.as_slice.ensures (c.stand_among.ensures.0 c.if-stand_among.true)))

pub returns-then-can_make : goal.returns-then-can_make
returns-then-can_make g c =
    let empty = c.in_ok-made.ensures.empty.2 in
    let beside = c.in_ok-make_tables.ensures.done (memory_is_clean c.make_tables.new.conn) (subst IsFree (sym empty) nothing_is_free) in
    let alone = c.schema-plan.ensures.value ∙ made_alone _ _ empty beside.schema in
    subst IsFree c.schema-schema.ensures.value (subst (CanMake c.schema-schema.result.now) alone
    (c.can_make.ensures.0 c.if-can_make.true))

pub returns : goal.returns
unfolding HasPlan
returns g c =
    let empty = c.in_ok-made.ensures.empty.2 in
    let beside = c.in_ok-make_tables.ensures.done (memory_is_clean c.make_tables.new.conn) (subst IsFree (sym empty) nothing_is_free) in
    let alone = c.schema-plan.ensures.value ∙ made_alone _ _ empty beside.schema in
    let own = sym c.schema-schema.ensures.value in
    let plan_is = stand_iff c.schema-schema.result.now c.as_slice-2.result.now (c.as_slice-2.ensures ∙ ap (λ (s : Schema). s.tables) alone) in (
      λ plan. true≢false (sym (c.stand_among.ensures.1 (subst (λ tables. StandAmong tables c.as_slice-2.result.now)
          (sym c.as_slice.ensures) (plan_is.1 (subst HasTables own plan)))) ∙ c.if-stand_among.false),
      λ room. true≢false (sym (c.can_make.ensures.1 (subst (CanMake c.schema-schema.result.now) (sym alone)
          (subst IsFree own room))) ∙ c.if-can_make.false),
    )
