-- The tables of a plan that stand in a schema, or for which there is room.
use Rattle.std.proofs.Common.{◌≡◌, ◌↔◌, ◌∙◌, ℕ, false, List}
use Rattle.std.proofs.Common.{Option, Some, true, true≢false, refl, sym, ap, subst}
use Rattle.std.specs.Prelude.{◌||◌, is_some}
use Rattle.sqlite_catalog.specs.Change.{is_used}
use Rattle.sqlite_schema.specs.Names.{index_named, table_named, view_named}
use Rattle.sqlite_schema.specs.declared.schema.Schema.{Schema}
use Rattle.sqlite_schema.specs.declared.schema.Table.{Table as Described}
use Rattle.plan_tables_schema.specs.Free.{IsFree, with_plan}
use Rattle.plan_tables_schema.specs.Schema.{HasTables, name, no_schema, plan_schema, table}
use Rattle.plan_tables_schema.proofs.EachLemmas.{each}
use Rattle.plan_tables_schema.proofs.MadeLemmas.{plan_alone}
use Rattle.plan_tables_schema.specs.declared.tables.Table.TheVariants.{Meta}
use Rattle.plan_tables_opening.specs.Standing.{StandAmong}
use Rattle.plan_tables_opening.proofs.AmongLemmas.{Forms, are_there, they_stand}

abbrev forms : Forms
forms = record { form = table; named = λ t. refl; offsets = refl }

pub stand_iff : (schema : Schema) (made : List Described) → made ≡ plan_schema.tables
    → StandAmong schema.tables made ↔ HasTables schema
stand_iff schema made is = (
  λ h.
      let are = are_there forms schema (subst (StandAmong schema.tables) is h) in
      record { at = are.at; trees = are.trees; stands = are.stands; apart = are.apart; refer = are.refer },
  λ has. subst (StandAmong schema.tables) (sym is) (they_stand forms schema
      (record { at = has.at; trees = has.trees; stands = has.stands; apart = has.apart; refer = has.refer })),
)

-- where the tables stand the name of `plan_meta` is used
pub plan_uses : (schema : Schema) → HasTables schema → is_used schema (name Meta) ≡ true
plan_uses schema has =
    let there : table_named schema (name Meta) ≡ Some (has.at Meta) = (has.stands Meta).named in
    ap (λ (o : Option ℕ). is_some o || is_some (index_named schema (name Meta))
    || is_some (view_named schema (name Meta))) there

-- and not where there is room for them
pub room_leaves : (schema : Schema) → IsFree schema → is_used schema (name Meta) ≡ false
room_leaves schema free = each table (λ (d : Described). is_used schema d.name ≡ false) free.unused.tables Meta

-- where the tables stand none of their names is free
pub free_has_none : (schema : Schema) → IsFree schema → HasTables schema → ⊥
free_has_none schema free has = absurd (true≢false (sym (plan_uses schema has) ∙ room_leaves schema free))

-- what is made in an empty database is the plan alone
pub made_alone : (before after : Schema) → before ≡ no_schema → after ≡ with_plan before → after ≡ plan_schema
made_alone before after empty made = made ∙ ap with_plan empty ∙ plan_alone
