-- The tables of schema 1 that stand in a schema, and what is left without those that change.
use Rattle.std.proofs.Common.{◌≡◌, ◌↔◌, List, refl, sym, ap, subst}
use Rattle.sqlite_schema.specs.declared.schema.Schema.{Schema}
use Rattle.sqlite_schema.specs.declared.schema.Table.{Table as Described}
use Rattle.plan_tables_schema.specs.Free.{CanMake}
use Rattle.plan_tables_schema.specs.Schema.{tree}
use Rattle.plan_tables_opening.specs.Standing.{StandAmong}
use Rattle.plan_tables_opening.proofs.AmongLemmas.{Forms, are_there, they_stand}
use Rattle.plan_migrations_remaking.specs.FirstSchema.{CanRemake, HasFirstTables, changed_schema, first_schema, first_table_at}
use Rattle.plan_migrations_remaking.specs.Leaving.{left_by}
use Rattle.plan_migrations_remaking.proofs.LeavingLemmas.{left_is}

abbrev forms : Forms
forms = record { form = λ t. first_table_at (tree t) t; named = λ t. refl; offsets = refl }

pub stand_iff : (schema : Schema) (made : List Described) → made ≡ first_schema.tables
    → StandAmong schema.tables made ↔ HasFirstTables schema
stand_iff schema made is = (
  λ h.
      let are = are_there forms schema (subst (StandAmong schema.tables) is h) in
      record { at = are.at; trees = are.trees; stands = are.stands; apart = are.apart; refer = are.refer },
  λ has. subst (StandAmong schema.tables) (sym is) (they_stand forms schema
      (record { at = has.at; trees = has.trees; stands = has.stands; apart = has.apart; refer = has.refer })),
)

-- ---- they can be remade

-- the tables of schema 1 stand there, and the two that change can be made in what is left without them
pub remake_iff : (schema first made : Schema) → first ≡ first_schema → made ≡ changed_schema
    → (StandAmong schema.tables first.tables × CanMake (left_by schema made.tables) made) ↔ CanRemake schema
remake_iff schema first made is two = (
  λ h.
      let has = (stand_iff schema first.tables (ap (λ (s : Schema). s.tables) is)).0 h.0 in
      let left : CanMake (left_by schema changed_schema.tables) changed_schema =
      subst (λ (s : Schema). CanMake (left_by schema s.tables) s) two h.1 in
      record { has = has; free = subst (λ (s : Schema). CanMake s changed_schema) (left_is schema has) left },
  λ can. (
    (stand_iff schema first.tables (ap (λ (s : Schema). s.tables) is)).1 can.has,
    subst (λ (s : Schema). CanMake (left_by schema s.tables) s) (sym two)
        (subst (λ (s : Schema). CanMake s changed_schema) (sym (left_is schema can.has)) can.free),
  ),
)
