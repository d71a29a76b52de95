-- What one statement does to the tables of the plan, wherever each stands.
use Rattle.std.proofs.Common.{◌≡◌, ◌≢◌, ◌⊎◌, inl, inr, ℕ, not, false, [], length, filter, Ok, refl, sym, ap, subst}
use Rattle.std.specs.List.{AllByRecursion}
use Rattle.sqlite.specs.Order.{Row}
use Rattle.sqlite.specs.State.{State, Executes}
use Rattle.sqlite_rules.proofs.ListLemmas.{all_from, all_has, has_got}
use Rattle.sqlite_rules.proofs.RuleLemmas.{same_table}
use Rattle.sqlite_rules.specs.Lists.{Has}
use Rattle.sqlite_schema.specs.Names.{same_name}
use Rattle.sqlite_schema.specs.declared.schema.Keys.TheVariants.{Enforced}
use Rattle.sqlite_schema.specs.declared.schema.Reference.{Reference}
use Rattle.sqlite_schema.specs.declared.schema.Schema.{Schema}
use Rattle.sqlite_schema.specs.declared.schema.Table.{Table as Described}
use Rattle.plan_tables_schema.specs.Rows.{HaveRowids, IsAlone, matches}
use Rattle.plan_tables_schema.specs.Schema.{HasTables, IsAside, name, table_at, to_run_cycle}
use Rattle.plan_tables_schema.specs.Texts.{delete_sql}
use Rattle.plan_tables_schema.specs.declared.tables.Table.{Table}
use Rattle.plan_tables_schema.specs.declared.tables.Table.TheVariants.{RunCycle}
use Rattle.plan_tables_schema.specs.declared.tables.Table.TheVariants.{Offset}
use Rattle.plan_tables_schema.proofs.EffectLemmas.{IsUnreferred, KeepsOthers, none_referred, takes_rows, takes_rows_by}
use Rattle.plan_tables_schema.proofs.RunCycleLemmas.{OffsetsRefer, cycles_alone}

module _ (schema : Schema) (plan : HasTables schema) where
  listed : (t : Table) → Has schema.tables (table_at (plan.trees t) t)
  listed t = has_got schema.tables (plan.at t) _ (plan.stands t).got

  -- the reference that each table has is to no other table than the run cycles
  pub each_reference : (P : Described → Reference → Type 0) → ((child : Described) (ref : Reference) → IsAside ref → P child ref)
      → P (table_at (plan.trees Offset) Offset) to_run_cycle → AllByRecursion (λ child. AllByRecursion (P child) child.references) schema.tables
  each_reference P other own = all_from _ schema.tables (λ child known. all_from _ child.references (λ ref there.
      go child ref (all_has _ child.references ref (all_has _ schema.tables child plan.refer known) there)))
    where
      go : (child : Described) (ref : Reference) → (IsAside ref ⊎ ((child ≡ table_at (plan.trees Offset) Offset) × (ref ≡ to_run_cycle))) → P child ref
      go child ref (inl aside) = other child ref aside
      go child ref (inr (same, to)) = subst (λ c. P c ref) (sym same) (subst (P (table_at (plan.trees Offset) Offset)) (sym to) own)

  pub unreferred : (t : Table) → same_name (name t) (name RunCycle) ≡ false → IsUnreferred schema (table_at (plan.trees t) t)
  unreferred t other = each_reference (λ child ref. same_name (name t) ref.parent ≡ false) (λ child ref aside. aside t) other

  pub offsets_refer : OffsetsRefer schema (plan.trees Offset)
  offsets_refer = each_reference (λ child ref. (same_name (name RunCycle) ref.parent ≡ false) ⊎ ((child ≡ table_at (plan.trees Offset) Offset) × (ref ≡ to_run_cycle)))
      (λ child ref aside. inl (aside RunCycle)) (inr (refl, refl))

  pub offsets_apart : plan.trees Offset ≢ plan.trees RunCycle
  offsets_apart same =
      let one : table_at (plan.trees Offset) Offset ≡ table_at (plan.trees RunCycle) RunCycle = same_table schema.tables _ _ plan.apart (listed Offset) (listed RunCycle) same in
      let size : length (name Offset) ≡ length (name RunCycle) = ap (λ (d : Described). length d.name) one in cc

  abbrev Taken : Table → Row → State → State → Type 0
  Taken t values old new = (new.now.schema ≡ schema) × (new.now.trees (plan.trees t) ≡ filter (λ r. not (matches t values r)) (old.now.trees (plan.trees t)))
      × KeepsOthers schema (plan.trees t) old.now.trees new.now.trees

  from_unreferred : (t : Table) → same_name (name t) (name RunCycle) ≡ false → (values : Row) (old new : State) (count : ℕ) → old.now.schema ≡ schema
      → HaveRowids (old.now.trees (plan.trees t)) → Executes (delete_sql t) values old new (Ok count) → Taken t values old new
  from_unreferred t other values old new count has rowids h = takes_rows schema (plan.at t) (plan.trees t) t (plan.stands t) values old new count has rowids
      (λ olds. none_referred schema (table_at (plan.trees t) t) (listed t) plan.apart (unreferred t other) Enforced 0 olds []) h

  from_run_cycles : (values : Row) (old new : State) (count : ℕ) → old.now.schema ≡ schema → HaveRowids (old.now.trees (plan.trees RunCycle))
      → AllByRecursion (λ r. matches Offset values r ≡ false) (old.now.trees (plan.trees Offset)) → Executes (delete_sql RunCycle) values old new (Ok count) → Taken RunCycle values old new
  from_run_cycles values old new count has rowids free h = takes_rows_by schema (plan.at RunCycle) (plan.trees RunCycle) RunCycle (plan.stands RunCycle) values old new count has rowids
      (λ rows next same writes. cycles_alone schema (plan.at RunCycle) (plan.trees RunCycle) (plan.trees Offset) (plan.stands RunCycle) (listed RunCycle) plan.apart offsets_refer values old.now.trees next rows rowids
      (λ r there. all_has _ (old.now.trees (plan.trees Offset)) r free there)
      (λ mid kept. all_has (λ d. d.tree ≢ plan.trees RunCycle → mid d.tree ≡ old.now.trees d.tree) schema.tables (table_at (plan.trees Offset) Offset) kept (listed Offset) offsets_apart) same writes) h

  -- the rows that have the key go, and no others
  pub accepts : (t : Table) (values : Row) (old new : State) (count : ℕ) → old.now.schema ≡ schema → HaveRowids (old.now.trees (plan.trees t))
      → IsAlone t values (λ u. old.now.trees (plan.trees u)) → Executes (delete_sql t) values old new (Ok count)
      → (new.now.schema ≡ schema) × (new.now.trees (plan.trees t) ≡ filter (λ r. not (matches t values r)) (old.now.trees (plan.trees t)))
      × KeepsOthers schema (plan.trees t) old.now.trees new.now.trees
  unfolding same_name
  accepts RunCycle values old new count has rowids free h = from_run_cycles values old new count has rowids free h
  accepts t values old new count has rowids free h = from_unreferred t refl values old new count has rowids h
