-- Deletions that are fetched by a moment.
use Rattle.std.specs.Prelude.{◌≡◌, ◌≢◌, ◌≤◌, ◌↔◌, ℕ, List, Some, Contains}
use Rattle.std.specs.List.{AllPairs}
use Rattle.occurrences.specs.declared.place.Deletion.{Deletion}
use Rattle.occurrences.specs.declared.place.Reason.TheVariants.{Operator}
use Rattle.planner_machine.specs.Content.{Content}
use Rattle.plan_tables_schema.specs.Rows.{HaveRowids, Tables}
use Rattle.plan_tables_schema.specs.declared.tables.Table.TheVariants as table

-- one by the operator that arrives at the moment or after it
pub record IsGoneFrom (c : Content) (moment : ℕ) (deletion : Deletion) : Type 0 where
  pub serial : ℕ
  pub is : c.sets.deletions serial ≡ Some deletion
  pub reason : deletion.reason ≡ Operator
  pub late : moment ≤ deletion.row.key.ia

-- exactly these; and each serial once, if each rowid is in the table once
pub record AreGoneFrom (all : Tables) (moment : ℕ) (c : Content) (found : List Deletion) : Type 0 where
  pub exactly : (deletion : Deletion) → Contains found deletion ↔ IsGoneFrom c moment deletion
  pub once : HaveRowids (all table.Deletion) → AllPairs (λ (a b : Deletion). a.row.serial ≢ b.row.serial) found
