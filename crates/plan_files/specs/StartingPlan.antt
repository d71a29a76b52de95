-- What a run begins with, and what is reported of it.
use Rattle.std.specs.Prelude.{◌≡◌, ◌↔◌, Bool, true, false}
use Rattle.sqlite.specs.Effect.{Database, IsDatabase}
use Rattle.sqlite.specs.Files.{AreFoundIn, HoldsDatabase}
use Rattle.sqlite.specs.Tree.{Trees}
use Rattle.sqlite_wal.specs.Recovery.{Image}
use Rattle.planner_machine.specs.Content.{Content, nothing_known}
use Rattle.plan_tables_schema.specs.Free.{IsFree}
use Rattle.plan_tables_schema.specs.Rows.{tables_of}
use Rattle.plan_tables_schema.specs.Schema.{HasTables}
use Rattle.plan_tables_content.specs.Content.{IsContentOf}
use Rattle.plan_files.specs.Found.{IsFirstToldBy}
use Rattle.plan_files.specs.LostIndexes.{KeepsIndexes}
use Rattle.plan_files.specs.declared.openings.StartingPlan.{StartingPlan}
use Rattle.plan_files.specs.declared.openings.StartingPlan.TheVariants.{AsItWas, New, Migrated}

-- by whether tables of schema 1 were replaced, whether the name of `plan_meta` is used, and whether a migration loses an
-- index
abbrev pub begun_of : Bool → Bool → Bool → StartingPlan
begun_of true _ lost = Migrated lost
begun_of false true lost = AsItWas
begun_of false false lost = New

-- what was in the database: the tables of a plan with this content; room for them, and nothing was known; or tables of
-- schema 1 with it, and the two that are made anew had an index that a user made, as it is reported
abbrev pub IsBegunOn : StartingPlan → Database → Content → Type 0
IsBegunOn AsItWas db c = HasTables db.schema × IsContentOf (tables_of db.trees) c
IsBegunOn New db c = IsFree db.schema × (c ≡ nothing_known)
IsBegunOn (Migrated lost) db c = IsFirstToldBy db c × ((lost ≡ false) ↔ KeepsIndexes db.schema)

-- that is in the database that such files hold
pub record IsBegunIn (image : Image) (begun : StartingPlan) (c : Content) : Type 0 where
  pub found : Database
  pub obeys : IsDatabase found
  pub holds : (db : Trees) → HoldsDatabase image db → found.trees ≡ db
  pub reads : AreFoundIn image found.trees
  pub was : IsBegunOn begun found c

-- what a run begins with is reported once, and the report gives the reader of its stream; it is true if the disk was honest
pub record IsReported {O R : Type 0} (reports : O → StartingPlan → R → Type 0) (opening : O) (given : R) (IsHonest : Type 0)
    (Was : StartingPlan → Type 0) : Type 0 where
  pub begun : StartingPlan
  pub reported : reports opening begun given
  pub was : IsHonest → Was begun
