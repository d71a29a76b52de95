-- What a run finds in its files.
use Rattle.std.specs.Prelude.{◌≡◌, ◌⊎◌}
use Rattle.sqlite.specs.Effect.{Database, IsDatabase}
use Rattle.sqlite.specs.Files.{AreFoundIn, HoldsDatabase}
use Rattle.sqlite.specs.State.{State}
use Rattle.sqlite.specs.Tree.{Trees}
use Rattle.sqlite_wal.specs.Recovery.{Image}
use Rattle.planner_machine.specs.Content.{Content}
use Rattle.plan_tables_schema.specs.Rows.{tables_of}
use Rattle.plan_migrations_remaking.specs.FirstSchema.{CanRemake}
use Rattle.plan_tables_opening.specs.Opened.{IsToldBy}
use Rattle.plan_migrations.specs.FirstContent.{IsFirstContentOf}

-- the database has tables of schema 1, which have the content
abbrev pub IsFirstToldBy : Database → Content → Type 0
IsFirstToldBy db c = CanRemake db.schema × IsFirstContentOf (tables_of db.trees) c

-- the database has the content, in tables of the current schema or of schema 1
abbrev pub IsToldNow : State → Content → Type 0
IsToldNow s c = IsToldBy s.now c ⊎ IsFirstToldBy s.now c

-- the database that such files hold has tables of schema 1, which have the content
pub record IsFirstFoundIn (image : Image) (c : Content) : Type 0 where
  pub found : Database
  pub obeys : IsDatabase found
  pub holds : (db : Trees) → HoldsDatabase image db → found.trees ≡ db
  pub reads : AreFoundIn image found.trees
  pub told : IsFirstToldBy found c
