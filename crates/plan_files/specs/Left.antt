-- What files are left with, once a run over them has ended.
use Rattle.std.specs.Prelude.{◌≡◌, []}
use Rattle.sqlite.specs.Files.{HoldsDatabase}
use Rattle.sqlite.specs.Tree.{Trees}
use Rattle.sqlite_wal.specs.Recovery.{Image}
use Rattle.planner_machine.specs.Content.{Content}
use Rattle.planner_machine.specs.Sound.{IsSound}
use Rattle.plan_tables_schema.specs.Rows.{tables_of}
use Rattle.plan_tables_opening.specs.Stored.{AllHaveRowids}
use Rattle.plan_tables.specs.Found.{Tells}

-- this database has the tables of a plan, with a sound content that is led to
pub record TellsLed (Led : Content → Type 0) (db : Trees) : Type 0 where
  pub content : Content
  pub sound : IsSound content
  pub told : Tells db content
  pub rowids : AllHaveRowids (tables_of db)
  pub led : Led content

-- the files hold such a database
pub record HoldsLed (image : Image) (Led : Content → Type 0) : Type 0 where
  pub db : Trees
  pub both : HoldsDatabase image db
  pub tells : TellsLed Led db

-- and so does the database file without its log: it may be copied, moved or opened alone
pub record HoldsLedAlone (image : Image) (Led : Content → Type 0) : Type 0 where
  pub held : HoldsLed image Led
  pub alone : HoldsDatabase (record image { log = [] }) held.db

-- both files together hold such a database
pub record HoldsSuch (image : Image) (Such : Trees → Type 0) : Type 0 where
  pub db : Trees
  pub both : HoldsDatabase image db
  pub such : Such db
