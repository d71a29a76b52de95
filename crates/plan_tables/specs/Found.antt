-- What is found in files that are opened.
use Rattle.std.specs.Prelude.{◌≡◌, ◌⊎◌, []}
use Rattle.sqlite.specs.Effect.{Database, IsDatabase}
use Rattle.sqlite.specs.Files.{AreFoundIn, HoldsDatabase}
use Rattle.sqlite.specs.Schema.{Schema}
use Rattle.sqlite.specs.State.{State}
use Rattle.sqlite.specs.Tree.{Trees}
use Rattle.sqlite_wal.specs.Recovery.{Image}
use Rattle.planner_machine.specs.Content.{Content}
use Rattle.planner_machine.specs.Sound.{IsSound}
use Rattle.plan_tables_schema.specs.Rows.{tables_of}
use Rattle.plan_tables_schema.specs.Schema.{HasTables}
use Rattle.plan_tables_content.specs.Content.{IsContentOf}
use Rattle.plan_tables_opening.specs.Opened.{IsToldBy}
use Rattle.plan_tables_opening.specs.Stored.{AllHaveRowids}

-- the database that such files hold, or an empty one if they hold none yet, has the content
pub record IsFoundIn (image : Image) (c : Content) : Type 0 where
  pub found : Database
  pub obeys : IsDatabase found
  pub holds : (db : Trees) → HoldsDatabase image db → found.trees ≡ db
  pub reads : AreFoundIn image found.trees
  pub told : IsToldBy found c

-- it is found in both files, or in the database file with an empty log
abbrev pub IsFoundInEither : Image → Content → Type 0
IsFoundInEither image c = IsFoundIn image c ⊎ IsFoundIn (record image { log = [] }) c

-- the database has the tables of the plan, and these have the content
pub record Tells (db : Trees) (c : Content) : Type 0 where
  pub schema : Schema
  pub obeys : IsDatabase (record { schema = schema; trees = db })
  pub plan : HasTables schema
  pub content : IsContentOf (tables_of db) c

-- it is a database that a crash of this one might leave, with the tables of the plan, which have a sound content, no
-- two rows of a table with one rowid
pub record TellsLeft (s : State) (db : Trees) : Type 0 where
  pub left : s.may_leave db
  pub content : Content
  pub sound : IsSound content
  pub told : Tells db content
  pub rowids : AllHaveRowids (tables_of db)

-- such files hold such a database
pub record HoldsLeft (image : Image) (s : State) : Type 0 where
  pub db : Trees
  pub holds : HoldsDatabase image db
  pub tells : TellsLeft s db

-- both files hold such a database, and so does the database file without its log: it may be copied or opened alone
pub record KeepsAlone (image : Image) (s : State) : Type 0 where
  pub db : Trees
  pub both : HoldsDatabase image db
  pub alone : HoldsDatabase (record image { log = [] }) db
  pub tells : TellsLeft s db
