-- What a crash leaves of a database that keeps a content.
use Rattle.std.specs.Prelude.{◌≡◌}
use Rattle.sqlite.specs.Files.{HoldsDatabase}
use Rattle.sqlite.specs.State.{HasCleanDisk, State}
use Rattle.sqlite.specs.Tree.{Trees}
use Rattle.sqlite_wal.specs.Recovery.{Image}
use Rattle.planner_machine.specs.Content.{Content}
use Rattle.planner_machine.specs.Sound.{IsSound}
use Rattle.plan_tables_schema.specs.Rows.{tables_of}
use Rattle.plan_tables_content.specs.Content.{IsContentOf}
use Rattle.plan_tables_opening.specs.Stored.{AllHaveRowids}
use Rattle.plan_tables.specs.Found.{Tells}

-- a crash of the database may leave this content
abbrev pub MayLeave : State → Content → Type 0
MayLeave s c = (db : Trees) × s.may_leave db × IsContentOf (tables_of db) c

-- it has the tables of the plan, which have a sound content, no two rows of a table with one rowid
abbrev pub TellsSound : Trees → Type 0
TellsSound db = (c : Content) × IsSound c × Tells db c × AllHaveRowids (tables_of db)

-- such files hold such a database
abbrev pub HoldsSound : Image → Type 0
HoldsSound image = (db : Trees) × HoldsDatabase image db × TellsSound db

-- each database that a crash may leave has a sound content
abbrev pub LeavesSound : State → Type 0
LeavesSound s = (db : Trees) → s.may_leave db → ∥ TellsSound db ∥₁

-- where its disk did not fail, a crash of the database leaves this content, and no other
abbrev pub LeavesOne : State → Content → Type 0
LeavesOne s c = (left : Content) → HasCleanDisk s × MayLeave s left → left ≡ c
