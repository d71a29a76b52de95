-- What happens to a connection that is passed with its database.
use Rattle.std.specs.Prelude.{◌≡◌, false}
use Rattle.sqlite.specs.Held.{Held, state}
use Rattle.sqlite.specs.State.{HasCleanDisk, Survives}
use Rattle.sqlite.specs.Store.{Ghosts}
use Rattle.plan_store.specs.Contents.{content_of}
use Rattle.plan_store.specs.Parts.{IsPartOf}
use Rattle.plan_tables_schema.specs.Rows.{tables_of}
use Rattle.plan_tables_windows.specs.Fetching.{told_rest}
use Rattle.plan_tables_opening.specs.Held.{HoldsPlan}
use Rattle.plan_tables_opening.specs.Opened.{IsCommon, MakesFirst}
use Rattle.plan_tables_opening.specs.Opening.{IsOpened, IsUnopened}
use Rattle.plan_tables_opening.specs.declared.faults.OpenFault.{OpenFault}
use Rattle.plan_tables.specs.Kept.{kept_in}
use Rattle.plan_tables.specs.Stored.{LeavesOne}
use Rattle.plan_tables.specs.declared.table_store.TableStore.{TableStore}

-- the store is over its database and has its content, and its lists have a part of that, if its disk gave back what
-- was written; a crash leaves that content alone; no failure was counted, and the connection is known to be open
pub record IsOver {S : Type 0} {g : Ghosts S} (conn : Held S) (store : TableStore S g) : Type 0 where
  pub opened : HasCleanDisk (state g store.session.conn)
      → IsOpened (state g conn) (state g store.session.conn) (kept_in (state g store.session.conn) (content_of store.lists))
  pub part : HasCleanDisk (state g store.session.conn)
      → IsPartOf (told_rest (tables_of (state g store.session.conn).now.trees)) (content_of store.lists)
  pub settled : LeavesOne (state g store.session.conn) (kept_in (state g store.session.conn) (content_of store.lists))
  pub whole : store.session.failures ≡ 0
  pub sure : store.session.in_doubt ≡ false
  pub crash : Survives (state g conn) (state g store.session.conn) (MakesFirst (state g conn))

-- it is returned, with why its database is not opened, by what is there: one that has a sound plan is never refused
-- for anything in it
pub record ComesBack {S : Type 0} (g : Ghosts S) (conn : Held S) (back : OpenFault × Held S) : Type 0 where
  pub unopened : HasCleanDisk (state g back.1)
      → IsUnopened (state g conn) (state g back.1) back.0
  pub holds : HasCleanDisk (state g back.1) → HoldsPlan (state g conn)
      → IsCommon (state g conn) (state g back.1) back.0
  pub mode : back.1.in_transaction ≡ false
  pub crash : Survives (state g conn) (state g back.1) (MakesFirst (state g conn))
