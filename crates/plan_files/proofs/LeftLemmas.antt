-- What a store that is let go leaves in its files.
use Rattle.std.proofs.Common.{IsTrue}
use Rattle.std.proofs.Math.Logic.{∥∥₁_map}
use Rattle.sqlite.proofs.Theorems.{opens_again}
use Rattle.sqlite.specs.Held.{AreDatabases}
use Rattle.sqlite.specs.State.{State}
use Rattle.sqlite.specs.Tree.{Trees}
use Rattle.sqlite_disk.specs.declared.Disk as disk
use Rattle.sqlite_store.specs.FileStore as files
use Rattle.sqlite_store.specs.declared.store.FileStore.{FileStore}
use Rattle.sqlite_wal.specs.Recovery.{Image}
use Rattle.planner_machine.specs.Content.{Content}
use Rattle.plan_tables.specs.Found.{TellsLeft}
use Rattle.plan_files.specs.Left.{HoldsSuch, TellsLed}

-- what a crash may leave is led to
pub led_both : (s : State) (Led : Content → Type 0) → ((db : Trees) (told : TellsLeft s db) → Led told.content)
    → (db : Trees) → TellsLeft s db → TellsLed Led db
led_both s Led leads db tells = record {
  content = tells.content;
  sound = tells.sound;
  told = tells.told;
  rowids = tells.rowids;
  led = leads db tells;
}

-- whatever a crash left of files that were refused, they hold a database
pub holds_such : {D : Type 0} {g : disk.Ghosts D} (it : FileStore D g) → IsTrue (files.view it).is_numbered
    → AreDatabases (files.recovers it) → (left : Image) → (files.state it).may_leave left
    → ∥ HoldsSuch left (files.recovers it) ∥₁
holds_such it numbered sound left may =
    ∥∥₁_map (opens_again it numbered sound left may) (λ held. record { db = held.0; both = held.2; such = held.1 })
