-- A database that was not opened, or not queried.
use Rattle.std.specs.Prelude.{◌≡◌, IsTrue}
use Rattle.sqlite.specs.State.{State}
use Rattle.sqlite.specs.Tree.{Trees}

-- as long as the connection is open, it sees what it saw, and what was committed
pub record IsKept (old new : State) : Type 0 where
  pub now : IsTrue new.is_open → new.now ≡ old.now
  pub committed : IsTrue new.is_open → new.committed ≡ old.committed

-- it was not queried: all that it shows is as it was, and no failure of the device was counted
pub record IsUntouched (old new : State) : Type 0 where
  pub now : new.now ≡ old.now
  pub committed : new.committed ≡ old.committed
  pub in_transaction : new.in_transaction ≡ old.in_transaction
  pub marks : new.marks ≡ old.marks
  pub is_open : new.is_open ≡ old.is_open
  pub faults : new.faults ≡ old.faults
  pub blamed : new.blamed ≡ old.blamed
  pub changes : new.changes ≡ old.changes
  pub last_rowid : new.last_rowid ≡ old.last_rowid
  pub step_limit : new.step_limit ≡ old.step_limit
  pub crash : (db : Trees) → new.may_leave db → old.may_leave db
