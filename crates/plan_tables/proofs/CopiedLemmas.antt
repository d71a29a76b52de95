-- What is found in files whose log was copied into the database file.
use Rattle.std.proofs.Common.{◌≡◌, ◌⊎◌, [], false, inl, inr, subst, sym}
use Rattle.std.proofs.Math.Logic.{∥∥₁_elim, ∥∥₁_map}
use Rattle.sqlite.specs.Closing.{IsCopied}
use Rattle.sqlite.specs.Files.{ExcusesClose, FailsToClose, HoldsDatabase, file_state}
use Rattle.sqlite.specs.Held.{Held}
use Rattle.sqlite.specs.State.{HasCleanDisk, store_error}
use Rattle.sqlite.specs.Tree.{Trees}
use Rattle.sqlite.specs.declared.error.Error.{Error}
use Rattle.sqlite.specs.declared.error.Error.TheVariants.{SqliteFailure}
use Rattle.sqlite.specs.declared.error.ErrorCode.TheVariants.{OutOfMemory as Lacks}
use Rattle.sqlite_disk.specs.Disk.{MoreFaults}
use Rattle.sqlite_disk.specs.declared.Disk as disk
use Rattle.sqlite_disk.specs.declared.Files.{Files}
use Rattle.sqlite_store.specs.FileStore.{faults}
use Rattle.sqlite_store.specs.Laws.{stays_at}
use Rattle.sqlite_store.specs.declared.store.FileStore.{FileStore}
use Rattle.sqlite_trees.specs.declared.error.StoreError.{StoreError}
use Rattle.sqlite_trees.specs.declared.error.StoreError.TheVariants.{OutOfMemory, Io, Corrupt, Full, Broken, Unstorable}
use Rattle.sqlite_wal.proofs.LogLemmas.{SeenMayStay}
use Rattle.sqlite_wal.specs.Files.{outcomes}
use Rattle.sqlite_wal.specs.Recovery.{Image}
use Rattle.plan_store.specs.declared.stores.StoreFault.{StoreFault}
use Rattle.plan_store.specs.declared.stores.StoreFault.TheVariants.{Device, Memory}
use Rattle.planner_machine.specs.Content.{Content}
use Rattle.plan_tables_content.specs.Content.{HaveOneContent}
use Rattle.plan_tables.specs.Found.{IsFoundIn, IsFoundInEither, KeepsAlone, Tells}
use Rattle.plan_tables.specs.Stored.{LeavesSound, MayLeave}
use Rattle.plan_tables.proofs.FoundLemmas.{found_told, tells_left, told_again}
use Rattle.plan_tables.proofs.SetLemmas.{content_set}

module _ {D : Type 0} {g : disk.Ghosts D} (conn : Held (FileStore D g)) where
  committed_again : (k : Content) → HaveOneContent → Tells (file_state conn).committed.trees k → (image : Image)
      → HoldsDatabase image (file_state conn).committed.trees → (c : Content) → IsFoundIn image c → c ≡ k
  committed_again k one tells image held c found =
      told_again found.found k c one found.obeys
      (subst (λ db. Tells db k) (sym (found.holds _ held)) tells) found.told

  module _ (files : Files D) (copied : IsCopied conn files) (left : Image) (out : outcomes g files.log files.db left) where
    -- both files, and the database file alone, hold the last commit, which a crash leaves of an open connection
    pub keeps_alone : SeenMayStay g → ∥ (HasCleanDisk (file_state conn) → LeavesSound (file_state conn)) ∥₁
        → ∥ KeepsAlone left (file_state conn) ∥₁
    keeps_alone stays told =
        let db = (file_state conn).committed.trees in
        let holds = copied.left left out in
        let may = stays_at conn.store stays copied.was_open in
        ∥∥₁_elim told squash₁ (λ h. ∥∥₁_elim (h copied.was_clean db may) squash₁ (λ tells.
        ∥∥₁_elim holds.both squash₁ (λ both. ∥∥₁_map holds.alone (λ alone. record {
          db = db;
          both = both;
          alone = alone;
          tells = tells_left (file_state conn) db may tells;
        }))))

    -- what is found was a content that a crash might leave
    pub copied_left : HaveOneContent → SeenMayStay g
        → ∥ (HasCleanDisk (file_state conn) → LeavesSound (file_state conn)) ∥₁ → (c : Content)
        → IsFoundInEither left c → ∥ MayLeave (file_state conn) c ∥₁
    copied_left one stays told c found = ∥∥₁_map (keeps_alone stays told) (λ kept. elim found [
      | inl both ↦ found_told left (file_state conn) kept.db c one kept.both kept.tells both
      | inr alone ↦ found_told (record left { log = [] }) (file_state conn) kept.db c one kept.alone kept.tells alone
    ])

    -- where the last commit tells a content, no other is found
    pub copied_again : (k : Content) → HaveOneContent
        → ((db : Trees) → (file_state conn).may_leave db → ∥ Tells db k ∥₁) → SeenMayStay g
        → (c : Content) → IsFoundInEither left c → c ≡ k
    copied_again k one tells stays c found =
        let holds = copied.left left out in
        ∥∥₁_elim (tells _ (stays_at conn.store stays copied.was_open)) (content_set c k) (λ told.
        elim found [
          | inl both ↦ ∥∥₁_elim holds.both (content_set c k)
              (λ held. committed_again k one told _ held c both)
          | inr alone ↦ ∥∥₁_elim holds.alone (content_set c k)
              (λ held. committed_again k one told _ held c alone)
        ])

  excuse : (last : FileStore D g) (cause : StoreError) (e : Error) (fault : StoreFault)
      → (e ≡ SqliteFailure Lacks → fault ≡ Memory) → e ≡ store_error cause → ExcusesClose conn last cause
      → fault ≡ Device → ((file_state conn).is_open ≡ false) ⊎ MoreFaults (faults conn.store) (faults last)
  excuse last OutOfMemory e fault memory same h device = absurd (let lacks = memory same in cc)
  excuse last Io e fault memory same h device = inr h
  excuse last Corrupt e fault memory same h device = inr h
  excuse last Full e fault memory same h device = inr h
  excuse last Broken e fault memory same h device = h
  excuse last Unstorable e fault memory same h device = absurd h

  -- the device is blamed where it failed, or the connection was shut before
  pub blamed_at_close : (last : FileStore D g) (e : Error) (fault : StoreFault)
      → (e ≡ SqliteFailure Lacks → fault ≡ Memory) → FailsToClose conn last e → fault ≡ Device
      → ((file_state conn).is_open ≡ false) ⊎ MoreFaults (faults conn.store) (faults last)
  blamed_at_close last e fault memory fails device =
      excuse last fails.0 e fault memory fails.1 fails.2 device

-- what is told of the connection of a store is told of it as it is let go
pub told_of : {D : Type 0} {g : disk.Ghosts D} (own held : Held (FileStore D g)) → held ≡ own
    → ∥ (HasCleanDisk (file_state own) → LeavesSound (file_state own)) ∥₁
    → ∥ (HasCleanDisk (file_state held) → LeavesSound (file_state held)) ∥₁
told_of {D} {g} own held same told =
    subst (λ (x : Held (FileStore D g)). ∥ (HasCleanDisk (file_state x) → LeavesSound (file_state x)) ∥₁) (sym same) told
