-- Files that are not opened.
use Rattle.std.proofs.Common.{◌≡◌, ◌⊎◌, ℕ, Bool, true, false, refl, inl, inr, sym, subst, if◌then◌else◌}
use Rattle.sqlite.specs.Files.{FailsToOpenFiles, IsFullLeft, faults_left, faults_of, tally_left}
use Rattle.sqlite.specs.Opening.{FailsAs}
use Rattle.sqlite.specs.declared.error.Error.{Error}
use Rattle.sqlite.specs.declared.file.Leftover.{Leftover}
use Rattle.sqlite_disk.specs.declared.Disk as disk
use Rattle.sqlite_disk.specs.declared.Files.{Files}
use Rattle.sqlite_disk.specs.declared.tally.Tally.{Tally}
use Rattle.sqlite_store.specs.Report.{named}
use Rattle.sqlite_trees.specs.declared.error.StoreError.{StoreError}
use Rattle.sqlite_trees.specs.declared.error.StoreError.TheVariants as kind
use Rattle.sqlite_wal.specs.Reads.{tally_of_files}
use Rattle.plan_tables_opening.specs.Faults.{unopened_for}
use Rattle.plan_tables_opening.specs.Files.{HoldOne, IsRefused, Refuses}

-- the device failed, found no room, or was caught
abbrev IsName : StoreError → Type 0
IsName k = (k ≡ kind.Io) ⊎ ((k ≡ kind.Full) ⊎ (k ≡ kind.Corrupt))

chosen : (p q : Bool) → IsName (if p then (if q then kind.Io else kind.Full) else kind.Corrupt)
chosen true true = inl refl
chosen true false = inr (inl refl)
chosen false q = inr (inr refl)

is_name : (old new : Tally) → IsName (named old new)
is_name old new = chosen _ _

never : IsName kind.Unstorable → ⊥
never (inl e) = absurd (cc)
never (inr (inl e)) = absurd (cc)
never (inr (inr e)) = absurd (cc)

refuses_kind : (k : StoreError) (old new : ℕ) (IsFull IsWanted : Type 0) (e : Error) → IsName k
    → FailsAs k old new IsFull IsWanted e → Refuses k old new IsFull IsWanted (unopened_for e)
refuses_kind k old new IsFull IsWanted e name (inl is) =
    subst (λ x. Refuses k old new IsFull IsWanted (unopened_for x)) (sym is) tt
refuses_kind k old new IsFull IsWanted e name (inr (inl (inl is, none))) =
    subst (λ x. Refuses k old new IsFull IsWanted (unopened_for x)) (sym is) (inl none)
refuses_kind k old new IsFull IsWanted e name (inr (inl (inr is, none))) =
    subst (λ x. Refuses k old new IsFull IsWanted (unopened_for x)) (sym is) (inl none)
refuses_kind kind.Io old new IsFull IsWanted e name (inr (inr (inl (is, more)))) =
    subst (λ x. Refuses kind.Io old new IsFull IsWanted (unopened_for x)) (sym is) (inl more)
refuses_kind kind.Full old new IsFull IsWanted e name (inr (inr (inl (is, more)))) =
    subst (λ x. Refuses kind.Full old new IsFull IsWanted (unopened_for x)) (sym is) (inl more)
refuses_kind kind.Corrupt old new IsFull IsWanted e name (inr (inr (inl (is, more)))) =
    subst (λ x. Refuses kind.Corrupt old new IsFull IsWanted (unopened_for x)) (sym is) (inr (refl, more))
refuses_kind kind.OutOfMemory old new IsFull IsWanted e name (inr (inr (inl (is, more)))) =
    subst (λ x. Refuses kind.OutOfMemory old new IsFull IsWanted (unopened_for x)) (sym is) tt
refuses_kind kind.Broken old new IsFull IsWanted e name (inr (inr (inl (is, more)))) =
    subst (λ x. Refuses kind.Broken old new IsFull IsWanted (unopened_for x)) (sym is) (inl more)
refuses_kind kind.Unstorable old new IsFull IsWanted e name (inr (inr (inl (is, more)))) = absurd (never name)
refuses_kind k old new IsFull IsWanted e name (inr (inr (inr (is, full)))) =
    subst (λ x. Refuses k old new IsFull IsWanted (unopened_for x)) (sym is) (inr full)

pub refused : {D : Type 0} {g : disk.Ghosts D} (files : Files D) (left : Leftover D g) (e : Error)
    → FailsToOpenFiles files left e → IsRefused files left (unopened_for e)
refused {D} {g} files left e =
    let before = tally_of_files g (files.log, files.db) in
    refuses_kind (named before (tally_left left)) (faults_of g files) (faults_left left) (IsFullLeft left)
    (HoldOne g files) e (is_name before (tally_left left))
