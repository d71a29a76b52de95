-- Files that are refused.
use Rattle.std.proofs.Common.{◌⊎◌, ℕ, inl, inr}
use Rattle.std.specs.Prelude.{IfSome, None, Option, Some, ⊤}
use Rattle.sqlite_trees.specs.declared.error.StoreError.{StoreError}
use Rattle.plan_tables_opening.specs.Files.{Refuses}
use Rattle.plan_tables_opening.specs.declared.faults.OpenFault.{OpenFault}
use Rattle.plan_tables_opening.specs.declared.faults.OpenFault.TheVariants.{Memory, Device, Unopened, Tables, Rows}

pub if_some : {T : Type 0} (o : Option T) (P Q : T → Type 0) → ((x : T) → P x → Q x) → IfSome o P → IfSome o Q
if_some None P Q f h = tt
if_some (Some x) P Q f h = f x h

-- files that hold what is wanted are not refused for that
pub refused_for : (kind : StoreError) (old new : ℕ) (IsFull IsWanted : Type 0) (cause : OpenFault) → IsWanted
    → Refuses kind old new IsFull IsWanted cause → Refuses kind old new IsFull ⊤ cause
refused_for kind old new IsFull IsWanted Memory wanted h = tt
refused_for kind old new IsFull IsWanted Device wanted h = h
refused_for kind old new IsFull IsWanted Unopened wanted (inl never) = absurd (never wanted)
refused_for kind old new IsFull IsWanted Unopened wanted (inr caught) = inr caught
refused_for kind old new IsFull IsWanted Tables wanted h = h
refused_for kind old new IsFull IsWanted Rows wanted h = h
