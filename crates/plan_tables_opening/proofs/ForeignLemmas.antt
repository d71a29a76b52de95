-- What a database of any tables answers that is asked for the version of a plan.
use Rattle.std.proofs.Common.{◌≡◌, ◌⊎◌, inl, inr, [], subst, sym}
use Rattle.sqlite_tied.specs.Compute.{everything}
use Rattle.sqlite_resolve.specs.Compile.{first}
use Rattle.sqlite.specs.State.{State, CommitsShowing, FailsToQuery, Survives}
use Rattle.sqlite.specs.declared.error.Error.{Error}
use Rattle.plan_tables_opening.specs.Faults.{fault_for}
use Rattle.plan_tables_opening.specs.Foreign.{IsForeign, version_sql}
use Rattle.plan_tables_opening.specs.Queries.{IsReading}
use Rattle.plan_tables_opening.specs.declared.faults.OpenFault.TheVariants.{Device, Memory, Unopened}
use Rattle.plan_tables_opening.proofs.QueryLemmas as query

pub version_reads : IsReading version_sql
unfolding first everything
version_reads = tt

pub commits_none : (old new : State) → Survives old new (CommitsShowing version_sql [] old) → Survives old new (λ _. ⊥)
commits_none old new = query.commits_none version_sql version_reads old new

pub foreign_by : (old new : State) (e : Error) → FailsToQuery version_sql [] old new e
    → (fault_for e Unopened ≡ Memory) ⊎ ((fault_for e Unopened ≡ Device) ⊎ (fault_for e Unopened ≡ Unopened))
    → IsForeign old new (fault_for e Unopened)
foreign_by old new e h (inl is) = subst (IsForeign old new) (sym is) (e, h, is)
foreign_by old new e h (inr (inl is)) =
    subst (IsForeign old new) (sym is) (query.failed_by_device version_sql version_reads old new e h is)
foreign_by old new e h (inr (inr is)) = subst (IsForeign old new) (sym is) (inl (e, h, is))
