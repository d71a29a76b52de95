-- In memory a call fails for want of memory alone.
use Rattle.std.proofs.Common.{◌≡◌, ◌∙◌, None, IsTrue, IsSome, arith, inl, inr, refl, subst, sym, true≢false}
use Rattle.std.specs.Prelude.{Err, IfErr, IsErrAnd, Ok, Result}
use Rattle.sqlite.specs.Held.{Held, IsNew, state}
use Rattle.sqlite.specs.State.{State}
use Rattle.sqlite.specs.Steps.{IsEmpty, over_memory}
use Rattle.sqlite.specs.declared.error.Error.{Error}
use Rattle.sqlite.specs.declared.error.Error.TheVariants.{SqliteFailure}
use Rattle.sqlite.specs.declared.error.ErrorCode.TheVariants as code
use Rattle.sqlite_trees.specs.declared.error.StoreError.TheVariants as store
use Rattle.sqlite_trees.specs.declared.memory.MemStore.{MemStore}
use Rattle.plan_tables_schema.specs.Rows.{MayFail}

memory_alone : (a b : State) (e : Error) → a.faults ≡ 0 → b.faults ≡ 0 → IsTrue a.is_open → a.step_limit ≡ None
    → MayFail a b e → e ≡ SqliteFailure code.OutOfMemory
memory_alone a b e none still stays free (inl (store.OutOfMemory, is, h)) = is
memory_alone a b e none still stays free (inl (store.Io, is, h)) = absurd (omega (arith, none, still, h))
memory_alone a b e none still stays free (inl (store.Corrupt, is, h)) = absurd (omega (arith, none, still, h))
memory_alone a b e none still stays free (inl (store.Full, is, h)) = absurd (omega (arith, none, still, h))
memory_alone a b e none still stays free (inl (store.Broken, is, h)) = absurd (true≢false (sym stays ∙ h))
memory_alone a b e none still stays free (inl (store.Unstorable, is, h)) = absurd h
memory_alone a b e none still stays free (inr h) = let limit = subst IsSome free h.1 in cc

pub only_memory : (old new : Held MemStore) (e : Error) → IsEmpty (state over_memory old) → IsNew old
    → MayFail (state over_memory old) (state over_memory new) e → e ≡ SqliteFailure code.OutOfMemory
only_memory old new e empty fresh why =
    memory_alone (state over_memory old) (state over_memory new) e refl refl empty.0.is_open fresh.unlimited why

-- what an error is, that is told of it
pub told_error : {T : Type 0} (r : Result T Error) (e : Error) → IsErrAnd r (λ told. told ≡ e)
    → e ≡ SqliteFailure code.OutOfMemory → IfErr r (λ told. told ≡ SqliteFailure code.OutOfMemory)
told_error (Ok v) e is h = tt
told_error (Err told) e is h = is ∙ h
