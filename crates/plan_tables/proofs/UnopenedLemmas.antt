-- In memory only memory can be short.
use Rattle.std.proofs.Common.{◌≡◌, None, Result, Ok, Err, IsTrue, IsSome, arith, inl, inr, refl, subst, sym, true≢false, ◌∙◌}
use Rattle.std.specs.Prelude.{IfErr}
use Rattle.sqlite.specs.Held.{Held, IsNew, state}
use Rattle.sqlite.specs.State.{State}
use Rattle.sqlite.specs.Steps.{IsEmpty, over_memory}
use Rattle.sqlite.proofs.Callers.{memory_is_clean}
use Rattle.sqlite_trees.specs.declared.memory.MemStore.{MemStore}
use Rattle.plan_tables_schema.specs.Free.{IsFree}
use Rattle.plan_tables_schema.proofs.MadeLemmas.{nothing_is_free}
use Rattle.plan_tables_opening.specs.Opened.{IsUnmade}
use Rattle.plan_tables_opening.specs.declared.faults.OpenFault.{OpenFault}
use Rattle.plan_tables_opening.specs.declared.faults.OpenFault.TheVariants.{Memory, Device, Unopened, Tables as OtherTables, Rows}
use Rattle.plan_tables.specs.Unopened.{IsUnmadeBy}

memory_alone : (a b : State) (fault : OpenFault) → a.faults ≡ 0 → b.faults ≡ 0 → IsTrue a.is_open
    → a.step_limit ≡ None → IsUnmade a b fault → fault ≡ Memory
memory_alone a b Memory none still stays free h = refl
memory_alone a b Device none still stays free (inl h) = absurd (omega (arith, none, still, h))
memory_alone a b Device none still stays free (inr h) = absurd (true≢false (sym stays ∙ h))
memory_alone a b Unopened none still stays free h = let limit = subst IsSome free h in cc
memory_alone a b OtherTables none still stays free h = absurd h
memory_alone a b Rows none still stays free h = absurd h

pub only_memory : {A : Type 0} (r : Result A OpenFault) (conn : Held MemStore) → IsEmpty (state over_memory conn)
    → IsNew conn → IfErr r (IsUnmadeBy over_memory conn) → IfErr r (λ fault. fault ≡ Memory)
only_memory (Ok a) conn empty new h = tt
only_memory (Err fault) conn empty new (left, why) =
    memory_alone (state over_memory conn) (state over_memory left) fault refl refl empty.0.is_open new.unlimited
    (why (memory_is_clean left) (subst IsFree (sym empty.2) nothing_is_free))
