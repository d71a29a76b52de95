-- What a question leaves of a database.
use Rattle.std.proofs.Common.{◌≡◌, ◌≤◌, ◌⊎◌, ◌∙◌, arith, inl, inr, subst, sym, true≢false, ℕ, List, []}
use Rattle.sqlite.specs.Order.{Row}
use Rattle.sqlite.specs.State.{State, FailsToQuery, HasCause, IsUnchanged, Shown, ShowsRows}
use Rattle.sqlite_trees.specs.declared.error.StoreError.{StoreError}
use Rattle.sqlite_trees.specs.declared.error.StoreError.TheVariants as store
use Rattle.sqlite.specs.declared.error.Error.{Error}
use Rattle.std.specs.Prelude.{IsTrue}
use Rattle.plan_tables_opening.specs.Queries.{IsReading}
use Rattle.plan_tables_opening.specs.declared.faults.OpenFault.{OpenFault}
use Rattle.plan_tables_opening.specs.declared.faults.OpenFault.TheVariants.{Device, Memory, Unopened}
use Rattle.plan_tables_opening.specs.Kept.{IsKept}
use Rattle.plan_tables_opening.proofs.KeptLemmas.{kept_if_left}
use Rattle.plan_tables_opening.proofs.QueryLemmas as query
use Rattle.plan_migrations.specs.Asking.{FailsByDevice, HasAnswer}

pub kept_by : (sql : List ℕ) → IsReading sql → (old new : State) (e : Error)
    → (IsTrue old.is_open → old.now ≡ old.committed) → FailsToQuery sql [] old new e → IsKept old new
kept_by sql reading old new e settled h = kept_if_left old new settled (query.failed_same sql reading old new e h)

-- a fault that is neither of these is the third
pub third : (f : OpenFault) → (f ≡ Memory) ⊎ ((f ≡ Device) ⊎ (f ≡ Unopened)) → (f ≡ Memory → ⊥) → (f ≡ Device → ⊥)
    → f ≡ Unopened
third f (inl h) memory device = absurd (memory h)
third f (inr (inl h)) memory device = absurd (device h)
third f (inr (inr h)) memory device = h

-- what is shown is what the database has to show
pub has_answer : (sql : List ℕ) → IsReading sql → (a b : State) (rows : List Row) → Shown sql [] a b rows
    → HasAnswer sql a rows
unfolding Shown
has_answer sql reading a b rows h =
    let alone = query.shows_alone sql reading a h.0 h.1 in
    let rest = subst (ShowsRows a b sql h.0 _ rows) alone h.2 in (h.0, h.1, rest.0, rest.1, rest.2)

-- ---- a failure after a question that changed nothing

module _ (a b c : State) (same : IsUnchanged a b) (more : a.faults ≤ b.faults) where
  pub cause_since : (cause : StoreError) → HasCause b c ⊥ cause → HasCause a c ⊥ cause
  cause_since store.OutOfMemory h = tt
  cause_since store.Io h = omega (arith, more, h)
  cause_since store.Corrupt h = omega (arith, more, h)
  cause_since store.Full h = omega (arith, more, h)
  cause_since store.Broken h = absurd (true≢false (sym same.0.is_open ∙ h))
  cause_since store.Unstorable h = h

  pub device_since : FailsByDevice b c → FailsByDevice a c
  device_since (inl h) = inl (omega (arith, more, h))
  device_since (inr h) = absurd (true≢false (sym same.0.is_open ∙ h))
