-- Readings in turn.
use Rattle.std.proofs.Common.{◌≡◌, ◌∙◌, ◌≤◌, Bool, true, ap, arith, inl, inr, refl, subst, sym, true≢false}
use Rattle.std.proofs.Common.{IsTrue, Result, Ok, Err, is_ok}
use Rattle.sqlite.specs.Effect.{Database}
use Rattle.sqlite.specs.State.{HasCause, HasCleanDisk, IsRolledBack, IsUnchanged, State}
use Rattle.sqlite.specs.declared.error.Error.{Error}
use Rattle.sqlite_trees.specs.declared.error.StoreError.{StoreError}
use Rattle.sqlite_trees.specs.declared.error.StoreError.TheVariants.{OutOfMemory, Io, Corrupt, Full, Broken, Unstorable}
use Rattle.sqlite.proofs.Callers.{unchanged_then}
use Rattle.sqlite.proofs.StateLemmas.{survives_then}
use Rattle.std.specs.Prelude.{IfOk, IsSome}
use Rattle.plan_tables_schema.specs.Rows.{MayFail, StaysOrIsUndone, tables_of}
use Rattle.plan_tables_schema.specs.Schema.{HasTables}
use Rattle.plan_tables_loading.specs.Reading.{HasPlan, Looks}

pub on_done : {A E : Type 0} (r : Result A E) (P : A → Type 0) (Q : Type 0) → ((a : A) → P a → Q) → IfOk r P
    → IsTrue (is_ok r) → Q
on_done (Ok a) P Q f h done = f a h
on_done (Err e) P Q f h done = cc

pub plan_still : (a b : State) → IsUnchanged a b → HasPlan a → HasPlan b
unfolding HasPlan
plan_still a b same plan = subst HasTables (sym (ap (λ (d : Database). d.schema) same.0.now_is)) plan

pub tables_still : (a b : State) → IsUnchanged a b → tables_of b.now.trees ≡ tables_of a.now.trees
tables_still a b same = ap (λ (d : Database). tables_of d.trees) same.0.now_is

pub clean_before : (a b : State) (o : Bool) → Looks a b o → HasCleanDisk b → HasCleanDisk a
clean_before a b o look clean = omega (arith, look.survives.clean, clean)

-- what is undone after a reading that answered is undone since that reading began
pub undone_since : (a b c : State) → IsUnchanged a b → IsRolledBack b c → IsRolledBack a c
undone_since a b c same undone = record {
  was_open = λ _. same.0.was_open;
  undone = λ up. ((undone.undone up).0 ∙ same.0.committed_is, (undone.undone up).1 ∙ same.0.committed_is);
  autocommit = undone.autocommit;
  unmarked = undone.unmarked;
  counts = record {
    changes = undone.counts.changes ∙ same.1.changes;
    last_rowid = undone.counts.last_rowid ∙ same.1.last_rowid;
  };
}

left_since : (a b c : State) → IsUnchanged a b → StaysOrIsUndone b c → StaysOrIsUndone a c
left_since a b c same (inl stays) = inl (unchanged_then a b c same stays)
left_since a b c same (inr undone) = inr (undone_since a b c same undone)

-- after a reading that answered, the next
pub looks_then : (a b c : State) (o : Bool) → Looks a b true → Looks b c o → Looks a c o
looks_then a b c o one two = record {
  same = λ clean plan done.
      let same = one.same (clean_before b c o two clean) plan refl in
      unchanged_then a b c same (two.same clean (plan_still a b same plan) done);
  leaves = λ clean plan.
      let same = one.same (clean_before b c o two clean) plan refl in
      left_since a b c same (two.leaves clean (plan_still a b same plan));
  survives = survives_then a b c _ _ (λ _. HasPlan a → ⊥) (λ _ _ none. none)
      (λ clean _ none plan. none (plan_still a b (one.same (clean_before b c o two clean) plan refl) plan))
      one.survives two.survives;
}

-- what causes a failure after a reading that answered causes it since that reading began
caused : (a b c : State) → IsUnchanged a b → a.faults ≤ b.faults → (cause : StoreError) → HasCause b c ⊥ cause
    → HasCause a c ⊥ cause
caused a b c same more OutOfMemory h = tt
caused a b c same more Io h = omega (arith, more, h)
caused a b c same more Corrupt h = omega (arith, more, h)
caused a b c same more Full h = omega (arith, more, h)
caused a b c same more Broken h = absurd (true≢false (sym same.0.is_open ∙ h))
caused a b c same more Unstorable h = h

pub vain_then : (a b c : State) (o : Bool) (e : Error) → Looks a b true → Looks b c o → HasCleanDisk c → HasPlan a
    → MayFail b c e → MayFail a c e
vain_then a b c o e one two clean plan (inl h) =
    let same = one.same (clean_before b c o two clean) plan refl in
    inl (h.0, h.1, caused a b c same one.survives.counts h.0 h.2)
vain_then a b c o e one two clean plan (inr h) = inr (h.0, subst IsSome one.survives.limit h.1)
