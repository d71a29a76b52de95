-- What is told of a database that has the tables of the plan.
use Rattle.std.proofs.Common.{◌≡◌, ◌⊎◌, ◌∙◌, false, inl, inr, refl, subst, sym, IsSome, IsTrue, Result, Ok, Err, Option, None, Some, ap}
use Rattle.std.specs.Prelude.{map, IfErr, IfOk, IfSome}
use Rattle.sqlite.specs.Effect.{Database}
use Rattle.sqlite.specs.State.{IsUnchanged, State}
use Rattle.sqlite.specs.declared.error.Error.{Error}
use Rattle.sqlite.proofs.Callers.{unchanged_then}
use Rattle.sqlite_disk.specs.Disk.{MoreFaults}
use Rattle.sqlite_trees.specs.declared.error.StoreError.TheVariants as store
use Rattle.planner_machine.specs.Sound.{IsSound}
use Rattle.plan_store.specs.Contents.{content_of}
use Rattle.plan_store.specs.declared.contents.Content.{Content}
use Rattle.plan_tables_schema.specs.Rows.{MayFail, Tables, shown, tables_of}
use Rattle.plan_tables_schema.specs.Schema.{HasTables}
use Rattle.plan_tables_schema.specs.declared.tables.Table.TheVariants.{Meta}
use Rattle.plan_tables_content.specs.Content.{IsContentOf}
use Rattle.plan_tables_loading.specs.Reading.{HasPlan}
use Rattle.plan_tables_loading.proofs.LookLemmas.{plan_still, tables_still}
use Rattle.plan_tables_opening.specs.Faults.{fault_for}
use Rattle.plan_tables_opening.specs.Held.{AreKnown, HasVersion, HoldSound, HoldsPlan}
use Rattle.plan_tables_opening.specs.Judging.{IsJudged, IsSoundIfFound, found_by, told}
use Rattle.plan_tables_opening.specs.Kept.{IsKept}
use Rattle.plan_tables_opening.specs.Opened.{IsStored}
use Rattle.plan_tables_opening.specs.Opening.{IsUnread}
use Rattle.plan_tables_opening.specs.declared.faults.OpenFault.TheVariants.{Memory, Device, Tables as OtherTables}
use Rattle.plan_tables_opening.specs.declared.judging.Judged.{Judged}
use Rattle.plan_tables_opening.specs.declared.judging.Judged.TheVariants.{Sound, Unsound, Unknown, Unjudged}

-- ---- what is found

pub plan_was : (a b : State) → IsUnchanged a b → HasPlan b → HasPlan a
unfolding HasPlan
plan_was a b same plan = subst HasTables (ap (λ (d : Database). d.schema) same.0.now_is) plan

pub known_still : (a b : State) → IsUnchanged a b → HasVersion a → HasVersion b
known_still a b same known = (
  plan_still a b same known.0,
  subst (λ (all : Tables). AreKnown (map (shown Meta) (all Meta))) (sym (tables_still a b same)) known.1,
)

known_was : (a b : State) → IsUnchanged a b → HasVersion b → HasVersion a
known_was a b same known = (
  plan_was a b same known.0,
  subst (λ (all : Tables). AreKnown (map (shown Meta) (all Meta))) (tables_still a b same) known.1,
)

-- what is found after a reading that answered was so before
pub judged_since : (a b c : State) → IsUnchanged a b → (found : Judged) → IsJudged b c found → IsJudged a c found
judged_since a b c same (Sound content) h =
    (h.0, subst (λ (all : Tables). IsContentOf all (content_of content)) (tables_still a b same) h.1)
judged_since a b c same Unsound h = (
  known_was a b same h.0,
  λ held. h.1 (plan_still a b same held.0, subst HoldSound (sym (tables_still a b same)) held.1),
)
judged_since a b c same Unknown h = λ known. h (known_still a b same known)
judged_since a b c same Unjudged h = unchanged_then a b c same h

pub judged_by : {E : Type 0} (old new : State) (found : Result (Option Content) E) → HasVersion old
    → IsUnchanged old new
    → IfOk found (λ some. IfSome some (λ content. IsStored new (content_of content)
    × IsContentOf (tables_of old.now.trees) (content_of content)))
    → IfOk found (λ some. some ≡ None → HoldsPlan old → ⊥) → IsJudged old new (found_by found)
judged_by old new (Ok (Some content)) known same has none = has
judged_by old new (Ok None) known same has none = (known, none refl)
judged_by old new (Err e) known same has none = same

pub sound_found : {E : Type 0} (found : Result (Option Content) E)
    → IfOk found (λ some. IfSome some (λ content. IsSound (content_of content))) → IsSoundIfFound (found_by found)
sound_found (Ok (Some content)) h = h
sound_found (Ok None) h = tt
sound_found (Err e) h = tt

-- ---- what is told

pub told_content : (old new : State) (r : Result Judged Error) → IfOk r (IsJudged old new)
    → IfOk (told r) (λ content. IsStored new (content_of content)
    × IsContentOf (tables_of old.now.trees) (content_of content))
told_content old new (Ok (Sound content)) h = h
told_content old new (Ok Unsound) h = tt
told_content old new (Ok Unknown) h = tt
told_content old new (Ok Unjudged) h = tt
told_content old new (Err e) h = tt

pub told_sound : (r : Result Judged Error) → IfOk r IsSoundIfFound → IfOk (told r) (λ content. IsSound (content_of content))
told_sound (Ok (Sound content)) h = h
told_sound (Ok Unsound) h = tt
told_sound (Ok Unknown) h = tt
told_sound (Ok Unjudged) h = tt
told_sound (Err e) h = tt

module _ (old new : State) where
  by_memory : IsKept old new → IsUnread old new Memory
  by_memory kept = record { caused = kept; rows = λ is. absurd (cc); version = λ is known. cc }

  by_device : MoreFaults old.faults new.faults ⊎ (old.is_open ≡ false) → IsUnread old new Device
  by_device h = record { caused = h; rows = λ is. absurd (cc); version = λ is known. cc }

  by_limit : IsSome old.step_limit → IsUnread old new OtherTables
  by_limit h = record { caused = h; rows = λ is. absurd (cc); version = λ is known. cc }

  -- the error of the call tells it
  unread_by : (e : Error) → IsKept old new → MayFail old new e → IsUnread old new (fault_for e OtherTables)
  unread_by e kept (inl (store.OutOfMemory, is, h)) =
      subst (λ x. IsUnread old new (fault_for x OtherTables)) (sym is) (by_memory kept)
  unread_by e kept (inl (store.Io, is, h)) =
      subst (λ x. IsUnread old new (fault_for x OtherTables)) (sym is) (by_device (inl h))
  unread_by e kept (inl (store.Corrupt, is, h)) =
      subst (λ x. IsUnread old new (fault_for x OtherTables)) (sym is) (by_device (inl h))
  unread_by e kept (inl (store.Full, is, h)) =
      subst (λ x. IsUnread old new (fault_for x OtherTables)) (sym is) (by_device (inl h))
  unread_by e kept (inl (store.Broken, is, h)) =
      subst (λ x. IsUnread old new (fault_for x OtherTables)) (sym is) (by_device (inr h))
  unread_by e kept (inl (store.Unstorable, is, none)) = absurd none
  unread_by e kept (inr h) = subst (λ x. IsUnread old new (fault_for x OtherTables)) (sym h.0) (by_limit h.1)

  pub unread_of : (r : Result Judged Error) → IsKept old new → IfOk r (IsJudged old new)
      → IfErr r (MayFail old new) → IfErr (told r) (IsUnread old new)
  unread_of (Ok (Sound content)) kept found fails = tt
  unread_of (Ok Unsound) kept found fails = record { caused = tt; rows = λ _. found; version = λ is known. cc }
  unread_of (Ok Unknown) kept found fails = record { caused = tt; rows = λ is. absurd (cc); version = λ _. found }
  unread_of (Ok Unjudged) kept found fails = by_memory kept
  unread_of (Err e) kept found fails = unread_by e kept fails
