-- What is left of a call that failed, once it was asked why.
use Rattle.std.proofs.Common.{◌≡◌, ◌≢◌, Err, arith, inl, refl, subst, sym}
use Rattle.std.specs.Prelude.{None, Some, false}
use Rattle.sqlite.specs.Held.{Held, state}
use Rattle.sqlite.specs.State.{HasCleanDisk, State, Survives}
use Rattle.sqlite.specs.Store.{Ghosts}
use Rattle.sqlite.specs.declared.error.Error.{Error}
use Rattle.sqlite.proofs.StateLemmas.{survives_then}
use Rattle.planner_machine.specs.Content.{Content}
use Rattle.plan_tables_schema.specs.Rows.{StaysOrIsUndone}
use Rattle.plan_tables_schema.specs.Schema.{HasTables}
use Rattle.plan_tables_queries.specs.Finding.{FailsFor, FindsFact}
use Rattle.plan_tables_lookups.specs.declared.faults.TableFault.{TableFault}
use Rattle.plan_tables_lookups.specs.declared.faults.TableFault.TheVariants as lookup
use Rattle.plan_tables.specs.Kept.{IsKept, kept_in}
use Rattle.plan_tables.specs.Session.{Asks, LeavesOpen}
use Rattle.plan_tables.specs.Whys.{IsCauseOf, IsWhyOf}
use Rattle.plan_tables.specs.declared.keeping.Unmade.{Unmade}
use Rattle.plan_tables.specs.declared.keeping.Unmade.TheVariants as unmade
use Rattle.plan_tables.proofs.CauseLemmas.{failed_so}
use Rattle.plan_tables.proofs.LookLemmas.{put_by, put_then, unmoved}

-- a call over kept lists that failed for the fault
pub record Fails {S : Type 0} (g : Ghosts S) (old mid : Held S) (lists : Content) (fault : TableFault) : Type 0 where
  pub told : HasCleanDisk (state g mid) → IsKept (state g old) lists → fault ≢ lookup.Malformed
  pub fails : HasCleanDisk (state g mid) → IsKept (state g old) lists → FailsFor (state g old) (state g mid) fault
  pub leaves : HasCleanDisk (state g mid) → IsKept (state g old) lists → StaysOrIsUndone (state g old) (state g mid)
  pub mode : old.in_transaction ≡ false → mid.in_transaction ≡ false
  pub survives : Survives (state g old) (state g mid) (λ _. HasTables (state g old).now.schema → ⊥)

-- what is left of it at the end
pub record EndsFor {S : Type 0} (g : Ghosts S) (old mid end : Held S) (lists : Content) (why : Unmade) : Type 0 where
  pub calm : HasCleanDisk (state g end) → HasCleanDisk (state g mid)
  pub asks : Asks g old end lists (Some why)

-- only a want of memory leaves the connection open
pub memory_is : (why : Unmade) → LeavesOpen (Some why) → why ≡ unmade.Memory
memory_is unmade.Memory leaves = refl
memory_is unmade.Doubt leaves = absurd leaves
memory_is unmade.Device leaves = absurd leaves

-- a connection that is not asked
pub asks_none : {S : Type 0} (g : Ghosts S) (held : Held S) (lists : Content) → Asks g held held lists None
asks_none g held lists = record {
  stays = λ clean kept opens. (opens, inl refl, refl);
  opens = λ clean kept leaves. kept.stored.is_open;
  failed = λ clean kept device. absurd (let h : ⊥ = cc device in h);
  mode = λ outside. outside;
  survives = unmoved (state g held) _;
}

pub fact_fails : {S T : Type 0} (g : Ghosts S) (old mid : Held S) (lists : Content) (fault : TableFault)
    (P : Content → T → Type 0) → FindsFact g old mid (Err fault) P → Fails g old mid lists fault
fact_fails g old mid lists fault P did = record {
  told = λ clean kept. did.told clean kept.stored.plan.schema (kept_in (state g old) lists) kept.stored.content
      kept.sound;
  fails = λ clean kept. did.fails clean kept.stored.plan.schema;
  leaves = λ clean kept. did.leaves clean kept.stored.plan.schema;
  mode = did.mode;
  survives = did.survives;
}

module _ {S : Type 0} (g : Ghosts S) (old mid : Held S) (lists : Content) where
  abbrev from : State
  from = state g old

  abbrev to : State
  to = state g mid

  ends_memory : Fails g old mid lists lookup.Memory → EndsFor g old mid mid lists unmade.Memory
  ends_memory did = record {
    calm = λ clean. clean;
    asks = record {
      stays = λ clean kept. put_by from to (did.leaves clean kept);
      opens = λ clean kept _. (did.fails clean kept).0.is_open;
      failed = λ clean kept device. absurd (let h : ⊥ = cc device in h);
      mode = did.mode;
      survives = did.survives;
    };
  }

  ends_untold : Fails g old mid lists lookup.Malformed → EndsFor g old mid mid lists unmade.Device
  ends_untold did = record {
    calm = λ clean. clean;
    asks = record {
      stays = λ clean kept. put_by from to (did.leaves clean kept);
      opens = λ clean kept leaves. absurd leaves;
      failed = λ clean kept _. absurd (did.told clean kept refl);
      mode = did.mode;
      survives = did.survives;
    };
  }

  ends_asked : (end : Held S) (error : Error) (why : Unmade) → Fails g old mid lists (lookup.Store error)
      → IsCauseOf g mid end error why → EndsFor g old mid end lists why
  ends_asked end error why did cause =
      let last = state g end in
      let calm : HasCleanDisk last → HasCleanDisk to = λ clean. omega (arith, cause.survives.clean, clean) in
      record {
        calm = calm;
        asks = record {
          stays = λ clean kept. put_then from to last (put_by from to (did.leaves (calm clean) kept))
              (cause.stays clean);
          opens = λ clean kept leaves. (cause.asked clean (memory_is why leaves)).0.is_open;
          failed = λ clean kept device.
              let is : why ≡ unmade.Device = cc device in
              failed_so from to last error _ _ kept.stored.is_open (calm clean) did.survives cause.survives
              (did.fails (calm clean) kept) (cause.shut clean is);
          mode = λ outside. cause.mode (did.mode outside);
          survives = survives_then from to last _ (λ _. ⊥) _ (λ _ _ none. none) (λ _ _ none. absurd none) did.survives
              cause.survives;
        };
      }

  pub ends_for : (end : Held S) (fault : TableFault) (why : Unmade) → Fails g old mid lists fault
      → IsWhyOf g mid end fault why → EndsFor g old mid end lists why
  ends_for end lookup.Memory why did (is, same) = subst (λ (h : Held S). EndsFor g old mid h lists why) (sym same)
      (subst (EndsFor g old mid mid lists) (sym is) (ends_memory did))
  ends_for end lookup.Malformed why did (is, same) = subst (λ (h : Held S). EndsFor g old mid h lists why) (sym same)
      (subst (EndsFor g old mid mid lists) (sym is) (ends_untold did))
  ends_for end (lookup.Store error) why did cause = ends_asked end error why did cause
