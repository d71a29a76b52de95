-- What is sought in the tables of a kept content.
use Rattle.std.proofs.Common.{Err, Ok}
use Rattle.std.proofs.Math.Logic.{∥∥₁_map}
use Rattle.sqlite.specs.Held.{Held, state}
use Rattle.sqlite.specs.State.{State}
use Rattle.sqlite.specs.Store.{Ghosts}
use Rattle.planner_machine.specs.Content.{Content}
use Rattle.plan_store.specs.Parts.{Rest}
use Rattle.plan_tables_lookups.specs.declared.faults.TableFault.{TableFault}
use Rattle.plan_tables_windows.specs.Fetching.{AreOfTables, Fetches}
use Rattle.plan_tables.specs.Kept.{IsKept}
use Rattle.plan_tables.specs.Sought.{Seeks}
use Rattle.plan_tables.specs.Whys.{IsWhyOf}
use Rattle.plan_tables.specs.declared.keeping.Unmade.{Unmade}
use Rattle.plan_tables.proofs.LookLemmas.{put_by}
use Rattle.plan_tables.proofs.WhyLemmas.{Fails, ends_for}

pub of_kept : (s : State) (lists : Content) → IsKept s lists → AreOfTables s lists
of_kept s lists kept = record {
  schema = kept.stored.plan.schema;
  content = kept.stored.content;
  sound = kept.sound;
  part = kept.part;
}

module _ {S : Type 0} (g : Ghosts S) (old new : Held S) (was now : Content) (IsFound : Rest → Content → Type 0) where
  abbrev from : State
  from = state g old

  abbrev to : State
  to = state g new

  pub seeks_ok : Fetches {T = Unit {0}} g old new was now (Ok tt) IsFound → Seeks g old new was now (Ok tt) IsFound
  seeks_ok did = record {
    found = λ clean kept. did.ready clean (∥∥₁_map kept (of_kept from was));
    grows = did.grows;
    part = λ clean kept. did.part clean ∣ of_kept from was kept ∣₁;
    asks = record {
      stays = λ clean kept. put_by from to (did.leaves clean kept.stored.plan.schema kept.stored.is_open);
      opens = λ clean kept _. (did.same clean kept.stored.plan.schema kept.stored.is_open).0.is_open;
      failed = λ clean kept device. absurd (let h : ⊥ = cc device in h);
      mode = did.mode;
      survives = did.survives;
    };
  }

  fetch_fails : (fault : TableFault) → Fetches {T = Unit {0}} g old new was now (Err fault) IsFound
      → Fails g old new was fault
  fetch_fails fault did = record {
    told = λ clean kept. did.told clean ∣ of_kept from was kept ∣₁;
    fails = λ clean kept. did.fails clean kept.stored.plan.schema kept.stored.is_open;
    leaves = λ clean kept. did.leaves clean kept.stored.plan.schema kept.stored.is_open;
    mode = did.mode;
    survives = did.survives;
  }

  pub seeks_why : (end : Held S) (fault : TableFault) (why : Unmade)
      → Fetches {T = Unit {0}} g old new was now (Err fault) IsFound → IsWhyOf g new end fault why
      → Seeks g old end was now (Err why) IsFound
  seeks_why end fault why did is =
      let ends = ends_for g old new was end fault why (fetch_fails fault did) is in
      record {
        found = λ clean kept. tt;
        grows = did.grows;
        part = λ clean kept. did.part (ends.calm clean) ∣ of_kept from was kept ∣₁;
        asks = ends.asks;
      }
