-- What a run begins with is what it found.
use Rattle.std.proofs.Common.{◌≡◌, ◌↔◌, ◌∙◌, Bool, Option, Some, true, false, ap, inl, inr, refl, subst, sym, true≢false, ℕ}
use Rattle.std.specs.Prelude.{IsTrue}
use Rattle.sqlite.specs.Effect.{Database}
use Rattle.sqlite.specs.Files.{AreFoundIn}
use Rattle.sqlite.specs.Start.{FindsIn}
use Rattle.sqlite.specs.State.{IsLive, Opens, State}
use Rattle.sqlite_wal.specs.Recovery.{Image}
use Rattle.planner_machine.specs.Content.{Content}
use Rattle.plan_tables_schema.specs.Rows.{tables_of}
use Rattle.plan_tables_schema.specs.Free.{IsFree}
use Rattle.plan_tables_schema.specs.Schema.{HasTables}
use Rattle.plan_tables_content.specs.Content.{IsContentOf}
use Rattle.plan_tables_loading.specs.Reading.{HasPlan}
use Rattle.plan_tables_opening.specs.Opened.{HasRoom, IsToldBy}
use Rattle.plan_migrations.specs.Older.{IsFoundAs}
use Rattle.plan_migrations.specs.declared.versions.TheConstants.{FIRST_VERSION}
use Rattle.plan_files.specs.LostIndexes.{KeepsIndexes}
use Rattle.plan_files.specs.StartingPlan.{IsBegunIn, IsBegunOn, begun_of}
use Rattle.plan_files.specs.declared.openings.StartingPlan.{StartingPlan}
use Rattle.plan_files.proofs.OlderLemmas.{first_told}

module _ (old mid : State) (found : Option ℕ) where
  -- of a database that was asked for its version, or whose tables of schema 1 were renewed
  pub begun_on : (was_first has_meta lost : Bool) (c : Content) → (lost ≡ false) ↔ KeepsIndexes old.now.schema → IsFoundAs found old mid
      → IsTrue was_first ↔ (found ≡ Some FIRST_VERSION) → (HasPlan mid → IsTrue has_meta)
      → (HasRoom mid → has_meta ≡ false) → IsToldBy mid.now c → IsBegunOn (begun_of was_first has_meta lost) old.now c
  unfolding HasPlan
  begun_on true has_meta lost c own found-as is plan room told = (first_told old mid c (found-as.first (is.0 refl)) told, own)
  begun_on false true lost c own found-as is plan room told =
      let same = found-as.other (λ one. true≢false (sym (is.1 one))) in
      elim told [
        | inl has ↦ subst (λ (d : Database). HasTables d.schema × IsContentOf (tables_of d.trees) c) same has
        | inr free ↦ absurd (true≢false (room free.0))
      ]
  begun_on false false lost c own found-as is plan room told =
      let same = found-as.other (λ one. true≢false (sym (is.1 one))) in
      elim told [
        | inl has ↦ absurd (true≢false (sym (plan has.0)))
        | inr free ↦ (subst (λ (d : Database). IsFree d.schema) same free.0, free.1)
      ]

-- of a database that was found in files
pub begun_in : (image : Image) (s : State) (begun : StartingPlan) (c : Content) → Opens s → IsLive s → FindsIn image s
    → IsBegunOn begun s.now c → IsBegunIn image begun c
begun_in image s begun c opens live found was = record {
  found = s.now;
  obeys = (live opens.is_open).0;
  holds = λ db held. ap (λ (d : Database). d.trees) opens.clean ∙ found.holds db held;
  reads = subst (AreFoundIn image) (ap (λ (d : Database). d.trees) (sym opens.clean)) found.reads;
  was = was;
}
