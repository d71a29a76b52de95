-- What files stand for that a store was in.
use Rattle.std.proofs.Common.{◌≡◌, ◌∙◌, [], IsTrue, refl, subst}
use Rattle.std.proofs.Math.Logic.{∥∥₁_elim, ∥∥₁_map}
use Rattle.sqlite.specs.Files.{HoldsDatabase, image_of}
use Rattle.sqlite.specs.Held.{AreDatabases}
use Rattle.sqlite_disk.specs.declared.Disk.{Ghosts}
use Rattle.sqlite_disk.specs.declared.Files.{Files}
use Rattle.sqlite_pool.proofs.ResealLemmas.{adopts_of}
use Rattle.sqlite_pool.proofs.StateLemmas.{clean_is, may_leave_is, size_is_allowed}
use Rattle.sqlite_pool.specs.Stored.{Recovers, RecoversAs}
use Rattle.sqlite_pool.specs.StoredLaws.{carried}
use Rattle.sqlite_store.specs.FileStore.{files, reading, recovers, schema_in, state, view}
use Rattle.sqlite_store.specs.Listing.{IsOurs}
use Rattle.sqlite_store.specs.declared.store.FileStore.{FileStore}
use Rattle.sqlite_trees.proofs.Doubt.{no_doubt}
use Rattle.sqlite_trees.specs.Tree.{Trees}
use Rattle.sqlite_trees.specs.View.{IsClean}
use Rattle.sqlite_wal.proofs.LogLemmas.{SeenMayStay}
use Rattle.sqlite_wal.specs.Files.{outcomes}
use Rattle.sqlite_wal.specs.Reads.{AreClean}
use Rattle.sqlite_wal.specs.Recovery.{Image}
use Rattle.plan_files_closing.specs.Copying.{KeepsFiles, StandsAlone}

-- an image holds a database that the store allows, and so does each that stands for the same
pub record Stands {D : Type 0} {g : Ghosts D} (it : FileStore D g) (left : Image) : Type 0 where
  pub db : Trees
  pub allowed : recovers it db
  pub both : HoldsDatabase left db
  pub size : both.0 ≡ (state it).page_size
  pub again : (other : Image) → RecoversAs (state it).page_size left other → HoldsDatabase other db

module _ {D : Type 0} {g : Ghosts D} (it : FileStore D g) (numbered : IsTrue (view it).is_numbered) (sound : AreDatabases (recovers it)) where
  pub stands : (before left : Image) → (state it).may_leave before → RecoversAs (state it).page_size before left → ∥ Stands it left ∥₁
  stands before left may same = ∥∥₁_elim it.safe squash₁ (λ all.
      let found = all before may in
      let db = reading it found.0 in
      let allowed : recovers it db = (before, found.0, may, ∣ found.1 ∣₁, refl) in
      let schema = sound db allowed in
      ∥∥₁_elim (size_is_allowed it.pool) squash₁ (λ size. ∥∥₁_map found.2 (λ ours.
      let made = λ (image : Image) (recovered : Recovers (state it).page_size image found.0). let r : HoldsDatabase image db = (
        (state it).page_size,
        size,
        record {
          pages = found.0;
          wanted = schema_in it found.0;
          schema = schema.0;
          found = adopts_of (state it).page_size image found.0 recovered;
          reads = refl;
          sound = schema.1;
          ours = subst (λ b. IsOurs (state it).page_size b (schema_in it found.0) found.0) numbered ours;
        },
      ) in r in
      let now = carried (state it).page_size before left same found.0 found.1 in
      let r : Stands it left = record {
        db = db;
        allowed = allowed;
        both = made left now;
        size = refl;
        again = λ other later. made other (carried (state it).page_size left other later found.0 now);
      } in r)))

  module _ (stays : SeenMayStay g) (first last : Files D) (same : (let p : D × D = (first.log, first.db) in p) ≡ files it) (keeps : KeepsFiles g first last)
      (clean : AreClean g last.log last.db) where
    was_clean : AreClean g (files it).0 (files it).1
    was_clean = subst (λ (p : D × D). AreClean g p.0 p.1) same (keeps.clean clean)

    may_be : (left : Image) → outcomes g first.log first.db left → (state it).may_leave left
    may_be left out = may_leave_is it.pool left was_clean (subst (λ (p : D × D). outcomes g p.0 p.1 left) same out)

    pub left_stands : (left : Image) → outcomes g last.log last.db left
        → ∥ (let r : Type 0 = (seen : Stands it (image_of g first)) × Stands it left in r) ∥₁
    left_stands left out =
        ∥∥₁_elim (stands (image_of g first) (image_of g first) (may_be (image_of g first) (stays first.log, stays first.db)) (λ pages was. was))
        squash₁ (λ seen.
        let (before, was, step) = keeps.adds clean seen.db seen.both left out in
        ∥∥₁_map (stands before left (may_be before was) (subst (λ n. RecoversAs n before left) seen.size step)) (λ now. (seen, now)))

    pub stands_alone : StandsAlone g first last → (left : Image) → outcomes g last.log last.db left → Stands it (image_of g first)
        → (now : Stands it left) → HoldsDatabase (record { log = []; db = left.db }) now.db
    stands_alone alone left out seen now =
        now.again _ (subst (λ n. RecoversAs n left (record { log = []; db = left.db })) seen.size (alone clean seen.db seen.both left out))

-- files that are clean were clean in the store
pub clean_store : {D : Type 0} {g : Ghosts D} (it : FileStore D g) (first : Files D)
    → (let p : D × D = (first.log, first.db) in p) ≡ files it → AreClean g first.log first.db → IsClean (view it)
clean_store {D} {g} it first same clean =
    no_doubt (view it).is_clean (clean_is it.pool ∙ subst (λ (p : D × D). AreClean g p.0 p.1) same clean)
