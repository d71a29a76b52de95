-- What a log makes of its two files.
use Rattle.std.proofs.Common.{◌≡◌, ◌∙◌, ℕ, [], IsTrue, ap, arith, inl, length, refl, subst, sym}
use Rattle.std.proofs.lemmas.Bool.{and_from, and_parts}
use Rattle.sqlite.specs.Files.{HoldsDatabase, image_of}
use Rattle.sqlite_disk.specs.declared.Disk.{Ghosts}
use Rattle.sqlite_disk.specs.declared.Files.{Files}
use Rattle.sqlite_pool.specs.Stored.{stored_size}
use Rattle.sqlite_trees.specs.Tree.{Trees}
use Rattle.sqlite_wal.proofs.FileLemmas.{pages_without_frames}
use Rattle.sqlite_wal.proofs.LogLemmas.{SeenMayStay, durable_frames, settled, sound_of}
use Rattle.sqlite_wal.proofs.RecoveryLemmas.{RecoversAs-from}
use Rattle.sqlite_wal.proofs.StateLemmas.{ready_of}
use Rattle.sqlite_wal.specs.Files.{outcomes}
use Rattle.sqlite_wal.specs.Log.{durable, frames, state}
use Rattle.sqlite_wal.specs.Reads.{AreClean, OnlyReads}
use Rattle.sqlite_wal.specs.Recovery.{AddsNothing, Image, Recovers, RecoversAs, pages_after}
use Rattle.sqlite_wal.specs.declared.log.Log.{Log}
use Rattle.plan_files_closing.specs.Copying.{KeepsFiles}

module _ {D : Type 0} {g : Ghosts D} where
  -- without frames in the log the database file alone stands for what both files stand for
  pub alone_stands : (it : Log D g) → SeenMayStay g → IsTrue (state it).is_open → frames it ≡ 0 → (left : Image)
      → (state it).may_leave left → RecoversAs it.page_size left (record { log = []; db = left.db })
  alone_stands it stays is_open empty left may =
      let ready = ready_of (state it) is_open in
      let none : length (durable it).numbers ≡ 0 = durable_frames it ready ∙ omega (arith, it.marked ready, empty) in
      let kept = (sound_of it is_open).db_safe left.db may.1.1 in
      let found : Recovers it.page_size (record { log = []; db = left.db }) (state it).committed = record {
        frames = 0;
        replays = inl (inl (omega arith), refl);
        present = kept.present;
        gives = ap (λ d. pages_after it.page_size [] d 0) (kept.all none)
            ∙ pages_without_frames it.page_size [] (g.seen it.log) (g.seen it.db)
            ∙ ap (pages_after it.page_size (g.seen it.log) (g.seen it.db)) (sym none);
      } in
      RecoversAs-from it.page_size left (record { log = []; db = left.db }) (state it).committed
      ((settled it is_open stays).durable left may) found

  reads_both : (old new : Files D) → OnlyReads g old.log new.log → OnlyReads g old.db new.db → AreClean g new.log new.db
      → AreClean g old.log old.db
  reads_both old new log db clean =
      let both = and_parts (g.is_clean new.log) (g.is_clean new.db) clean in
      and_from (g.is_clean old.log) (g.is_clean old.db) (log.clean both.0) (db.clean both.1)

  -- files that were read, and then changed by a log
  pub kept : (old one new : Files D) (mid last : Log D g) → OnlyReads g old.log one.log → OnlyReads g old.db one.db
      → (let p : D × D = (mid.log, mid.db) in p) ≡ (one.log, one.db)
      → (AreClean g one.log one.db → (db : Trees) (held : HoldsDatabase (image_of g old) db) → stored_size held.0 ≡ mid.page_size)
      → (IsTrue (state last).is_clean → IsTrue (state mid).is_clean)
      → AddsNothing mid.page_size (state mid).may_leave (state last).may_leave
      → (let p : D × D = (new.log, new.db) in p) ≡ (last.log, last.db) → KeepsFiles g old new
  kept old one new mid last log db begins sized clean adds ends =
      let ended = λ (h : AreClean g new.log new.db). let r : AreClean g last.log last.db = subst (λ (p : D × D). AreClean g p.0 p.1) ends h in r in
      let begun = λ (h : AreClean g new.log new.db).
      let r : AreClean g one.log one.db = subst (λ (p : D × D). AreClean g p.0 p.1) begins (clean (ended h)) in r in
      record {
        clean = λ h. reads_both old one log db (begun h);
        adds = λ h trees held left out.
            let (before, may, same) = adds left (ended h, subst (λ (p : D × D). outcomes g p.0 p.1 left) ends out) in
            let was = subst (λ (p : D × D). outcomes g p.0 p.1 before) begins may.1 in (
              before,
              (log.crash before.log was.0, db.crash before.db was.1),
              subst (λ (n : ℕ). RecoversAs n before left) (sym (sized (begun h) trees held)) same,
            );
      }
