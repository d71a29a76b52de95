use Rattle.std.proofs.Common.{ℕ, Bool, List, ap, ap₂, cond, inl, inr, refl, subst, sym}
use Rattle.sqlite_disk.specs.Events.{Event, replay}
use Rattle.sqlite_wal.specs.Recovery.{Image}
use Rattle.plan_tables.proofs.AgainLemmas.{found_plan}
use Rattle.sqlite.specs.Files.{HoldsDatabase, file_state}
use Rattle.sqlite_wal.specs.Files.{image_at}
use Rattle.plan_files.specs.declared.refusals.Unrun.TheVariants.{Unopened}
use Rattle.plan_files.proofs.BegunLemmas.{begun_in}
use Rattle.plan_files.proofs.OlderLemmas.{found_any}
use Rattle.plan_files.proofs.RefusedLemmas.{if_some, refused_for}
use Rattle.plan_files.proofs.over_files.run_over_files.Goals as goal

pub returns-in-Ok-run_over_connection-clause-ran : goal.returns-in-Ok-run_over_connection-clause-ran
returns-in-Ok-run_over_connection-clause-ran g c =
    let h = c.in-Ok-run_over_connection.ensures.ran in
    let migrated = h.3 in (
      h.0,
      h.1,
      h.2,
      record {
        found = λ honest.
            let first = migrated.honest honest in
            let opened = c.in-Ok.ensures.opened first in
            found_any (image_at g.S.Start) (file_state c.in-Ok.conn) h.0 opened.0 opened.1 (c.in-Ok.ensures.found first)
            (migrated.told honest);
        sound = migrated.sound;
        runs = migrated.runs;
      },
      record {
        begun = h.4.begun;
        reported = h.4.reported;
        was = λ honest.
            let first = migrated.honest honest in
            let opened = c.in-Ok.ensures.opened first in
            begun_in (image_at g.S.Start) (file_state c.in-Ok.conn) h.4.begun h.0 opened.0 opened.1
            (c.in-Ok.ensures.found first) (h.4.was honest);
      },
    )

abbrev image : List ℕ → List ℕ → Image
image log db = record { log = log; db = db }

abbrev seen : List ℕ → List ℕ → Bool → List Event → List ℕ
seen log db is_log history = (replay (cond is_log log db) history).seen

pub returns-in-Err-run_over_connection-clause-refused : goal.returns-in-Err-run_over_connection-clause-refused
returns-in-Err-run_over_connection-clause-refused g c =
    let h = c.in-Err-run_over_connection.ensures.unrun in record {
      told = tt;
      asked = λ cause is. absurd (h.opened cause is);
      none = λ is. absurd (cc);
      some = inr (
        c.in-Err-run_over_connection.left,
        refl,
        record {
          conn = c.in-Ok.conn;
          mid = h.mid;
          back = h.back;
          fresh = c.in-Ok.ensures.fresh;
          found = λ clean. (c.in-Ok.ensures.opened (h.honest clean), c.in-Ok.ensures.found (h.honest clean));
          unfit = h.unfit;
          hindered = λ clean sound.
              let opened = c.in-Ok.ensures.opened (h.honest clean) in
              h.hindered clean (found_plan (image_at g.S.Start) (file_state c.in-Ok.conn) opened.0 opened.1
              (c.in-Ok.ensures.found (h.honest clean)) sound) c.in-Ok.ensures.fresh.unlimited;
          quiet = h.quiet;
          spared = λ clean. h.spared clean (c.in-Ok.ensures.opened (h.honest clean)).0.is_open;
          images = h.images;
        },
      );
    }

pub returns-in-Err-clause-refused : goal.returns-in-Err-clause-refused
returns-in-Err-clause-refused g c = record {
  told = (ap Unopened c.in-Err.ensures.told, c.in-Err.ensures.refused);
  asked = λ cause is. refl;
  none = λ is. (
    refl,
    elim (c.in-Err.ensures.unopened is) [
      | inl memory ↦ inl (ap Unopened memory)
      | inr other ↦ inr (ap Unopened other)
    ],
  );
  some = if_some c.in-Err.left _ _ (λ rest h.
      let (files, log, db, left) = h in
      let same = ap₂ image (ap₂ (seen g.S.Start.log g.S.Start.db) log.0 log.1)
      (ap₂ (seen g.S.Start.log g.S.Start.db) db.0 db.1) in
      inl (record {
        files = files;
        fresh = (log, db);
        cause = c.in-Err.fault;
        is = refl;
        refused = λ clean. (left clean).0;
        hindered = λ clean sound.
            refused_for _ _ _ _ _ c.in-Err.fault
            (inl (sound.0, subst (λ i. HoldsDatabase i sound.0) (sym same) sound.1)) (left clean).0;
        unharmed = λ clean. (left clean).1;
      }))
      c.in-Err.ensures.caused;
}
