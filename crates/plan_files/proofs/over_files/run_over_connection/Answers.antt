use Rattle.std.proofs.Common.{◌≡◌, ◌↔◌, arith, false, inl, inr, subst, sym}
use Rattle.sqlite.specs.Schema.{Schema}
use Rattle.plan_files.specs.LostIndexes.{KeepsIndexes}
use Rattle.sqlite.specs.Files.{file_state}
use Rattle.sqlite.specs.State.{HasCleanDisk}
use Rattle.sqlite_store.specs.Laws.{settled_at}
use Rattle.plan_tables_schema.proofs.ResultLemmas.{if_err, if_ok}
use Rattle.plan_files.specs.Unrun.{IsHindered, IsUnfit}
use Rattle.plan_files.specs.StartingPlan.{begun_of}
use Rattle.plan_files.specs.declared.openings.StartingPlan.{StartingPlan}
use Rattle.plan_files.proofs.BegunLemmas.{begun_on}
use Rattle.plan_files.proofs.LeftLemmas.{holds_such}
use Rattle.plan_files.proofs.OlderLemmas.{left_since, spared, still_holds, told_now}
use Rattle.plan_files.proofs.over_files.run_over_connection.Goals as goal

pub returns-in-Ok-clause-ran : goal.returns-in-Ok-clause-ran
returns-in-Ok-clause-ran g c =
    let old = file_state c.args.conn in
    let mid = file_state c.migrate_older.new.conn in
    if_ok c.run_adopted.result _ _ (λ run h. (
      h.0,
      h.1,
      h.2,
      record {
        honest = λ honest. omega (arith, c.migrate_older.ensures.crash.clean, h.3.honest honest);
        told = λ honest. told_now old mid h.0 (c.in-Ok.ensures.current (h.3.honest honest)) (h.3.told honest);
        sound = h.3.sound;
        runs = h.3.runs;
      },
      record {
        begun = begun_of c.is_first.result c.has_meta.result c.loses_index-lost_index.result;
        reported = subst (λ (b : StartingPlan). g.O.Opening.reports c.args.opening b h.2) c.starting_plan-begun.ensures h.4;
        was = λ honest. begun_on old mid _ c.is_first.result c.has_meta.result c.loses_index-lost_index.result h.0
            (subst (λ (x : Schema). (c.loses_index-lost_index.result ≡ false) ↔ KeepsIndexes x) c.schema.ensures.value
            c.loses_index-lost_index.ensures) (c.in-Ok.ensures.found (h.3.honest honest)) c.is_first.ensures c.has_meta.ensures.plan
            c.has_meta.ensures.room (h.3.told honest);
      },
    )) c.run_adopted.ensures.ran

pub returns-in-Ok-clause-unrun : goal.returns-in-Ok-clause-unrun
returns-in-Ok-clause-unrun g c =
    let old = file_state c.args.conn in
    let mid = file_state c.migrate_older.new.conn in
    if_err c.run_adopted.result _ _ (λ left h. record {
      mid = c.migrate_older.new.conn;
      back = h.back;
      opened = λ cause is. absurd (cc);
      unfit = λ clean. subst (IsUnfit c.args.conn c.migrate_older.new.conn h.back) (sym h.is)
          (c.in-Ok.ensures.current (h.honest clean), h.unopened clean);
      hindered = λ clean holds limit. subst (IsHindered c.args.conn c.migrate_older.new.conn h.back) (sym h.is)
          (h.holds clean (still_holds old mid (c.in-Ok.ensures.current (h.honest clean)) holds));
      quiet = h.quiet;
      honest = λ clean. omega (arith, c.migrate_older.ensures.crash.clean, h.honest clean);
      spared = λ clean is_open db found. spared old
          (λ was may. settled_at c.args.conn.store g.met.D.Disk.seen_may_stay was is_open may) db
          (left_since old mid c.migrate_older.ensures.crash c.in-Ok.ensures.current db (h.stays clean db found));
      images = h.images;
    }) c.run_adopted.ensures.unrun

pub returns-in-Err-clause-unrun : goal.returns-in-Err-clause-unrun
returns-in-Err-clause-unrun g c =
    let quiet = c.into_store.ensures.quiet in record {
      mid = c.migrate_older.new.conn;
      back = c.migrate_older.new.conn;
      opened = λ cause is. absurd (cc);
      unfit = λ clean. c.in-Err.ensures.unmigrated (omega (arith, quiet.clean, clean));
      hindered = λ clean holds limit. c.in-Err.ensures.common (omega (arith, quiet.clean, clean)) holds limit;
      quiet = quiet;
      honest = λ clean.
          let mid : HasCleanDisk (file_state c.migrate_older.new.conn) = omega (arith, quiet.clean, clean) in
          omega (arith, c.migrate_older.ensures.crash.clean, mid);
      spared = λ clean is_open db found.
          let mid : HasCleanDisk (file_state c.migrate_older.new.conn) = omega (arith, quiet.clean, clean) in
          spared (file_state c.args.conn)
          (λ was may. settled_at c.args.conn.store g.met.D.Disk.seen_may_stay was is_open may) db
          (elim (c.migrate_older.ensures.crash.crash mid db (quiet.outcomes db found)) [
            | inl was ↦ inl was
            | inr new ↦ inr (inl new)
          ]);
      images = λ clean. holds_such c.into_store.result (c.into_store.ensures.numbered clean)
          (c.into_store.ensures.sound clean);
    }
