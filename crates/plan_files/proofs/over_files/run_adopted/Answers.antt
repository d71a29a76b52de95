use Rattle.std.proofs.Common.{arith, refl}
use Rattle.sqlite.specs.Files.{file_state}
use Rattle.sqlite.specs.State.{HasCleanDisk}
use Rattle.plan_store.specs.Contents.{content_of}
use Rattle.plan_tables.specs.Kept.{kept_in}
use Rattle.plan_files.proofs.LeftLemmas.{holds_such}
use Rattle.plan_files.proofs.over_files.run_adopted.Goals as goal

pub returns-in-Ok-clause-ran : goal.returns-in-Ok-clause-ran
returns-in-Ok-clause-ran g c =
    let over = c.in-Ok.ensures.opened in
    let ran = c.run_and_close-ended.ensures.runs in (
      kept_in (file_state c.in-Ok.store.session.conn) (content_of c.in-Ok.store.lists),
      ran.0,
      c.opened-reader.result,
      record {
        honest = λ honest. omega (arith, over.crash.clean, c.run_and_close-ended.ensures.honest honest);
        told = λ honest. let clean = c.run_and_close-ended.ensures.honest honest in (over.opened clean).told clean;
        sound = λ honest. (over.opened (c.run_and_close-ended.ensures.honest honest)).sound;
        runs = ran.1;
      },
      c.opened-reader.ensures,
    )

pub run_and_close-ended-requires-clause-kept : goal.run_and_close-ended-requires-clause-kept
run_and_close-ended-requires-clause-kept g c clean =
    let over = c.in-Ok.ensures.opened in
    let opened = over.opened clean in
    record { stored = opened.stored clean; sound = opened.sound; part = over.part clean }

pub returns-in-Err-clause-unrun : goal.returns-in-Err-clause-unrun
returns-in-Err-clause-unrun g c =
    let quiet = c.into_store.ensures.quiet in
    let back = c.in-Err.ensures.unopened in record {
      back = c.in-Err.back;
      fault = c.in-Err.fault;
      is = refl;
      unopened = λ clean. back.unopened (omega (arith, quiet.clean, clean));
      holds = λ clean holds. back.holds (omega (arith, quiet.clean, clean)) holds;
      quiet = quiet;
      stays = λ clean db found.
          let mid : HasCleanDisk (file_state c.in-Err.back) = omega (arith, quiet.clean, clean) in
          (omega (arith, back.crash.clean, mid), back.crash.crash mid db (quiet.outcomes db found));
      honest = λ clean.
          let mid : HasCleanDisk (file_state c.in-Err.back) = omega (arith, quiet.clean, clean) in
          omega (arith, back.crash.clean, mid);
      images = λ clean. holds_such c.into_store.result (c.into_store.ensures.numbered clean)
          (c.into_store.ensures.sound clean);
    }
