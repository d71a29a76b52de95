use Rattle.std.proofs.Common.{arith, inr, refl}
use Rattle.sqlite.specs.Files.{file_state}
use Rattle.sqlite.specs.State.{HasCleanDisk}
use Rattle.sqlite_wal.specs.Files.{image_at}
use Rattle.plan_store.specs.Contents.{content_of}
use Rattle.plan_tables.specs.Kept.{kept_in}
use Rattle.plan_tables.proofs.FoundLemmas.{found_in}
use Rattle.plan_tables.proofs.RefusedLemmas.{no_plan}
use Rattle.plan_tables.proofs.opening.TableStore+FileStore+FileFrom+S.open_path_from.Goals as goal

pub returns-in-Ok-over_store-clause-settled : goal.returns-in-Ok-over_store-clause-settled
returns-in-Ok-over_store-clause-settled g c = c.in-Ok-over_store.ensures.opened.settled

pub returns-in-Ok-over_store-clause-found : goal.returns-in-Ok-over_store-clause-found
returns-in-Ok-over_store-clause-found g c clean =
    let over = c.in-Ok-over_store.ensures.opened in
    let first : HasCleanDisk (file_state c.in-Ok.conn) = omega (arith, over.crash.clean, clean) in
    found_in (image_at g.S.Start) (file_state c.in-Ok.conn)
    (kept_in (file_state c.in-Ok-over_store.store.session.conn) (content_of c.in-Ok-over_store.store.lists))
    (c.in-Ok.ensures.opened first).0 (c.in-Ok.ensures.opened first).1 (c.in-Ok.ensures.found first)
    ((over.opened clean).told clean)

pub returns-in-Err-over_store-clause-refused : goal.returns-in-Err-over_store-clause-refused
returns-in-Err-over_store-clause-refused g c = (
  λ none. absurd (let h : ⊥ = cc none in h),
  inr (
    c.in-Err-over_store.left,
    refl,
    no_plan (image_at g.S.Start) c.in-Err-over_store.fault c.in-Ok.conn c.in-Err-over_store.left
        c.in-Ok.ensures.fresh c.in-Ok.ensures.opened c.in-Ok.ensures.found c.in-Err-over_store.ensures.refused,
  ),
)

pub returns-in-Ok-over_store-clause-opened : goal.returns-in-Ok-over_store-clause-opened
returns-in-Ok-over_store-clause-opened g c clean =
    let opened = c.in-Ok-over_store.ensures.opened.opened clean in
    record {
      stored = opened.stored clean;
      sound = opened.sound;
      part = c.in-Ok-over_store.ensures.opened.part clean;
    }
