use Rattle.std.proofs.Common.{◌≡◌, ◌∙◌, [], subst, sym}
use Rattle.sqlite.proofs.FileLemmas.{probe_size}
use Rattle.sqlite.specs.Files.{image_of}
use Rattle.sqlite_pool.specs.Stored.{stored_size}
use Rattle.sqlite_wal.proofs.StateLemmas.{AddsNothing-trans, open_from}
use Rattle.sqlite_wal.specs.Files.{outcomes}
use Rattle.sqlite_wal.specs.Log.{state}
use Rattle.sqlite_wal.specs.Reads.{AreClean}
use Rattle.sqlite_wal.specs.Recovery.{AddsNothing, RecoversAs}
use Rattle.plan_files_closing.proofs.CopyLemmas.{alone_stands, kept}
use Rattle.plan_files_closing.proofs.copying.copy_log.Goals as goal

pub returns-in-Err-recover-clause-keeps : goal.returns-in-Err-recover-clause-keeps
returns-in-Err-recover-clause-keeps g c =
    let read = c.in-Ok-Some.ensures in
    kept c.args.files c.probe_page_size.new.files c.into_files.result c.in-Ok.log c.recover.new.self
    c.probe_page_size.ensures.log c.probe_page_size.ensures.db c.in-Ok.ensures.files
    (λ clean db held. probe_size (image_of g.D.Disk c.args.files) c.in-Ok-Some.field-0 (read.by_log clean) (read.by_file clean) db held
    c.in-Ok-Some.size c.in-Ok-Some.field-0-is ∙ sym c.in-Ok.ensures.size)
    c.recover.ensures.honest c.recover.ensures.crash c.into_files.ensures

pub returns-in-Ok-finish-clause-keeps : goal.returns-in-Ok-finish-clause-keeps
returns-in-Ok-finish-clause-keeps g c =
    let read = c.in-Ok-Some.ensures in
    let later = c.finish.ensures.keeps in
    kept c.args.files c.probe_page_size.new.files c.into_files-in-Ok-finish.result c.in-Ok.log c.finish.new.self
    c.probe_page_size.ensures.log c.probe_page_size.ensures.db c.in-Ok.ensures.files
    (λ clean db held. probe_size (image_of g.D.Disk c.args.files) c.in-Ok-Some.field-0 (read.by_log clean) (read.by_file clean) db held
    c.in-Ok-Some.size c.in-Ok-Some.field-0-is ∙ sym c.in-Ok.ensures.size)
    (λ clean. c.recover.ensures.honest (later.stays.clean clean))
    (AddsNothing-trans _ _ _ _ c.recover.ensures.crash
    (subst (λ n. AddsNothing n (state c.recover.new.self).may_leave (state c.finish.new.self).may_leave) c.recover.ensures.size later.crash))
    c.into_files-in-Ok-finish.ensures

pub returns-in-Ok-finish-clause-alone : goal.returns-in-Ok-finish-clause-alone
returns-in-Ok-finish-clause-alone g c clean db held left out =
    let read = c.in-Ok-Some.ensures in
    let later = c.finish.ensures.keeps in
    let last = c.finish.new.self in
    let ended : AreClean g.D.Disk last.log last.db = subst (λ p. AreClean g.D.Disk p.0 p.1) c.into_files-in-Ok-finish.ensures clean in
    let begun : AreClean g.D.Disk c.probe_page_size.new.files.log c.probe_page_size.new.files.db =
    subst (λ p. AreClean g.D.Disk p.0 p.1) c.in-Ok.ensures.files (c.recover.ensures.honest (later.stays.clean ended)) in
    let named : stored_size held.0 ≡ last.page_size = probe_size (image_of g.D.Disk c.args.files) c.in-Ok-Some.field-0 (read.by_log begun) (read.by_file begun) db held
    c.in-Ok-Some.size c.in-Ok-Some.field-0-is ∙ sym c.in-Ok.ensures.size ∙ sym c.recover.ensures.size ∙ sym later.stays.size in
    subst (λ n. RecoversAs n left (record left { log = [] })) (sym named)
    (alone_stands last g.met.D.Disk.seen_may_stay (open_from (state last) c.in-Ok-finish.ensures.open ended) c.in-Ok-finish.ensures.empty left
    (ended, subst (λ p. outcomes g.D.Disk p.0 p.1 left) c.into_files-in-Ok-finish.ensures out))

pub returns-in-Err-finish-clause-keeps : goal.returns-in-Err-finish-clause-keeps
returns-in-Err-finish-clause-keeps g c =
    let read = c.in-Ok-Some.ensures in
    let later = c.finish.ensures.keeps in
    kept c.args.files c.probe_page_size.new.files c.into_files-in-Err-finish.result c.in-Ok.log c.finish.new.self
    c.probe_page_size.ensures.log c.probe_page_size.ensures.db c.in-Ok.ensures.files
    (λ clean db held. probe_size (image_of g.D.Disk c.args.files) c.in-Ok-Some.field-0 (read.by_log clean) (read.by_file clean) db held
    c.in-Ok-Some.size c.in-Ok-Some.field-0-is ∙ sym c.in-Ok.ensures.size)
    (λ clean. c.recover.ensures.honest (later.stays.clean clean))
    (AddsNothing-trans _ _ _ _ c.recover.ensures.crash
    (subst (λ n. AddsNothing n (state c.recover.new.self).may_leave (state c.finish.new.self).may_leave) c.recover.ensures.size later.crash))
    c.into_files-in-Err-finish.ensures
