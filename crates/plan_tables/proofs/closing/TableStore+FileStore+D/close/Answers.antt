use Rattle.std.proofs.Common.{◌≡◌, ◌⊎◌, arith, false, subst}
use Rattle.std.proofs.Math.Logic.{∥∥₁_map}
use Rattle.sqlite.specs.Files.{file_state, over_files}
use Rattle.sqlite.specs.Held.{Held}
use Rattle.sqlite.specs.State.{HasCleanDisk}
use Rattle.sqlite_disk.specs.Disk.{MoreFaults}
use Rattle.sqlite_store.specs.FileStore.{faults}
use Rattle.sqlite_store.specs.Laws.{settled_at}
use Rattle.sqlite_store.specs.declared.store.FileStore.{FileStore}
use Rattle.plan_store.specs.Contents.{content_of}
use Rattle.plan_tables.specs.Kept.{kept_in}
use Rattle.plan_tables.specs.Found.{KeepsAlone}
use Rattle.plan_tables.specs.Stored.{MayLeave}
use Rattle.plan_tables.proofs.CauseLemmas.{certain}
use Rattle.plan_tables.proofs.CopiedLemmas.{blamed_at_close, copied_again, copied_left, keeps_alone, told_of}
use Rattle.plan_tables.proofs.FoundLemmas.{tells_kept, told_left}
use Rattle.plan_tables.proofs.closing.TableStore+FileStore+D.close.Goals as goal

pub returns-in-Ok-clause-honest : goal.returns-in-Ok-clause-honest
returns-in-Ok-clause-honest g c clean =
    subst (λ (x : Held (FileStore _ _)). HasCleanDisk (file_state x)) c.into_connection-connection.ensures
    (c.in-Ok.ensures.copied clean).was_clean

pub returns-in-Ok-clause-holds : goal.returns-in-Ok-clause-holds
returns-in-Ok-clause-holds g c clean left out =
    let conn = c.into_connection-connection.result in
    let same = c.into_connection-connection.ensures in
    subst (λ (x : Held (FileStore _ _)). ∥ KeepsAlone left (file_state x) ∥₁) same
    (keeps_alone conn c.in-Ok.files (c.in-Ok.ensures.copied clean) left out g.met.D.Disk.seen_may_stay
    (told_of c.args.self.session.conn conn same c.args.self.told))

pub returns-in-Ok-clause-goes_on : goal.returns-in-Ok-clause-goes_on
returns-in-Ok-clause-goes_on g c clean left out d found =
    let conn = c.into_connection-connection.result in
    let same = c.into_connection-connection.ensures in
    subst (λ (x : Held (FileStore _ _)). ∥ MayLeave (file_state x) d ∥₁) same
    (copied_left conn c.in-Ok.files (c.in-Ok.ensures.copied clean) left out c.tables_have_one_content.ensures
    g.met.D.Disk.seen_may_stay (told_of c.args.self.session.conn conn same c.args.self.told) d found)

pub returns-in-Ok-clause-found_again : goal.returns-in-Ok-clause-found_again
returns-in-Ok-clause-found_again g c none sure clean left out d found =
    let copied = c.in-Ok.ensures.copied clean in
    let own = c.args.self in
    copied_again c.into_connection-connection.result c.in-Ok.files copied left out
    (kept_in (file_state own.session.conn) (content_of own.lists))
    c.tables_have_one_content.ensures
    (λ db may. tells_kept over_files (λ s. settled_at s g.met.D.Disk.seen_may_stay) own.session.conn
    c.into_connection-connection.result (kept_in (file_state own.session.conn) (content_of own.lists)) own.session.failures
    c.into_connection-connection.ensures none
    (∥∥₁_map (certain own.session.in_doubt sure own.stored) (λ h whole clean. (h whole clean).stored)) copied.was_clean c.schema-schema.ensures.live db may)
    g.met.D.Disk.seen_may_stay d found

pub returns-in-Err-clause-stays : goal.returns-in-Err-clause-stays
returns-in-Err-clause-stays g c db found =
    subst (λ (x : Held (FileStore _ _)). (file_state x).may_leave db) c.into_connection-connection.ensures
    (c.in-Err.ensures.err.0.quiet.outcomes db found)

pub returns-in-Err-clause-still_honest : goal.returns-in-Err-clause-still_honest
returns-in-Err-clause-still_honest g c clean =
    subst (λ (x : Held (FileStore _ _)). HasCleanDisk (file_state x)) c.into_connection-connection.ensures
    (omega (arith, c.in-Err.ensures.err.0.quiet.clean, clean))

pub returns-in-Err-clause-plans : goal.returns-in-Err-clause-plans
returns-in-Err-clause-plans g c clean db found =
    let quiet = c.in-Err.ensures.err.0.quiet in
    told_left over_files c.args.self.session.conn c.into_connection-connection.result c.into_connection-connection.ensures
    c.args.self.told (omega (arith, quiet.clean, clean)) db (quiet.outcomes db found)

pub returns-in-Err-clause-tells : goal.returns-in-Err-clause-tells
returns-in-Err-clause-tells g c none sure clean db found =
    let own = c.args.self in
    let quiet = c.in-Err.ensures.err.0.quiet in
    tells_kept over_files (λ s. settled_at s g.met.D.Disk.seen_may_stay) own.session.conn
    c.into_connection-connection.result (kept_in (file_state own.session.conn) (content_of own.lists)) own.session.failures
    c.into_connection-connection.ensures none
    (∥∥₁_map (certain own.session.in_doubt sure own.stored) (λ h whole clean. (h whole clean).stored)) (omega (arith, quiet.clean, clean))
    c.schema-schema.ensures.live db (quiet.outcomes db found)

pub returns-in-Err-clause-blames : goal.returns-in-Err-clause-blames
returns-in-Err-clause-blames g c clean device =
    subst (λ (x : Held (FileStore _ _)). ((file_state x).is_open ≡ false)
    ⊎ MoreFaults (faults x.store) (faults c.in-Err.left)) c.into_connection-connection.ensures
    (blamed_at_close c.into_connection-connection.result c.in-Err.left c.in-Err.error c.fault_of_closing.result
    c.fault_of_closing.ensures.memory (c.in-Err.ensures.err.1 clean) device)
