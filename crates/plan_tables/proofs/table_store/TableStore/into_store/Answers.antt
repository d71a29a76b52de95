use Rattle.std.proofs.Common.{arith, subst}
use Rattle.std.proofs.Math.Logic.{∥∥₁_map}
use Rattle.sqlite.specs.Held.{Held, state}
use Rattle.sqlite.specs.State.{HasCleanDisk}
use Rattle.plan_store.specs.Contents.{content_of}
use Rattle.plan_tables.specs.Kept.{kept_in}
use Rattle.plan_tables.proofs.CauseLemmas.{certain}
use Rattle.plan_tables.proofs.FoundLemmas.{tells_kept, told_left}
use Rattle.plan_tables.proofs.table_store.TableStore.into_store.Goals as goal

pub returns-clause-honest : goal.returns-clause-honest
returns-clause-honest g c clean =
    subst (λ (x : Held _). HasCleanDisk (state g.S.Store x)) c.into_connection-conn.ensures
    (omega (arith, c.into_store.ensures.quiet.clean, clean))

pub returns-clause-plans : goal.returns-clause-plans
returns-clause-plans g c clean db left =
    let before : HasCleanDisk (state g.S.Store c.into_connection-conn.result) = omega
    (arith, c.into_store.ensures.quiet.clean, clean) in
    told_left g.S.Store c.args.self.session.conn c.into_connection-conn.result c.into_connection-conn.ensures
    c.args.self.told before db (c.into_store.ensures.quiet.outcomes db left)

pub returns-clause-tells : goal.returns-clause-tells
returns-clause-tells g c none sure clean db left =
    let before : HasCleanDisk (state g.S.Store c.into_connection-conn.result) = omega
    (arith, c.into_store.ensures.quiet.clean, clean) in
    tells_kept g.S.Store g.met.S.Store.settled c.args.self.session.conn c.into_connection-conn.result
    (kept_in (state g.S.Store c.args.self.session.conn) (content_of c.args.self.lists)) c.args.self.session.failures
    c.into_connection-conn.ensures none
    (∥∥₁_map (certain c.args.self.session.in_doubt sure c.args.self.stored) (λ h whole clean. (h whole clean).stored)) before c.schema-schema.ensures.live db
    (c.into_store.ensures.quiet.outcomes db left)
