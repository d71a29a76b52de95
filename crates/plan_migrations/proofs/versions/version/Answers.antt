use Rattle.sqlite.specs.Held.{state}
use Rattle.plan_migrations.proofs.VersionLemmas.{err_told, ok_told}
use Rattle.plan_migrations.proofs.versions.version.Goals as goal

pub returns-clause-known : goal.returns-clause-known
returns-clause-known g c clean holds =
    ok_told (state g.S.Store c.args.conn.now) (state g.S.Store c.shown_version.new.conn) holds c.schema.ensures.live
    c.shown_version.result (c.shown_version.ensures.tells clean)

pub returns-clause-common : goal.returns-clause-common
returns-clause-common g c clean holds =
    err_told (state g.S.Store c.args.conn.now) (state g.S.Store c.shown_version.new.conn) holds c.schema.ensures.live
    c.shown_version.result (c.shown_version.ensures.tells clean)
