use Rattle.std.proofs.Common.{[], arith, refl}
use Rattle.std.specs.Prelude.{option_copied}
use Rattle.sqlite.specs.Held.{state}
use Rattle.plan_tables_schema.specs.Rows.{tables_of}
use Rattle.plan_tables_windows.specs.Fetching.{told_rest}
use Rattle.plan_tables.proofs.SoundLemmas.{kept_numbered}
use Rattle.plan_tables.proofs.table_store.TableStorePlanStore.rows_to.Goals as goal

pub returns-then-self-gt0-clause-part : goal.returns-then-self-gt0-clause-part
returns-then-self-gt0-clause-part g c honest either =
    let (items, is) = c.has_listings_with.ensures
    (told_rest (tables_of (state g.S.Store c.args.self.now.session.conn).now.trees)) (kept_numbered c.args.self.now honest) c.args.what
    (option_copied c.args.app) in
    record { done = []; rest = items; whole = is; ends = refl }

pub returns-then-self-gt0-clause-caused : goal.returns-then-self-gt0-clause-caused
returns-then-self-gt0-clause-caused g c none clean _ =
    absurd (let h : ⊥ = omega (arith, none, c.if-self-gt0.true) in h)

pub returns-in-Ltp-clause-all : goal.returns-in-Ltp-clause-all
returns-in-Ltp-clause-all g c honest =
    rw c.in-Ltp.is (c.ltp_to.ensures.all (told_rest (tables_of (state g.S.Store c.args.self.now.session.conn).now.trees))
    (kept_numbered c.args.self.now honest))

pub returns-in-Ltp-clause-part : goal.returns-in-Ltp-clause-part
returns-in-Ltp-clause-part g c honest either =
    rw c.in-Ltp.is (c.ltp_to.ensures.part (told_rest (tables_of (state g.S.Store c.args.self.now.session.conn).now.trees))
    (kept_numbered c.args.self.now honest))

pub returns-in-Cp-clause-all : goal.returns-in-Cp-clause-all
returns-in-Cp-clause-all g c honest =
    rw c.in-Cp.is (c.cp_to.ensures.all (told_rest (tables_of (state g.S.Store c.args.self.now.session.conn).now.trees))
    (kept_numbered c.args.self.now honest))

pub returns-in-Cp-clause-part : goal.returns-in-Cp-clause-part
returns-in-Cp-clause-part g c honest either =
    rw c.in-Cp.is (c.cp_to.ensures.part (told_rest (tables_of (state g.S.Store c.args.self.now.session.conn).now.trees))
    (kept_numbered c.args.self.now honest))

pub returns-in-Links-clause-all : goal.returns-in-Links-clause-all
returns-in-Links-clause-all g c honest =
    rw c.in-Links.is (c.links_to.ensures.all (told_rest (tables_of (state g.S.Store c.args.self.now.session.conn).now.trees))
    (kept_numbered c.args.self.now honest))

pub returns-in-Links-clause-part : goal.returns-in-Links-clause-part
returns-in-Links-clause-part g c honest either =
    rw c.in-Links.is (c.links_to.ensures.part (told_rest (tables_of (state g.S.Store c.args.self.now.session.conn).now.trees))
    (kept_numbered c.args.self.now honest))

pub returns-in-History-clause-all : goal.returns-in-History-clause-all
returns-in-History-clause-all g c honest =
    let lists = c.list_asked.ensures in
    rw c.in-History.is (lists.all honest (kept_numbered c.args.self.now (lists.honest honest)))

pub returns-in-History-clause-part : goal.returns-in-History-clause-part
returns-in-History-clause-part g c honest either =
    rw c.in-History.is (c.list_asked.ensures.part honest either (kept_numbered c.args.self.now honest))

pub returns-in-Deletions-clause-all : goal.returns-in-Deletions-clause-all
returns-in-Deletions-clause-all g c honest =
    let lists = c.list_deletions.ensures in
    rw c.in-Deletions.is (lists.all honest (kept_numbered c.args.self.now (lists.honest honest)))

pub returns-in-Deletions-clause-part : goal.returns-in-Deletions-clause-part
returns-in-Deletions-clause-part g c honest either =
    rw c.in-Deletions.is (c.list_deletions.ensures.part honest either (kept_numbered c.args.self.now honest))

pub returns-in-Dependencies-clause-all : goal.returns-in-Dependencies-clause-all
returns-in-Dependencies-clause-all g c honest =
    let lists = c.list_asked-in-Dependencies.ensures in
    rw c.in-Dependencies.is (lists.all honest (kept_numbered c.args.self.now (lists.honest honest)))

pub returns-in-Dependencies-clause-part : goal.returns-in-Dependencies-clause-part
returns-in-Dependencies-clause-part g c honest either =
    rw c.in-Dependencies.is (c.list_asked-in-Dependencies.ensures.part honest either (kept_numbered c.args.self.now honest))
