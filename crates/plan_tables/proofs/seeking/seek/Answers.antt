use Rattle.plan_store.specs.Contents.{content_of}
use Rattle.plan_tables.specs.Sought.{IsFoundFor}
use Rattle.plan_tables.proofs.SeekLemmas.{seeks_ok, seeks_why}
use Rattle.plan_tables.proofs.seeking.seek.Goals as goal

pub returns-in-Ok : goal.returns-in-Ok
returns-in-Ok g c = seeks_ok g.S.Store c.args.conn.now c.load_sought.new.conn (content_of c.args.lists.now)
    (content_of c.load_sought.new.lists) (IsFoundFor c.args.sought) c.in-Ok.ensures

pub returns-in-Err : goal.returns-in-Err
returns-in-Err g c = seeks_why g.S.Store c.args.conn.now c.load_sought.new.conn (content_of c.args.lists.now)
    (content_of c.load_sought.new.lists) (IsFoundFor c.args.sought) c.why_of.new.conn c.in-Err.fault c.why_of.result
    c.in-Err.ensures c.why_of.ensures
