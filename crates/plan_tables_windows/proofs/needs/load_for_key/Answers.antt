use Rattle.plan_store.specs.HistoryReads.{ReadsKey}
use Rattle.plan_store.specs.Contents.{content_of}
use Rattle.plan_store.specs.Views.{Asks}
use Rattle.plan_store.specs.declared.stores.Need.TheVariants.{Key}
use Rattle.plan_tables_windows.specs.Windows.{HasLastsOf, IsReadyFor, KnowsLive}
use Rattle.plan_tables_windows.proofs.FetchLemmas.{gathers_stopped, gathers_then}
use Rattle.plan_tables_windows.proofs.NeedLemmas.{key_ready}
use Rattle.plan_tables_windows.proofs.needs.load_for_key.Goals as goal

pub returns : goal.returns
returns g c =
    let key = c.args.key.now in
    let mid = content_of c.find_asked.new.lists in
    let now = content_of c.find_live.new.lists in
    gathers_then g.S.Store c.args.conn.now c.find_asked.new.conn c.find_live.new.conn (content_of c.args.lists.now) mid
    now c.find_live.result (λ rest l. HasLastsOf (Asks (Key key) l) rest l)
    (λ rest l. HasLastsOf (ReadsKey mid key) rest mid → KnowsLive rest key l) (λ rest l. IsReadyFor rest (Key key) l)
    c.in_ok-find_asked.ensures c.find_live.ensures (λ rest part more. key_ready key rest mid now more)

pub returns-in_err-find_asked : goal.returns-in_err-find_asked
returns-in_err-find_asked g c =
    let key = c.args.key.now in
    gathers_stopped g.S.Store c.args.conn.now c.find_asked.new.conn (content_of c.args.lists.now)
    (content_of c.find_asked.new.lists) c.in_err-find_asked.field-0.0 (λ rest l. HasLastsOf (Asks (Key key) l) rest l)
    (λ rest l. IsReadyFor rest (Key key) l) c.in_err-find_asked.ensures c.from_residual.result
    c.from_residual.ensures.1
