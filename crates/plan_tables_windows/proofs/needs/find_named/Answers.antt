use Rattle.plan_store.specs.Contents.{content_of}
use Rattle.plan_store.specs.Parts.{HasBars}
use Rattle.plan_tables_windows.specs.Loading.{KnowsAll}
use Rattle.plan_tables_windows.proofs.FetchLemmas.{gathers_stopped, gathers_then}
use Rattle.plan_tables_windows.proofs.NeedLemmas.{bars_still}
use Rattle.plan_tables_windows.proofs.needs.find_named.Goals as goal

pub returns : goal.returns
returns g c =
    let bounds = c.args.change.now.bounds in
    let completed = c.args.unknown.now.history.items in
    let deleted = c.args.unknown.now.deletions.items in
    let mid = content_of c.find_bars.new.lists in
    let now = content_of c.find_unknown.new.lists in
    gathers_then g.S.Store c.args.conn.now c.find_bars.new.conn c.find_unknown.new.conn (content_of c.args.lists.now) mid
    now c.find_unknown.result (HasBars bounds) (KnowsAll completed deleted)
    (λ rest l. HasBars bounds rest l × KnowsAll completed deleted rest l) c.in_ok-find_bars.ensures c.find_unknown.ensures
    (λ rest part more has knows. (bars_still bounds rest mid now more has, knows))

pub returns-in_err-find_bars : goal.returns-in_err-find_bars
returns-in_err-find_bars g c =
    let bounds = c.args.change.now.bounds in
    let completed = c.args.unknown.now.history.items in
    let deleted = c.args.unknown.now.deletions.items in
    gathers_stopped g.S.Store c.args.conn.now c.find_bars.new.conn (content_of c.args.lists.now)
    (content_of c.find_bars.new.lists) c.in_err-find_bars.field-0.0 (HasBars bounds)
    (λ rest l. HasBars bounds rest l × KnowsAll completed deleted rest l) c.in_err-find_bars.ensures c.from_residual.result
    c.from_residual.ensures.1
