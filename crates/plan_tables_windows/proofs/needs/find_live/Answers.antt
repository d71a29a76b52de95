use Rattle.plan_store.specs.HistoryReads.{ReadsKey}
use Rattle.plan_store.specs.Contents.{content_of}
use Rattle.plan_store.specs.Parts.{Knows}
use Rattle.plan_tables_windows.specs.Windows.{HasLastsOf, KnowsLive}
use Rattle.plan_tables_windows.proofs.EachLemmas.{Each, no_item}
use Rattle.plan_tables_windows.proofs.FetchLemmas.{gathers_refused, gathers_so}
use Rattle.plan_tables_windows.proofs.needs.find_live.Goals as goal

pub returns : goal.returns
returns g c =
    let key = c.args.key.now in
    let was = content_of c.args.lists.now in
    let now = content_of c.find_each_completed.new.lists in
    gathers_so g.S.Store c.args.conn.now c.find_each_completed.new.conn was now c.find_each_completed.result
    (Each (λ serial rest l. Knows rest l serial) c.in_ok-serials.serials.items)
    (λ rest l. HasLastsOf (ReadsKey was key) rest was → KnowsLive rest key l)
    (λ rest part sound more known. c.in_ok-serials.ensures.finds rest now more ∣ part ∣₁ sound known
    (λ serial there. absurd (no_item serial there)))
    (rw c.deref.ensures.value at c.find_each_completed.ensures)

pub returns-in_err-serials : goal.returns-in_err-serials
returns-in_err-serials g c =
    let was = content_of c.args.lists.now in
    gathers_refused g.S.Store c.args.conn.now was
    (λ rest l. HasLastsOf (ReadsKey was c.args.key.now) rest was → KnowsLive rest c.args.key.now l) c.from_residual.result
    c.from_residual.ensures.1
