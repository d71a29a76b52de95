use Rattle.plan_store.specs.Contents.{content_of}
use Rattle.plan_store.specs.Parts.{HasBars}
use Rattle.plan_tables_windows.specs.Changes.{KnowsNamed}
use Rattle.plan_tables_windows.specs.Loading.{KnowsAll}
use Rattle.plan_tables_windows.proofs.FetchLemmas.{gathers_refused, gathers_so}
use Rattle.plan_tables_windows.proofs.needs.load_for_change.Goals as goal

pub returns : goal.returns
returns g c =
    let unknown = c.in_ok-unknown.unknown in
    let bounds = c.args.change.now.bounds in
    let was = content_of c.args.lists.now in
    let now = content_of c.find_named.new.lists in
    gathers_so g.S.Store c.args.conn.now c.find_named.new.conn was now c.find_named.result
    (λ rest l. HasBars bounds rest l × KnowsAll unknown.history.items unknown.deletions.items rest l)
    (λ rest l. KnowsNamed rest c.args.change.now l)
    (λ rest part sound more (both : HasBars bounds rest now × KnowsAll unknown.history.items unknown.deletions.items rest
    now). c.in_ok-unknown.ensures.finds rest now more ∣ part ∣₁ sound both.1.history both.1.deletions both.0)
    c.find_named.ensures

pub returns-in_err-unknown : goal.returns-in_err-unknown
returns-in_err-unknown g c = gathers_refused g.S.Store c.args.conn.now (content_of c.args.lists.now)
    (λ rest l. KnowsNamed rest c.args.change.now l) c.from_residual.result
    c.from_residual.ensures.1
