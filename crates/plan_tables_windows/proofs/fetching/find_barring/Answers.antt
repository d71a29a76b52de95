use Rattle.std.proofs.Common.{subst}
use Rattle.plan_store.specs.Contents.{content_of}
use Rattle.plan_tables_windows.specs.Loading.{HasGoneFrom}
use Rattle.plan_tables_windows.specs.Fetching.{Fetches}
use Rattle.plan_tables_windows.proofs.BarLemmas.{gathers_bars}
use Rattle.plan_tables_windows.proofs.FetchLemmas.{gathers_failed}
use Rattle.plan_tables_windows.proofs.fetching.find_barring.Goals as goal

pub returns : goal.returns
returns g c =
    subst (λ m. Fetches {T = Unit {0}} g.S.Store c.args.conn.now c.deletions_from.new.conn
    (content_of c.args.lists.now) (content_of c.load_deletions.new.lists) c.load_deletions.result (HasGoneFrom m))
    c.number.ensures.value
    (gathers_bars g.S.Store c.args.conn.now c.deletions_from.new.conn c.number.result c.in_ok-deletions.deletions (λ v. v.items)
    (content_of c.args.lists.now) (content_of c.load_deletions.new.lists) c.load_deletions.result
    (rw c.deref.ensures.value at c.load_deletions.ensures) c.in_ok-deletions.ensures)

pub returns-in_err-deletions : goal.returns-in_err-deletions
returns-in_err-deletions g c =
    gathers_failed g.S.Store c.args.conn.now c.deletions_from.new.conn _ (content_of c.args.lists.now)
    (HasGoneFrom c.args.moment) c.in_err-deletions.field-0.0 c.in_err-deletions.ensures c.from_residual.result
    c.from_residual.ensures.1
