use Rattle.std.proofs.Common.{Ok, Option, Some, subst, sym}
use Rattle.planner_machine.specs.declared.content.Bounds.{Bounds}
use Rattle.plan_store.specs.Contents.{content_of}
use Rattle.plan_store.specs.Parts.{HasBars}
use Rattle.plan_tables_windows.specs.Fetching.{Fetches}
use Rattle.plan_tables_windows.proofs.FetchLemmas.{gathers_none}
use Rattle.plan_tables_windows.proofs.NeedLemmas.{no_bars}
use Rattle.plan_tables_windows.proofs.needs.find_bars.Goals as goal

pub returns-in-Some : goal.returns-in-Some
returns-in-Some g c =
    subst (λ (o : Option Bounds). Fetches g.S.Store c.args.conn.now c.find_bars_from.new.conn (content_of c.args.lists.now)
    (content_of c.find_bars_from.new.lists) c.find_bars_from.result (HasBars o)) (sym c.in-Some.is)
    c.find_bars_from.ensures

pub returns-in-None : goal.returns-in-None
returns-in-None g c =
    gathers_none g.S.Store c.args.conn.now (content_of c.args.lists.now) (Ok tt) (HasBars c.args.bounds) tt
    (λ rest part sound. no_bars c.args.bounds rest (content_of c.args.lists.now) c.in-None.is)
