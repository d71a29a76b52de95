use Rattle.std.proofs.Common.{◌∙◌, Ok, Some, sym}
use Rattle.plan_store.specs.Contents.{content_of}
use Rattle.plan_store.specs.Parts.{HasBars}
use Rattle.plan_tables_windows.proofs.FetchLemmas.{gathers_none}
use Rattle.plan_tables_windows.proofs.NeedLemmas.{bars_by}
use Rattle.plan_tables_windows.proofs.needs.find_bars_from.Goals as goal

pub returns-then-ends_by : goal.returns-then-ends_by
returns-then-ends_by g c =
    let lists = content_of c.args.lists.now in
    gathers_none g.S.Store c.args.conn.now lists (Ok tt) (HasBars (Some c.args.bounds)) tt
    (λ rest part sound. bars_by lists.sets.bounds c.args.bounds rest lists (sym c.ends_by.ensures ∙ c.if-ends_by.true)
    part.bars)
