use Rattle.std.proofs.Common.{Ok, take}
use Rattle.plan_store.specs.Contents.{content_of}
use Rattle.plan_tables_windows.specs.Loading.{IsAnswered}
use Rattle.plan_tables_windows.specs.Fetching.{Fetches}
use Rattle.plan_tables_windows.proofs.EachLemmas.{Each}
use Rattle.plan_tables_windows.proofs.lasts.find_lasts.Given as goal

-- those of the queries so far
abbrev pub invariant-loop-query : goal.invariant-loop-query
invariant-loop-query g l = Fetches {T = Unit {0}} g.S.Store l.initial.conn l.conn (content_of l.initial.lists)
    (content_of l.lists) (Ok tt) (Each IsAnswered (take l.query-index l.queries))
