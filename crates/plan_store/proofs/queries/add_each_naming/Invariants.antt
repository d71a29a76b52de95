use Rattle.std.proofs.Common.{take}
use Rattle.plan_store_lists.specs.declared.namings.Naming.{Naming}
use Rattle.plan_store.specs.Contents.{content_of}
use Rattle.plan_store.specs.HistoryReads.{ReadsNaming}
use Rattle.plan_store.specs.Queries.{AddsQueries, ReadByOne}
use Rattle.plan_store.proofs.queries.add_each_naming.Given as goal

-- those of the applications so far
abbrev pub invariant-loop-naming : goal.invariant-loop-naming
invariant-loop-naming l = AddsQueries
    (ReadByOne (λ (naming : Naming). ReadsNaming (content_of l.lists) naming.link.app)
    (take l.naming-index l.namings)) l.initial.queries.items l.queries.items
