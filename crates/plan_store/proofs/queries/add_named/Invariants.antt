use Rattle.std.proofs.Common.{◌+◌, take}
use Rattle.app_definition_records.specs.declared.predecessors.Predecessor.{Predecessor}
use Rattle.plan_store.specs.Queries.{AddsQueries, IsAsked, ReadByOne}
use Rattle.plan_store.proofs.queries.add_named.Given as goal

-- those of the predecessors so far
abbrev pub invariant-loop-predecessor : goal.invariant-loop-predecessor
invariant-loop-predecessor l = AddsQueries (ReadByOne (λ (p : Predecessor). IsAsked p.name (l.moment + 1))
    (take l.predecessor-index l.listed)) l.initial.queries.items l.queries.items
