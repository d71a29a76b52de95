use Rattle.std.proofs.Common.{◌+◌, ◌++◌, ℕ, List}
use Rattle.app_definition_records.specs.ByName.{AreEntriesOf}
use Rattle.app_definition_records.specs.declared.predecessors.Predecessor.{Predecessor}
use Rattle.plan_store.specs.Queries.{AddsQueries, ReadByOne}
use Rattle.plan_store.proofs.QueryLemmas.{ReadsEntry}
use Rattle.plan_store.proofs.queries.add_all_defined.Given as goal

-- those of the entries so far, before those that are left
abbrev pub invariant-loop-app : goal.invariant-loop-app
invariant-loop-app l = (done : List (List ℕ × List Predecessor))
    × AreEntriesOf (done ++ l._app-iterator) l.definitions.predecessors
    × AddsQueries (ReadByOne (ReadsEntry (l.moment + 1)) done) l.initial.queries.items l.queries.items
