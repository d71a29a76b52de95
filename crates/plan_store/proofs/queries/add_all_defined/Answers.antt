use Rattle.std.proofs.Common.{◌+◌, ◌∙◌, ap, sym, subst, append_assoc, ℕ, List, [], ◌∷◌, ◌++◌}
use Rattle.std.proofs.lemmas.List.{append-nil}
use Rattle.app_definition_records.specs.ByName.{AreEntriesOf}
use Rattle.app_definition_records.specs.declared.predecessors.Predecessor.{Predecessor}
use Rattle.plan_store.specs.Queries.{AddsQueries, IsAsked, ReadByOne}
use Rattle.plan_store.proofs.QueryLemmas.{ReadsEntry, asks_entries, asks_more, no_entries}
use Rattle.plan_store.proofs.queries.add_all_defined.Goals as goal

pub loop-app-init : goal.loop-app-init
loop-app-init c = (
  [],
  rw c.into_iter-app-iterator.ensures.into_iter_gives c.iter-app-items.ensures,
  no_entries (c.args.moment + 1) c.args.queries.now.items,
)

-- one more list
pub loop-app-preserved : goal.loop-app-preserved
loop-app-preserved c =
    let minute = c.args.moment + 1 in
    let done = c.loop-app.invariant.0 in
    let listed = c.in-Some.listed.now in
    let entry : List ℕ × List Predecessor = (c.in-Some._app.now, listed) in
    let moved = ap (λ l. done ++ l) c.in-Some.ensures.steps ∙ sym (append_assoc done (entry ∷ []) c.next.new.self) in
    let step = subst (λ (ps : List Predecessor). AddsQueries (ReadByOne (λ (p : Predecessor). IsAsked p.name minute) ps)
    c.loop-app.queries.items c.add_named.new.queries.items) c.as_slice.ensures.value c.in_ok-add_named.ensures in (
      done ++ entry ∷ [],
      subst (λ l. AreEntriesOf l c.args.definitions.now.predecessors) moved c.loop-app.invariant.1,
      asks_more (ReadsEntry minute) done entry c.args.queries.now.items c.loop-app.queries.items
          c.add_named.new.queries.items c.loop-app.invariant.2 step,
    )

-- all lists
pub returns : goal.returns
returns c =
    let done = c.loop-app.invariant.0 in
    let all : AreEntriesOf done c.args.definitions.now.predecessors =
    subst (λ l. AreEntriesOf l c.args.definitions.now.predecessors)
    (ap (λ l. done ++ l) c.in-None.ensures.steps.0 ∙ append-nil done) c.loop-app.invariant.1 in
    asks_entries c.args.definitions.now done (c.args.moment + 1) c.args.queries.now.items
    c.loop-app.queries.items all c.loop-app.invariant.2
