use Rattle.std.proofs.Common.{◌≡◌, ◌≢◌, ◌+◌, ◌++◌, ◌∷◌, ◌∙◌, List, [], take, sym, ap, subst, arith, rules}
use Rattle.std.proofs.lemmas.List.{take_all, take_more}
use Rattle.occurrences.specs.declared.place.CurrentRow.{CurrentRow}
use Rattle.occurrences.specs.declared.status.Status.TheVariants.{W}
use Rattle.plan_store.specs.Queries.{AddsQueries, ReadByOne, ReadsRow}
use Rattle.plan_store.proofs.QueryLemmas.{asks_more, asks_row, asks_skip}
use Rattle.plan_store.proofs.queries.add_waiting.Goals as goal
use Rattle.plan_store.proofs.queries.add_waiting.Goals.{then-eq+in_ok-add_list+in_ok-add_defined, else-eq}

-- one more row
pub loop-current-preserved : goal.loop-current-preserved
loop-current-preserved c =
    let links = c.args.in_force.now.items in
    let all = c.args.definitions.now in
    let list = c.args.rows.now in
    let current = c.current-item.result in
    let index = c.loop-current.current-index in
    let first = c.args.queries.now.items in
    let old = c.loop-current.queries.items in
    let front : take (index + 1) list ≡ take index list ++ current ∷ [] =
    take_more list index current c.loop-current-test.true
    ∙ ap (λ x. take index list ++ x ∷ []) (sym c.current-item.is) in
    let more : AddsQueries (ReadByOne (ReadsRow links all) (take index list ++ current ∷ [])) first
    c.if-eq.queries.items = elim c.if-eq.branch [
      | then-eq+in_ok-add_list+in_ok-add_defined w ↦
          let waits : current.status ≡ W = search rules in
          let new = w.add_defined.new.queries.items in
          rw w.queries-is (asks_more (ReadsRow links all) (take index list) current first old new
          c.loop-current.invariant (asks_row links all current old w.add_list.new.queries.items new waits
          w.in_ok-add_list.ensures w.in_ok-add_defined.ensures))
      | else-eq w ↦
          let other : current.status ≢ W = search rules in
          rw w.queries-is (asks_skip (ReadsRow links all) (take index list) current first old
          (λ app minute asked. other asked.0) c.loop-current.invariant)
    ] in
    subst (λ (xs : List CurrentRow). AddsQueries (ReadByOne (ReadsRow links all) xs) first c.if-eq.queries.items)
    (sym front) more

-- all rows
pub returns : goal.returns
returns c =
    subst (λ (xs : List CurrentRow). AddsQueries (ReadByOne (ReadsRow c.args.in_force.now.items c.args.definitions.now) xs)
    c.args.queries.now.items c.loop-current.queries.items)
    (take_all c.loop-current.current-index c.args.rows.now (omega arith)) c.loop-current.invariant
