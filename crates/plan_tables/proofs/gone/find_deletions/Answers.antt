use Rattle.std.proofs.Common.{◌≡◌, ◌+◌, ◌++◌, ◌∷◌, ◌∙◌, [], ap, sym, take}
use Rattle.std.proofs.lemmas.List.{take_more}
use Rattle.planner_machine.specs.Content.{Content}
use Rattle.plan_tables.specs.Gone.{of_arrival, of_arrivals}
use Rattle.plan_tables.proofs.GoneLemmas.{of_more}
use Rattle.plan_tables.proofs.ListLemmas.{finds_as, finds_both, finds_second}
use Rattle.plan_tables.proofs.gone.find_deletions.Goals as goal

-- one more arrival
pub loop-arrival-preserved : goal.loop-arrival-preserved
loop-arrival-preserved g c =
    let first = c.args.first.now in
    let rest = c.args.rest.now in
    let index = c.loop-arrival.arrival-index in
    let arrival = c.arrival-item.result in
    let old = c.loop-arrival.found.items in
    let new = c.add_deletion-in-loop-arrival.new.found.items in
    let front : take (index + 1) rest ≡ take index rest ++ arrival ∷ [] =
    take_more rest index arrival c.loop-arrival-test.true ∙ ap (λ x. take index rest ++ x ∷ []) (sym c.arrival-item.is) in
    let So = λ (k : Content) (_ : Unit {0}). old ≡ of_arrivals k.sets.deletions (first ∷ take index rest) in
    let Adds = λ (k : Content) (_ : Unit {0}). new ≡ old ++ of_arrival arrival (k.sets.deletions arrival.serial) in
    finds_as g.S.Store c.args.conn.now c.add_deletion-in-loop-arrival.new.conn (tt, tt) tt
    (λ k both. So k both.0 × Adds k both.1)
    (λ (k : Content) _. new ≡ of_arrivals k.sets.deletions (first ∷ take (index + 1) rest))
    (finds_both g.S.Store c.args.conn.now c.loop-arrival.conn c.add_deletion-in-loop-arrival.new.conn tt So Adds
    c.loop-arrival.invariant tt c.in_ok-add_deletion-2.ensures)
    (λ k _ both. both.1 ∙ ap (λ l. l ++ of_arrival arrival (k.sets.deletions arrival.serial)) both.0
    ∙ sym (of_more k.sets.deletions (first ∷ take index rest) arrival)
    ∙ ap (λ l. of_arrivals k.sets.deletions (first ∷ l)) (sym front))

pub returns-in_err-add_deletion-2 : goal.returns-in_err-add_deletion-2
returns-in_err-add_deletion-2 g c =
    finds_second g.S.Store c.args.conn.now c.loop-arrival.conn c.add_deletion-in-loop-arrival.new.conn tt
    (λ (k : Content) (_ : Unit {0}). c.loop-arrival.found.items
    ≡ of_arrivals k.sets.deletions (c.args.first.now ∷ take c.loop-arrival.arrival-index c.args.rest.now)) _
    c.loop-arrival.invariant _ c.in_err-add_deletion-2.field-0.0 c.in_err-add_deletion-2.ensures
    c.from_residual-in_err-add_deletion-2.result c.from_residual-in_err-add_deletion-2.ensures.1
