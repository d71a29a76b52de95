use Rattle.std.proofs.Common.{◌≡◌, ◌+◌, ◌++◌, ◌∷◌, ◌∙◌, ℕ, List, [], Ok, ap, arith, subst, sym, take}
use Rattle.std.specs.Prelude.{option_to_list}
use Rattle.std.proofs.lemmas.List.{take_all, take_more}
use Rattle.planner_machine.specs.Content.{Content}
use Rattle.plan_store.specs.Contents.{content_of}
use Rattle.plan_store.specs.Ends.{HasFound}
use Rattle.plan_tables_queries.specs.Finding.{FindsFact}
use Rattle.plan_tables_queries.specs.OfApp.{AreAllOf}
use Rattle.plan_tables.proofs.EndLemmas.{Found, finds_ends, found_again, found_begin, found_more, own_serial}
use Rattle.plan_tables.proofs.ListLemmas.{finds_as, finds_both, finds_not, finds_second, finds_short}
use Rattle.plan_tables.proofs.ends.find_ends.Goals as goal
use Rattle.plan_tables.proofs.ends.find_ends.Goals.{else-not-ends_with, then-not-ends_with+in_ok-add_completed}

pub returns-in_err-found-clause-found : goal.returns-in_err-found-clause-found
returns-in_err-found-clause-found g c =
    finds_not g.S.Store c.args.conn.now c.find_of_app.new.conn c.in_err-found.field-0.0 _ _ c.in_err-found.ensures.found c.from_residual.result
    c.from_residual.ensures.1

pub returns-in_err-serials-clause-found : goal.returns-in_err-serials-clause-found
returns-in_err-serials-clause-found g c =
    finds_short g.S.Store c.args.conn.now c.find_of_app.new.conn c.in_ok-found.found _ _ c.in_ok-found.ensures.found
    c.from_residual-in_err-serials.result c.from_residual-in_err-serials.ensures.1

-- the application's rows
pub loop-serial-init : goal.loop-serial-init
loop-serial-init g c =
    let app = c.args.app.now in
    let first = c.in_ok-found.found.items in
    finds_as g.S.Store c.args.conn.now c.find_of_app.new.conn c.in_ok-found.found tt
    (λ (k : Content) rows. AreAllOf k.sets.history app rows.items) (λ (k : Content) _. Found app first [] first k)
    c.in_ok-found.ensures.found (λ k _ all. found_begin app first k all)

-- one more serial
pub loop-serial-preserved : goal.loop-serial-preserved
loop-serial-preserved g c =
    let app = c.args.app.now in
    let first = c.in_ok-found.found.items in
    let all = c.deref-serial-items.result.now in
    let index = c.loop-serial.serial-index in
    let serial = c.serial-item.result in
    let old = c.loop-serial.found.items in
    let front : take (index + 1) all ≡ take index all ++ serial ∷ [] =
    take_more all index serial c.loop-serial-test.true ∙ ap (λ x. take index all ++ x ∷ []) (sym c.serial-item.is) in
    let So = λ (k : Content) (_ : Unit {0}). Found app first (take index all) old k in
    subst (λ (l : List ℕ). FindsFact {T = Unit {0}} g.S.Store c.args.conn.now c.if-not-ends_with.conn (Ok tt)
    (λ k _. Found app first l c.if-not-ends_with.found.items k)) (sym front)
    (elim c.if-not-ends_with.branch [
      | then-not-ends_with+in_ok-add_completed w ↦
          let new = w.add_completed.new.found.items in
          let Adds = λ (k : Content) (_ : Unit {0}). new ≡ old ++ option_to_list (k.sets.history serial) in
          rw (w.conn-is, w.found-is) (finds_as g.S.Store c.args.conn.now w.add_completed.new.conn (tt, tt) tt
          (λ k both. So k both.0 × Adds k both.1)
          (λ (k : Content) _. Found app first (take index all ++ serial ∷ []) new k)
          (finds_both g.S.Store c.args.conn.now c.loop-serial.conn w.add_completed.new.conn tt So Adds
          c.loop-serial.invariant tt w.in_ok-add_completed.ensures) (λ k sound both. found_more app first old
          (take index all) serial k (own_serial k sound) both.0 new both.1))
      | else-not-ends_with w ↦ rw (w.conn-is, w.found-is) (finds_as
          g.S.Store c.args.conn.now c.loop-serial.conn tt tt So
          (λ (k : Content) _. Found app first (take index all ++ serial ∷ []) old k) c.loop-serial.invariant
          (λ k sound so. found_again app first old (take index all) serial k (own_serial k sound) so
          (rw c.deref-in-loop-serial.ensures.value at c.ends_with.ensures w.if-not-ends_with.false)))
    ])

pub returns-in_err-add_completed-clause-found : goal.returns-in_err-add_completed-clause-found
returns-in_err-add_completed-clause-found g c =
    finds_second g.S.Store c.args.conn.now c.loop-serial.conn c.add_completed.new.conn tt
    (λ (k : Content) (_ : Unit {0}). Found c.args.app.now c.in_ok-found.found.items
    (take c.loop-serial.serial-index c.deref-serial-items.result.now) c.loop-serial.found.items k) _
    c.loop-serial.invariant _ c.in_err-add_completed.field-0.0 c.in_err-add_completed.ensures
    c.from_residual-in_err-add_completed.result c.from_residual-in_err-add_completed.ensures.1

-- all serials
pub returns-clause-found : goal.returns-clause-found
returns-clause-found g c =
    let app = c.args.app.now in
    let lists = content_of c.args.lists.now in
    let first = c.in_ok-found.found.items in
    let serials = c.in_ok-serials.serials.items in
    let found = c.loop-serial.found.items in
    let sorted = c.sort_by_serial.new.rows in
    let all = c.deref-serial-items.result.now in
    let front = take_all c.loop-serial.serial-index all (omega arith) ∙ c.deref-serial-items.ensures.value in
    let lacks = rw c.deref.ensures.value at c.in_ok-serials.ensures in
    finds_as g.S.Store c.args.conn.now c.loop-serial.conn tt sorted
    (λ (k : Content) (_ : Unit {0}). Found app first (take c.loop-serial.serial-index all) found k)
    (λ (k : Content) rows. HasFound app lists k.sets.history rows.items) c.loop-serial.invariant
    (λ k sound is. finds_ends app lists k sound first found sorted.items serials c.in_ok-found.ensures.sorted lacks
    (subst (λ (l : List ℕ). Found app first l found k) front is) c.sort_by_serial.ensures.same)
