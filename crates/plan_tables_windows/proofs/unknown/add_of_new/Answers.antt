use Rattle.std.proofs.Common.{◌≡◌, ◌+◌, ◌++◌, ◌∷◌, ◌∙◌, ℕ, List, [], false, take, sym, ap, subst, arith}
use Rattle.std.proofs.lemmas.List.{take_all, take_more}
use Rattle.occurrences.specs.declared.row.Row.{Row}
use Rattle.plan_store.specs.Contents.{content_of}
use Rattle.plan_tables_windows.specs.Unknown.{AddsUnsettled, IsPredecessorOf, IsPredecessorOfNew, is_elsewhere, is_settled}
use Rattle.plan_tables_windows.proofs.UnknownLemmas.{adds_if, adds_if_not, adds_more}
use Rattle.plan_tables_windows.proofs.unknown.add_of_new.Goals as goal
use Rattle.plan_tables_windows.proofs.unknown.add_of_new.Goals.{then-not-is_elsewhere+in_ok-add_predecessors_of}
use Rattle.plan_tables_windows.proofs.unknown.add_of_new.Goals.{else-not-is_elsewhere}

-- one more
pub loop-row-preserved : goal.loop-row-preserved
loop-row-preserved g c =
    let row_of = g.T.PlanRow.row_of in
    let content = content_of c.args.lists.now in
    let settled = is_settled content.sets in
    let list = c.args.rows.now in
    let one = c.row-item.result in
    let index = c.loop-row.row-index in
    let first = c.args.serials.now.items in
    let old = c.loop-row.serials.items in
    let front : take (index + 1) list ≡ take index list ++ one ∷ [] = take_more list index one c.loop-row-test.true
    ∙ ap (λ x. take index list ++ x ∷ []) (sym c.row-item.is) in
    let serial_is : c.row-serial.result.serial ≡ (row_of one).serial = ap (λ (row : Row). row.serial) c.row-serial.ensures
    in
    let test_is : c.is_elsewhere.result ≡ is_elsewhere content.sets (row_of one).serial =
    subst (λ n. c.is_elsewhere.result ≡ is_elsewhere content.sets n) serial_is c.is_elsewhere.ensures in
    let Names = λ (x : g.row.T.Denot) (n : ℕ). (is_elsewhere content.sets (row_of x).serial ≡ false)
    × IsPredecessorOf content (row_of x).serial n in
    let step : AddsUnsettled settled (Names one) old c.if-not-is_elsewhere.serials.items = elim c.if-not-is_elsewhere.branch [
      | then-not-is_elsewhere+in_ok-add_predecessors_of w ↦
          let adds = subst (λ n. AddsUnsettled settled (IsPredecessorOf content n) old
          w.add_predecessors_of.new.serials.items) serial_is w.in_ok-add_predecessors_of.ensures in
          rw w.serials-is (adds_if settled (IsPredecessorOf content (row_of one).serial) old
          w.add_predecessors_of.new.serials.items (is_elsewhere content.sets (row_of one).serial)
          (sym test_is ∙ w.if-not-is_elsewhere.true) adds)
      | else-not-is_elsewhere w ↦ rw w.serials-is (adds_if_not settled (IsPredecessorOf content (row_of one).serial) old
          (is_elsewhere content.sets (row_of one).serial) (sym test_is ∙ w.if-not-is_elsewhere.false))
    ] in
    subst (λ (xs : List g.row.T.Denot). AddsUnsettled settled (IsPredecessorOfNew row_of content xs) first
    c.if-not-is_elsewhere.serials.items) (sym front)
    (adds_more settled Names (take index list) one first old c.if-not-is_elsewhere.serials.items c.loop-row.invariant
    step)

-- all
pub returns : goal.returns
returns g c =
    let content = content_of c.args.lists.now in
    subst (λ (xs : List g.row.T.Denot). AddsUnsettled (is_settled content.sets) (IsPredecessorOfNew g.T.PlanRow.row_of content xs)
    c.args.serials.now.items c.loop-row.serials.items)
    (take_all c.loop-row.row-index c.args.rows.now (omega arith)) c.loop-row.invariant
