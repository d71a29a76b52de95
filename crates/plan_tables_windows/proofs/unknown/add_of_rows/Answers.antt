use Rattle.std.proofs.Common.{◌≡◌, ◌+◌, ◌++◌, ◌∷◌, ◌∙◌, ℕ, List, [], take, sym, ap, subst, arith}
use Rattle.std.proofs.lemmas.List.{take_all, take_more}
use Rattle.occurrences.specs.declared.row.Row.{Row}
use Rattle.plan_store.specs.Contents.{content_of}
use Rattle.plan_tables_windows.specs.Unknown.{AddsUnsettled, IsPredecessorOf, IsPredecessorOfRow, is_settled}
use Rattle.plan_tables_windows.proofs.UnknownLemmas.{adds_begin, adds_more}
use Rattle.plan_tables_windows.proofs.unknown.add_of_rows.Goals as goal

pub loop-row-init : goal.loop-row-init
loop-row-init c =
    let content = content_of c.args.lists.now in
    adds_begin (is_settled content.sets) (λ (row : Row) (n : ℕ). IsPredecessorOf content row.serial n)
    c.args.serials.now.items

-- one more
pub loop-row-preserved : goal.loop-row-preserved
loop-row-preserved c =
    let content = content_of c.args.lists.now in
    let settled = is_settled content.sets in
    let list = c.args.rows.now in
    let one = c.row-item.result in
    let index = c.loop-row.row-index in
    let old = c.args.serials.now.items in
    let new = c.add_predecessors_of.new.serials.items in
    let front : take (index + 1) list ≡ take index list ++ one ∷ [] = take_more list index one c.loop-row-test.true
    ∙ ap (λ x. take index list ++ x ∷ []) (sym c.row-item.is) in
    subst (λ (xs : List Row). AddsUnsettled settled (IsPredecessorOfRow content xs) old new) (sym front)
    (adds_more settled (λ (row : Row) (n : ℕ). IsPredecessorOf content row.serial n) (take index list) one old
    c.loop-row.serials.items new c.loop-row.invariant c.in_ok-add_predecessors_of.ensures)

-- all
pub returns : goal.returns
returns c =
    let content = content_of c.args.lists.now in
    subst (λ (xs : List Row). AddsUnsettled (is_settled content.sets) (IsPredecessorOfRow content xs)
    c.args.serials.now.items c.loop-row.serials.items)
    (take_all c.loop-row.row-index c.args.rows.now (omega arith)) c.loop-row.invariant
