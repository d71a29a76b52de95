use Rattle.std.proofs.Common.{◌≡◌, ◌+◌, ◌++◌, ◌∷◌, ◌∙◌, ℕ, List, [], take, sym, ap, subst, arith}
use Rattle.std.proofs.lemmas.List.{take_all, take_more}
use Rattle.occurrences.specs.declared.row.Row.{Row}
use Rattle.plan_store_lists.specs.Rows.{of_row}
use Rattle.plan_store.specs.Contents.{content_of}
use Rattle.plan_tables_windows.specs.Unknown.{AddsUnsettled, IsSerialIn, is_settled}
use Rattle.plan_tables_windows.proofs.UnknownLemmas.{adds_begin, adds_more}
use Rattle.plan_tables_windows.proofs.unknown.add_rows.Goals as goal

pub loop-row-init : goal.loop-row-init
loop-row-init c =
    adds_begin (is_settled (content_of c.args.lists.now).sets) (λ (row : Row) (n : ℕ). n ≡ row.serial) c.args.serials.now.items

-- one more
pub loop-row-preserved : goal.loop-row-preserved
loop-row-preserved c =
    let settled = is_settled (content_of c.args.lists.now).sets in
    let list = c.args.rows.now in
    let one = c.row-item.result in
    let index = c.loop-row.row-index in
    let old = c.args.serials.now.items in
    let new = c.add_serial.new.serials.items in
    let front : take (index + 1) list ≡ take index list ++ one ∷ [] = take_more list index one c.loop-row-test.true
    ∙ ap (λ x. take index list ++ x ∷ []) (sym c.row-item.is) in
    subst (λ (xs : List Row). AddsUnsettled settled (IsSerialIn of_row xs) old new) (sym front)
    (adds_more settled (λ (row : Row) (n : ℕ). n ≡ row.serial) (take index list) one old c.loop-row.serials.items new c.loop-row.invariant
    c.in_ok-add_serial.ensures)

-- all
pub returns : goal.returns
returns c =
    subst (λ (xs : List Row). AddsUnsettled (is_settled (content_of c.args.lists.now).sets) (IsSerialIn of_row xs)
    c.args.serials.now.items c.loop-row.serials.items)
    (take_all c.loop-row.row-index c.args.rows.now (omega arith)) c.loop-row.invariant
