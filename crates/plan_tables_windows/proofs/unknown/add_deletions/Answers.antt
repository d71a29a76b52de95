use Rattle.std.proofs.Common.{◌≡◌, ◌+◌, ◌++◌, ◌∷◌, ◌∙◌, ℕ, List, [], take, sym, ap, subst, arith}
use Rattle.std.proofs.lemmas.List.{take_all, take_more}
use Rattle.occurrences.specs.declared.place.Deletion.{Deletion}
use Rattle.plan_store_lists.specs.Rows.{of_deletion}
use Rattle.plan_store.specs.Contents.{content_of}
use Rattle.plan_tables_windows.specs.Unknown.{AddsUnsettled, IsSerialIn, is_settled_deletion}
use Rattle.plan_tables_windows.proofs.UnknownLemmas.{adds_begin, adds_more}
use Rattle.plan_tables_windows.proofs.unknown.add_deletions.Goals as goal

pub loop-deletion-init : goal.loop-deletion-init
loop-deletion-init c =
    adds_begin (is_settled_deletion (content_of c.args.lists.now).sets) (λ (deletion : Deletion) (n : ℕ). n ≡ deletion.row.serial) c.args.serials.now.items

-- one more
pub loop-deletion-preserved : goal.loop-deletion-preserved
loop-deletion-preserved c =
    let settled = is_settled_deletion (content_of c.args.lists.now).sets in
    let list = c.args.deletions.now in
    let one = c.deletion-item.result in
    let index = c.loop-deletion.deletion-index in
    let old = c.args.serials.now.items in
    let new = c.add_deletion.new.serials.items in
    let front : take (index + 1) list ≡ take index list ++ one ∷ [] = take_more list index one c.loop-deletion-test.true
    ∙ ap (λ x. take index list ++ x ∷ []) (sym c.deletion-item.is) in
    subst (λ (xs : List Deletion). AddsUnsettled settled (IsSerialIn of_deletion xs) old new) (sym front)
    (adds_more settled (λ (deletion : Deletion) (n : ℕ). n ≡ deletion.row.serial) (take index list) one old c.loop-deletion.serials.items new c.loop-deletion.invariant
    c.in_ok-add_deletion.ensures)

-- all
pub returns : goal.returns
returns c =
    subst (λ (xs : List Deletion). AddsUnsettled (is_settled_deletion (content_of c.args.lists.now).sets) (IsSerialIn of_deletion xs)
    c.args.serials.now.items c.loop-deletion.serials.items)
    (take_all c.loop-deletion.deletion-index c.args.deletions.now (omega arith)) c.loop-deletion.invariant
