use Rattle.std.proofs.Common.{ℕ, List, [], subst}
use Rattle.plan_store_lists.specs.Rows.{of_deletion}
use Rattle.occurrences.specs.declared.place.Deletion.{Deletion}
use Rattle.plan_store.specs.Contents.{content_of}
use Rattle.plan_tables_windows.specs.Unknown.{AddsUnsettled, IsSerialIn, is_settled_deletion}
use Rattle.plan_tables_windows.proofs.UnknownLemmas.{adds_then}
use Rattle.plan_tables_windows.proofs.unknown.unknown_deletions.Goals as goal

pub returns : goal.returns
returns c =
    let settled = is_settled_deletion (content_of c.args.lists.now).sets in
    let moves = c.args.change.now.deletions in
    let none = c.new-serials.result.items in
    let a = c.add_deletions.new.serials.items in
    let b = c.add_deletions-2.new.serials.items in
    let gone_in = subst (λ (xs : List Deletion). AddsUnsettled settled (IsSerialIn of_deletion xs) none a)
    c.deref.ensures.value c.in_ok-add_deletions.ensures in
    let gone = subst (λ (old : List ℕ). AddsUnsettled settled (IsSerialIn of_deletion moves.gone.items) old a)
    c.new-serials.ensures.items gone_in in
    let changed = subst (λ (xs : List Deletion). AddsUnsettled settled (IsSerialIn of_deletion xs) a b)
    c.deref-2.ensures.value c.in_ok-add_deletions-2.ensures in
    adds_then settled (IsSerialIn of_deletion moves.gone.items) (IsSerialIn of_deletion moves.changed.items) [] a b gone
    changed
