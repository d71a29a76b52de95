use Rattle.std.proofs.Common.{ℕ, List, subst}
use Rattle.external_dependencies.specs.declared.pairs.Pair.{Pair}
use Rattle.plan_store_lists.specs.Rows.{of_current, of_row}
use Rattle.occurrences.specs.declared.place.CurrentRow.{CurrentRow}
use Rattle.occurrences.specs.declared.row.Row.{Row}
use Rattle.plan_store.specs.Contents.{content_of}
use Rattle.plan_tables_windows.specs.Unknown.{AddsUnsettled, IsPredecessorIn, IsPredecessorOfNew, IsSerialIn, is_settled}
use Rattle.plan_tables_windows.proofs.UnknownLemmas.{adds_named}
use Rattle.plan_tables_windows.proofs.unknown.unknown_history.Goals as goal

pub returns : goal.returns
returns c =
    let content = content_of c.args.lists.now in
    let settled = is_settled content.sets in
    let change = c.args.change.now in
    let none = c.new-serials.result.items in
    let a = c.add_rows.new.serials.items in
    let b = c.add_rows-2.new.serials.items in
    let d = c.add_predecessors.new.serials.items in
    let e = c.add_of_new.new.serials.items in
    let f = c.add_of_new-2.new.serials.items in
    let gone_in = subst (λ (xs : List Row). AddsUnsettled settled (IsSerialIn of_row xs) none a) c.deref.ensures.value
    c.in_ok-add_rows.ensures in
    let gone = subst (λ (old : List ℕ). AddsUnsettled settled (IsSerialIn of_row change.history.gone.items) old a)
    c.new-serials.ensures.items gone_in in
    let changed = subst (λ (xs : List Row). AddsUnsettled settled (IsSerialIn of_row xs) a b) c.deref-2.ensures.value
    c.in_ok-add_rows-2.ensures in
    let added = subst (λ (ps : List Pair). AddsUnsettled settled (IsPredecessorIn ps) b d) c.as_slice.ensures.all
    c.in_ok-add_predecessors.ensures in
    let ltp = subst (λ (xs : List Row). AddsUnsettled settled (IsPredecessorOfNew of_row content xs) d e)
    c.deref-3.ensures.value c.in_ok-add_of_new.ensures in
    let cp = subst (λ (xs : List CurrentRow). AddsUnsettled settled (IsPredecessorOfNew of_current content xs) e f)
    c.deref-4.ensures.value c.in_ok-add_of_new-2.ensures in
    adds_named settled content change a b d e f gone changed added ltp cp
