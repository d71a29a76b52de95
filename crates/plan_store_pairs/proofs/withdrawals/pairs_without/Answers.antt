use Rattle.std.proofs.Common.{◌≡◌, ◌++◌, ◌∙◌, List, [], ap, subst, sym}
use Rattle.external_dependencies.specs.declared.change.PairChange.{PairChange}
use Rattle.external_dependencies.specs.declared.pairs.Pair.{Pair}
use Rattle.external_dependencies.specs.declared.rows.PlacedRow.{PlacedRow}
use Rattle.plan_store.specs.HistoryReads.{ReadsKey}
use Rattle.plan_store.specs.Views.{shown, with_hidden}
use Rattle.plan_store.proofs.WindowLemmas.{shows_part}
use Rattle.plan_store_pairs.specs.Gathering.{AddsEach, AreReached}
use Rattle.plan_store_pairs.specs.Withdrawals.{IsBackPair, IsLostPair}
use Rattle.plan_store_pairs.proofs.ReadLemmas.{live_not_past, shows_earlier}
use Rattle.plan_store_pairs.proofs.GoesLemmas.{lost_more, lost_stands, pairs_go, turns_from}
use Rattle.plan_store_pairs.proofs.withdrawals.pairs_without.Goals as goal

pub returns : goal.returns
returns c h sound sees s loses =
    let content = with_hidden h c.args.view.now in
    let row = c.args.row.now in
    let view = c.args.view.now in
    let place = loses.placed.place in
    let itself : PlacedRow = record { row = row; place = place } in
    let stands = lost_stands content sound s row loses in
    let more = lost_more content sound s row loses in
    let past = live_not_past content sound itself stands loses.lived loses.planned in
    let part = shows_part (ReadsKey content row.key) h view sees in
    let before = c.previous-before.result in
    let last = c.previous-before.ensures h sound.serials part (shows_earlier h view row.key sees past) in
    let found = c.deref.result.now in
    let are : AreReached content row found = subst (AreReached content row) (sym c.deref.ensures.value)
    (c.in_ok-found.ensures h sound.serials) in
    let pairs = (shown view).pairs in
    let own = c.pairs_of_successor.result.now in
    let removed = c.turn_each.new.removed.items in
    let added = c.turn_each.new.added.items in
    let begun : c.extend_from_slice.new.self.items ≡ own =
    c.in_ok-extend_from_slice.ensures.items ∙ ap (λ (ps : List Pair). ps ++ own) c.new-removed.ensures.items in
    let lost : AddsEach (IsLostPair pairs row) found own removed =
    subst (λ (ps : List Pair). AddsEach (IsLostPair pairs row) found ps removed) begun
    c.in_ok-turn_each.ensures.removed in
    let back : AddsEach (IsBackPair pairs row before) found [] added =
    subst (λ (ps : List Pair). AddsEach (IsBackPair pairs row before) found ps added) c.new-added.ensures.items
    c.in_ok-turn_each.ensures.added in
    let change : PairChange = record { removed = c.from_vec.result; added = c.from_vec-2.result } in
    let turns = turns_from content sound row place s more before pairs sees.pairs found are own removed
    added c.pairs_of_successor.ensures.all lost back change c.from_vec.ensures c.from_vec-2.ensures last in
    pairs_go content sound are.once s row place more before change turns
