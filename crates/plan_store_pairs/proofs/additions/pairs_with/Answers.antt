use Rattle.std.proofs.Common.{◌∷◌, List, [], subst, sym}
use Rattle.external_dependencies.specs.declared.change.PairChange.{PairChange}
use Rattle.external_dependencies.specs.declared.pairs.Pair.{Pair}
use Rattle.occurrences.specs.declared.refusal.Refusal.TheVariants.{KeyIsLive}
use Rattle.planner_machine.specs.Drafts.{added as draft_of}
use Rattle.planner_machine.specs.Moves.{with_made}
use Rattle.plan_store.specs.HistoryReads.{ReadsKey}
use Rattle.plan_store.specs.Views.{with_hidden}
use Rattle.plan_store.proofs.WindowLemmas.{shows_part}
use Rattle.plan_store_pairs.specs.Additions.{IsLeftPair, IsTurnedPair, place_in}
use Rattle.plan_store_pairs.specs.Gathering.{AddsEach, AreReached}
use Rattle.plan_store_pairs.proofs.AdditionLemmas.{addable_more, plan_is_open}
use Rattle.plan_store_pairs.proofs.ReadLemmas.{free_not_past, shows_list}
use Rattle.plan_store_pairs.proofs.ComesLemmas.{pairs_come, turns_to}
use Rattle.plan_store_pairs.proofs.additions.pairs_with.Goals as goal

pub returns : goal.returns
returns c h sound sees able =
    let content = with_hidden h c.args.view.now in
    let row = c.args.row.now in
    let plan = c.args.plan in
    let view = c.args.view.now in
    let s = with_made (place_in plan) (draft_of row.key ∷ []) content.sets in
    let past = free_not_past content sound row.key (λ live. able.unrefused KeyIsLive live) in
    let part = shows_part (ReadsKey content row.key) h view sees in
    let own = c.in_ok-own.own in
    let own_is = c.in_ok-own.ensures h sound.serials part (shows_list h view row sees past) in
    let found = c.in_ok-found.found.items in
    let are = c.in_ok-found.ensures h sound.serials in
    let listed : AreReached content row c.deref.result.now =
    subst (AreReached content row) (sym c.deref.ensures.value) are in
    let turned = c.in_ok-turn_each.ensures h sound sees are.once listed.only in
    let removed = c.turn_each.new.removed.items in
    let added = c.turn_each.new.added.items in
    let left_all : AddsEach (IsLeftPair content row) c.deref.result.now [] removed =
    subst (λ (ps : List Pair). AddsEach (IsLeftPair content row) c.deref.result.now ps removed)
    c.new-removed.ensures.items turned.0 in
    let turned_all : AddsEach (IsTurnedPair content row) c.deref.result.now own added =
    subst (λ (ps : List Pair). AddsEach (IsTurnedPair content row) c.deref.result.now ps added)
    c.into_vec-added.ensures.all turned.1 in
    let change : PairChange = record { removed = c.from_vec.result; added = c.from_vec-2.result } in
    let turns = turns_to content row c.deref.result.now listed own removed added own_is left_all turned_all change
    c.from_vec.ensures c.from_vec-2.ensures in
    pairs_come content sound are.once s row (place_in plan) (addable_more content sound plan row able)
    (plan_is_open plan) change turns
