use Rattle.std.proofs.Common.{◌⊎◌, [], inl, inr, subst}
use Rattle.plan_store.specs.Views.{shown}
use Rattle.external_dependencies.specs.Touch.{HasRowOf}
use Rattle.plan_store_pairs.specs.Planned.{AddsPairsOf, HasWaiting, IsWaitingAt}
use Rattle.plan_store_pairs.proofs.ListLemmas.{none}
use Rattle.plan_store_pairs.proofs.PlannedLemmas.{adds_both, waiting_in}
use Rattle.plan_store_pairs.proofs.planned.pairs_of_rows.Goals as goal

pub push_all_waiting-requires : goal.push_all_waiting-requires
push_all_waiting-requires c current there = ((c.cp.ensures.rows.exactly current).0 there).0

pub returns : goal.returns
returns c pair =
    let view = c.args.view.now in
    let all = (shown view).pairs in
    let rows = c.args.planned.now in
    let cp = c.cp.result.now.items in
    let s = (shown view).sets in
    let first = c.push_planned.new.pairs.items in
    let second = c.push_all_waiting.new.pairs.items in
    let planned : AddsPairsOf all (HasRowOf rows) [] first =
    subst (λ old. AddsPairsOf all (HasRowOf rows) old first) c.new-pairs.ensures.items c.in_ok-push_planned.ensures in
    let current : AddsPairsOf all (HasWaiting cp) first second = c.in_ok-push_all_waiting.ensures in
    let is = adds_both all (HasRowOf rows) (HasWaiting cp) (λ n. HasRowOf rows n ⊎ IsWaitingAt s n) [] first second planned
    current (λ n. waiting_in s rows cp c.cp.ensures.rows n) pair in
    let same = c.from_vec.ensures pair in (
      (λ there. elim (is.0 (same.0 there)) [ inl nothing ↦ absurd (none pair nothing) | inr new ↦ new ]),
      λ both. same.1 (is.1 (inr both)),
    )
