use Rattle.std.proofs.Common.{◌≡◌, ◌+◌, ◌++◌, ◌∷◌, ◌∙◌, [], take, sym, ap, subst, arith, inl, inr}
use Rattle.std.proofs.lemmas.List.{take_all, take_more}
use Rattle.plan_store.specs.Views.{shown}
use Rattle.plan_store_pairs.specs.Planned.{AddsPairsOf, HasWaiting, IsOpenOf, IsOpenOfOne}
use Rattle.external_dependencies.specs.Touch.{HasRowOf}
use Rattle.plan_store_pairs.proofs.ListLemmas.{none}
use Rattle.plan_store_pairs.proofs.PlannedLemmas.{adds_both, adds_none, no_app, one_app_more, open_of}
use Rattle.plan_store_pairs.proofs.planned.pairs_of_apps.Goals as goal

pub loop-app-init : goal.loop-app-init
loop-app-init c =
    let s = (shown c.args.view.now).sets in
    let all = (shown c.args.view.now).pairs in
    subst (AddsPairsOf all (IsOpenOfOne s []) []) (sym c.new-pairs.ensures.items)
    (adds_none all (IsOpenOfOne s []) [] (no_app s))

pub push_planned-requires : goal.push_planned-requires
push_planned-requires c row there = ((c.ltp_of.ensures.exactly row).0 there).0

pub push_waiting-requires : goal.push_waiting-requires
push_waiting-requires c current there = ((c.cp_of.ensures.exactly current).0 there).0

-- one more application
pub loop-app-preserved : goal.loop-app-preserved
loop-app-preserved c =
    let s = (shown c.args.view.now).sets in
    let all = (shown c.args.view.now).pairs in
    let apps = c.args.apps.now in
    let app = c.app-item.result in
    let index = c.loop-app.app-index in
    let ltp = c.ltp_of.result.now in
    let cp = c.cp_of.result.now in
    let old = c.loop-app.pairs.items in
    let middle = c.push_planned.new.pairs.items in
    let new = c.push_waiting.new.pairs.items in
    let front : take (index + 1) apps ≡ take index apps ++ app ∷ [] =
    take_more apps index app c.loop-app-test.true ∙ ap (λ x. take index apps ++ x ∷ []) (sym c.app-item.is) in
    let own = adds_both all (HasRowOf ltp) (HasWaiting cp) (IsOpenOf s app) old middle new
    c.in_ok-push_planned.ensures c.in_ok-push_waiting.ensures (open_of s app ltp c.ltp_of.ensures cp c.cp_of.ensures) in
    let more = adds_both all (IsOpenOfOne s (take index apps)) (IsOpenOf s app)
    (IsOpenOfOne s (take index apps ++ app ∷ [])) [] old new c.loop-app.invariant own
    (one_app_more s (take index apps) app) in
    subst (λ xs. AddsPairsOf all (IsOpenOfOne s xs) [] new) (sym front) more

-- all applications
pub returns : goal.returns
returns c pair =
    let s = (shown c.args.view.now).sets in
    let all = (shown c.args.view.now).pairs in
    let is = subst (λ xs. AddsPairsOf all (IsOpenOfOne s xs) [] c.loop-app.pairs.items)
    (take_all c.loop-app.app-index c.args.apps.now (omega arith)) c.loop-app.invariant pair in
    let same = c.from_vec.ensures pair in (
      (λ there. elim (is.0 (same.0 there)) [ inl nothing ↦ absurd (none pair nothing) | inr new ↦ new ]),
      λ both. same.1 (is.1 (inr both)),
    )
