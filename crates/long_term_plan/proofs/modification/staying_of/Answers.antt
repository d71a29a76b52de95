use Rattle.std.proofs.Common.{◌≡◌, ◌+◌, ◌++◌, ◌∷◌, ◌∙◌, ℕ, List, [], arith, ap, subst, sym, take}
use Rattle.std.specs.List.{filter_map}
use Rattle.std.proofs.lemmas.List.{take_all, take_more}
use Rattle.occurrences.specs.declared.row.Row.{Row}
use Rattle.plan_store.specs.Views.{shown}
use Rattle.long_term_plan.specs.Modifying.{AreOf, outcome}
use Rattle.long_term_plan.proofs.LookedLemmas.{none_of, one_more_of}
use Rattle.long_term_plan.proofs.modification.staying_of.Goals as goal

pub loop-app-init : goal.loop-app-init
loop-app-init c order rows lists =
    none_of (shown c.args.view.now).sets c.args.only.now c.args.named.now rows lists c.new-kept.result.items
    c.new-kept.ensures.items

-- one more application
pub loop-app-preserved : goal.loop-app-preserved
loop-app-preserved c order rows lists =
    let s = (shown c.args.view.now).sets in
    let only = c.args.only.now in
    let named = c.args.named.now in
    let apps = c.args.apps.now in
    let app = c.app-item.result in
    let index = c.loop-app.app-index in
    let kept = c.loop-app.kept.items in
    let f = outcome only named in
    let front : take (index + 1) apps ≡ take index apps ++ app ∷ [] =
    take_more apps index app c.loop-app-test.true ∙ ap (λ x. take index apps ++ x ∷ []) (sym c.app-item.is) in
    let pushed : c.extend_from_slice.new.self.items ≡ kept ++ filter_map f c.ltp_of.result.now =
    c.in_ok-extend_from_slice.ensures.items
    ∙ ap (λ (l : List Row). kept ++ l) (c.deref.ensures.value ∙ c.in_ok-own.ensures order) in
    let more = one_more_of s only named rows lists (take index apps) kept (c.loop-app.invariant order rows lists) app
    c.ltp_of.result.now c.ltp_of.ensures in
    subst (λ (xs : List (List ℕ)). AreOf xs (filter_map f rows) c.extend_from_slice.new.self.items) (sym front)
    (subst (λ (l : List Row). AreOf (take index apps ++ app ∷ []) (filter_map f rows) l) (sym pushed) more)

-- all applications
pub returns : goal.returns
returns c order rows lists =
    let whole = take_all c.loop-app.app-index c.args.apps.now (omega arith) in
    subst (λ (xs : List (List ℕ)). AreOf xs (filter_map (outcome c.args.only.now c.args.named.now) rows)
    c.loop-app.kept.items) whole (c.loop-app.invariant order rows lists)
