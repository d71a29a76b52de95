use Rattle.std.proofs.Common.{◌≡◌, ◌+◌, ◌++◌, ◌∷◌, ◌∙◌, [], arith, ap, subst, sym, take}
use Rattle.std.proofs.lemmas.List.{take_all, take_more}
use Rattle.occurrences.specs.declared.place.Place.TheVariants.{LongTerm}
use Rattle.plan_store.specs.Views.{shown}
use Rattle.plan_store_pairs.specs.ByApplications.{AreGathered}
use Rattle.plan_store_pairs.specs.LiveRows.{AddsRows}
use Rattle.plan_store_pairs.proofs.GatheredLemmas.{AreSoFar, none_so_far, one_more}
use Rattle.plan_store_pairs.proofs.by_applications.live_rows_of.Goals as goal

-- the long-term plan
pub loop-app-init : goal.loop-app-init
loop-app-init c current current_are completed completed_are =
    none_so_far (shown c.args.view.now).sets c.args.planned.now current current_are completed completed_are
    c.push_rows.new.rows.items
    (subst (λ old. AddsRows c.args.planned.now LongTerm old c.push_rows.new.rows.items) c.new-rows.ensures.items
    c.in_ok-push_rows.ensures)

-- one more application
pub loop-app-preserved : goal.loop-app-preserved
loop-app-preserved c current current_are completed completed_are =
    let s = (shown c.args.view.now).sets in
    let apps = c.args.apps.now in
    let app = c.app-item.result in
    let index = c.loop-app.app-index in
    let planned = c.args.planned.now in
    let front : take (index + 1) apps ≡ take index apps ++ app ∷ [] =
    take_more apps index app c.loop-app-test.true ∙ ap (λ x. take index apps ++ x ∷ []) (sym c.app-item.is) in
    let more = one_more s planned current current_are completed completed_are (take index apps)
    c.loop-app.rows.items (c.loop-app.invariant current current_are completed completed_are) app
    c.cp_of.result.now c.cp_of.ensures c.lasts_of.result.now c.lasts_of.ensures
    c.push_current.new.rows.items c.push_rows-in-loop-app.new.rows.items c.in_ok-push_current.ensures
    c.in_ok-push_rows-2.ensures in
    subst (λ xs. AreSoFar s planned current current_are completed completed_are xs
    c.push_rows-in-loop-app.new.rows.items) (sym front) more

-- all applications
pub returns : goal.returns
returns c =
    let s = (shown c.args.view.now).sets in
    let planned = c.args.planned.now in
    let whole = take_all c.loop-app.app-index c.args.apps.now (omega arith) in
    subst (AreGathered s c.args.apps.now planned) (sym c.from_vec.ensures)
    (subst (λ xs. AreGathered s xs planned c.loop-app.rows.items) whole c.loop-app.invariant)
