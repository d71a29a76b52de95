use Rattle.std.proofs.Common.{◌≡◌, ◌+◌, ◌++◌, ◌∷◌, ◌∙◌, [], arith, ap, inl, inr, map, subst, sym, take}
use Rattle.std.specs.List.{Contains}
use Rattle.std.proofs.lemmas.List.{take_all, take_more}
use Rattle.std.proofs.lemmas.List.Elements.{Contains-append_left, Contains-append_right, Contains-push_cases}
use Rattle.external_dependencies.proofs.MapLemmas.{map_has}
use Rattle.plan_store_lists.specs.declared.namings.Naming.{Naming}
use Rattle.plan_store_pairs.proofs.ListLemmas.{none}
use Rattle.plan_store_pairs.proofs.by_applications.standing_apps.Goals as goal

-- none so far
pub loop-app-init : goal.loop-app-init
loop-app-init c link there of_one = absurd (none link.predecessor of_one)

-- one more application
pub loop-app-preserved : goal.loop-app-preserved
loop-app-preserved c link there of_one =
    let apps = c.args.apps.now in
    let app = c.app-item.result in
    let index = c.loop-app.app-index in
    let was = c.loop-app.naming.items in
    let found = c.naming.result.now in
    let naming : Naming = record { link = link } in
    let more = map (λ (n : Naming). n.link.app) found in
    let front : take (index + 1) apps ≡ take index apps ++ app ∷ [] =
    take_more apps index app c.loop-app-test.true ∙ ap (λ x. take index apps ++ x ∷ []) (sym c.app-item.is) in
    subst (λ ns. Contains ns link.app) (sym c.in_ok-push_naming.ensures)
    (elim (Contains-push_cases (take index apps) app link.predecessor
    (subst (λ xs. Contains xs link.predecessor) front of_one)) [
      | inl old ↦ Contains-append_left was more link.app (c.loop-app.invariant link there old)
      | inr same ↦ Contains-append_right was more link.app (map_has (λ (n : Naming). n.link.app) found naming
          ((c.naming.ensures.all naming).1 (there, sym same)))
    ])

-- all applications
pub returns : goal.returns
returns c link there of_one =
    let whole = take_all c.loop-app.app-index c.args.apps.now (omega arith) in
    c.loop-app.invariant link there (subst (λ xs. Contains xs link.predecessor) (sym whole) of_one)
