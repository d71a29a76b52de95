use Rattle.std.proofs.Common.{◌≡◌, ◌+◌, ◌++◌, ◌∷◌, ◌∙◌, [], arith, ap, inl, inr, map, subst, sym, take}
use Rattle.std.specs.List.{Contains}
use Rattle.std.proofs.lemmas.List.{take_all, take_more}
use Rattle.std.proofs.lemmas.List.Elements.{Contains-append_left, Contains-append_right, Contains-push_cases}
use Rattle.external_dependencies.specs.declared.links.Link.{Link}
use Rattle.external_dependencies.proofs.MapLemmas.{map_has}
use Rattle.plan_store_pairs.proofs.ListLemmas.{none}
use Rattle.plan_store_pairs.proofs.by_applications.named_apps.Goals as goal

-- none so far
pub loop-app-init : goal.loop-app-init
loop-app-init c link there of_one = absurd (none link.app of_one)

-- one more application
pub loop-app-preserved : goal.loop-app-preserved
loop-app-preserved c link there of_one =
    let apps = c.args.apps.now in
    let app = c.app-item.result in
    let index = c.loop-app.app-index in
    let was = c.loop-app.named.items in
    let more = map (λ (l : Link). l.predecessor) c.list.result.now in
    let front : take (index + 1) apps ≡ take index apps ++ app ∷ [] =
    take_more apps index app c.loop-app-test.true ∙ ap (λ x. take index apps ++ x ∷ []) (sym c.app-item.is) in
    subst (λ ns. Contains ns link.predecessor) (sym c.in_ok-push_named.ensures)
    (elim (Contains-push_cases (take index apps) app link.app (subst (λ xs. Contains xs link.app) front of_one)) [
      | inl old ↦ Contains-append_left was more link.predecessor (c.loop-app.invariant link there old)
      | inr same ↦ Contains-append_right was more link.predecessor
          (map_has (λ (l : Link). l.predecessor) c.list.result.now link
          ((c.list.ensures.all link).1 (there, sym same)))
    ])

-- all applications
pub returns : goal.returns
returns c link there of_one =
    let whole = take_all c.loop-app.app-index c.args.apps.now (omega arith) in
    c.loop-app.invariant link there (subst (λ xs. Contains xs link.app) (sym whole) of_one)
