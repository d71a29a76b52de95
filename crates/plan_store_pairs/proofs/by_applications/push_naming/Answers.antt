use Rattle.std.proofs.Common.{◌≡◌, ◌+◌, ◌++◌, ◌∷◌, ◌∙◌, [], ℕ, List, append_assoc, arith, ap, map, subst, sym, take}
use Rattle.std.proofs.lemmas.List.{map-append, take_all, take_more}
use Rattle.plan_store_lists.specs.declared.namings.Naming.{Naming}
use Rattle.plan_store_pairs.proofs.by_applications.push_naming.Goals as goal

-- one more
pub loop-naming-preserved : goal.loop-naming-preserved
loop-naming-preserved c =
    let found = c.args.found.now in
    let naming = c.naming-item.result in
    let index = c.loop-naming.naming-index in
    let was = c.args.apps.now.items in
    let front : take (index + 1) found ≡ take index found ++ naming ∷ [] =
    take_more found index naming c.loop-naming-test.true
    ∙ ap (λ x. take index found ++ x ∷ []) (sym c.naming-item.is) in
    let app_of : Naming → List ℕ = λ n. n.link.app in
    c.in_ok-push.ensures.items ∙ ap (λ ns. ns ++ naming.link.app ∷ []) c.loop-naming.invariant
    ∙ append_assoc was (map app_of (take index found)) (naming.link.app ∷ [])
    ∙ ap (λ ns. was ++ ns) (sym (map-append app_of (take index found) (naming ∷ [])))
    ∙ ap (λ ns. was ++ map app_of ns) (sym front)

pub returns : goal.returns
returns c =
    let whole = take_all c.loop-naming.naming-index c.args.found.now (omega arith) in
    subst (λ ns. c.loop-naming.apps.items ≡ c.args.apps.now.items ++ map (λ (n : Naming). n.link.app) ns) whole
    c.loop-naming.invariant
