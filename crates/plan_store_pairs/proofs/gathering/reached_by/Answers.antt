use Rattle.std.proofs.Common.{◌≡◌, ◌↔◌, ◌+◌, ◌++◌, ◌∷◌, ◌∙◌, List, [], take, sym, ap, subst, arith}
use Rattle.std.specs.List.{Contains}
use Rattle.std.proofs.lemmas.List.{take_all, take_more}
use Rattle.external_dependencies.specs.Link.{AreNamedOnce}
use Rattle.external_dependencies.specs.declared.links.Link.{Link}
use Rattle.external_dependencies.proofs.OrderLemmas.{named_once}
use Rattle.plan_store.specs.Views.{with_hidden}
use Rattle.plan_store_lists.specs.declared.namings.Naming.{Naming}
use Rattle.plan_store_pairs.specs.Gathering.{AddsEach}
use Rattle.plan_store_pairs.specs.declared.gathering.Reached.{Reached}
use Rattle.plan_store_pairs.proofs.EachLemmas.{adds_all, each_more, each_none}
use Rattle.plan_store_pairs.proofs.GatherLemmas.{IsReachedThere, by_links}
use Rattle.plan_store_pairs.proofs.gathering.reached_by.Goals as goal

pub loop-naming-init : goal.loop-naming-init
loop-naming-init c h numbered =
    let Is = IsReachedThere (with_hidden h c.args.view.now).sets c.args.row.now c.next_planned-last.result in
    subst (λ (xs : List Reached). AddsEach Is [] [] xs) (sym c.new-found.ensures.items) (each_none Is [])

-- one more link
pub loop-naming-preserved : goal.loop-naming-preserved
loop-naming-preserved c h numbered =
    let row = c.args.row.now in
    let Is = IsReachedThere (with_hidden h c.args.view.now).sets row c.next_planned-last.result in
    let namings = c.naming-naming-items.result.now in
    let naming = c.naming-item.result in
    let index = c.loop-naming.naming-index in
    let new = c.push_link.new.found.items in
    let front : take (index + 1) namings ≡ take index namings ++ naming ∷ [] =
    take_more namings index naming c.loop-naming-test.true
    ∙ ap (λ x. take index namings ++ x ∷ []) (sym c.naming-item.is) in
    subst (λ (ns : List Naming). AddsEach Is ns [] new) (sym front)
    (each_more Is (take index namings) naming [] c.loop-naming.found.items new (c.loop-naming.invariant h numbered)
    (c.in_ok-push_link.ensures h numbered))

-- all links
pub returns : goal.returns
returns c h numbered =
    let content = with_hidden h c.args.view.now in
    let row = c.args.row.now in
    let last = c.next_planned-last.result in
    let Is = IsReachedThere content.sets row last in
    let namings = c.naming-naming-items.result.now in
    let found = c.loop-naming.found.items in
    let all = subst (λ (ns : List Naming). AddsEach Is ns [] found)
    (take_all c.loop-naming.naming-index namings (omega arith)) (c.loop-naming.invariant h numbered) in
    let are_namings = subst (λ (links : List Link). (n : Naming) → Contains namings n
    ↔ (Contains links n.link × (n.link.predecessor ≡ row.key.app))) c.in_force-lists.ensures
    c.naming-naming-items.ensures.all in
    let once : AreNamedOnce content.in_force = subst AreNamedOnce c.in_force-lists.ensures
    (named_once c.in_force-lists.result.now.items c.rise.ensures) in
    by_links content numbered row last c.next_planned-last.ensures once namings are_namings found (adds_all _ found all)
