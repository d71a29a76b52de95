use Rattle.std.proofs.Common.{◌≡◌, ◌+◌, ◌++◌, ◌∷◌, ◌∙◌, [], ℕ, List, append_assoc, arith, ap, map, subst, sym, take}
use Rattle.std.proofs.lemmas.List.{map-append, take_all, take_more}
use Rattle.external_dependencies.specs.declared.links.Link.{Link}
use Rattle.plan_store_pairs.proofs.by_applications.push_named.Goals as goal

-- one more link
pub loop-link-preserved : goal.loop-link-preserved
loop-link-preserved c =
    let list = c.args.list.now in
    let link = c.link-item.result in
    let index = c.loop-link.link-index in
    let was = c.args.named.now.items in
    let front : take (index + 1) list ≡ take index list ++ link ∷ [] = take_more list index link c.loop-link-test.true
    ∙ ap (λ x. take index list ++ x ∷ []) (sym c.link-item.is) in
    let name : Link → List ℕ = λ l. l.predecessor in
    c.in_ok-push.ensures.items ∙ ap (λ ns. ns ++ link.predecessor ∷ []) c.loop-link.invariant
    ∙ append_assoc was (map name (take index list)) (link.predecessor ∷ [])
    ∙ ap (λ ns. was ++ ns) (sym (map-append name (take index list) (link ∷ [])))
    ∙ ap (λ ls. was ++ map name ls) (sym front)

pub returns : goal.returns
returns c =
    let whole = take_all c.loop-link.link-index c.args.list.now (omega arith) in
    subst (λ ls. c.loop-link.named.items ≡ c.args.named.now.items ++ map (λ (l : Link). l.predecessor) ls) whole
    c.loop-link.invariant
