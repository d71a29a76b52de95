use Rattle.std.proofs.Common.{◌≡◌, ◌+◌, ◌++◌, ◌∷◌, [], get_or, map, sym, ap, subst, arith, ◌∙◌}
use Rattle.std.proofs.lemmas.List.{map-append, get_or_default}
use Rattle.external_dependencies.specs.Walk.{items_of}
use Rattle.external_dependencies.specs.Places.{IsGraphOf}
use Rattle.external_dependencies.proofs.GraphLemmas.{graph_more, graph_in_range}
use Rattle.external_dependencies.proofs.graph.Graph.new.Goals as goal

-- one more application has its edges
pub loop-name-preserved : goal.loop-name-preserved
loop-name-preserved c =
    let links = c.args.links.now in
    let names = c.args.names.now in
    let graph = map items_of c.loop-name.targets.items in
    let found = c.in_ok-places.field-0.items in
    let named : c.name-item.result ≡ get_or names c.loop-name.name-index [] =
    c.name-item.is ∙ get_or_default names c.loop-name.name-index c.name-item.result [] c.loop-name-test.true in
    let more = graph_more links names c.loop-name.name-index graph c.loop-name.invariant c.name-item.result named
    c.list.result.now c.list.ensures.all found c.in_ok-places.ensures in
    let pushed : map items_of c.push.new.self.items ≡ graph ++ found ∷ [] =
    ap (map items_of) c.in_ok-push.ensures.items
    ∙ map-append items_of c.loop-name.targets.items (c.in_ok-places.field-0 ∷ []) in
    subst (IsGraphOf links names (c.loop-name.name-index + 1)) (sym pushed) more

-- all applications have their edges
pub returns : goal.returns
returns c = subst (λ n. IsGraphOf c.args.links.now c.args.names.now n (map items_of c.loop-name.targets.items))
    (omega arith) c.loop-name.invariant

pub invariant_of-result : goal.invariant_of-result
invariant_of-result c = graph_in_range c.args.links.now c.args.names.now (map items_of c.loop-name.targets.items)
    (subst (λ n. IsGraphOf c.args.links.now c.args.names.now n (map items_of c.loop-name.targets.items))
    (omega arith) c.loop-name.invariant)
