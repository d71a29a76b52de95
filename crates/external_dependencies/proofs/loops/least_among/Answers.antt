use Rattle.std.proofs.Common.{◌≡◌, ◌<◌, [], length, get_or, subst, arith, ◌∙◌, None, Some}
use Rattle.std.proofs.lemmas.List.{get_or_default}
use Rattle.external_dependencies.specs.Falling.{IsLeastReturning}
use Rattle.external_dependencies.specs.Places.{IsGraphOf}
use Rattle.external_dependencies.proofs.LoopLemmas.{least_found, none_found}
use Rattle.external_dependencies.proofs.loops.least_among.Goals as goal

-- the first application that returns to itself
pub returns-in-Some : goal.returns-in-Some
returns-in-Some c =
    let links = c.args.links.now in
    let names = c.args.names.now in
    let graph = c.in_ok-graph.graph in
    let place = c.in-Some.place in
    let built : IsGraphOf links names (length names) graph = c.in_ok-graph.ensures in
    let least : IsLeastReturning graph (Some place) =
    subst (IsLeastReturning graph) c.in-Some.is c.in_ok-place.ensures in
    let lt : place < length names = omega (arith, least.0, built.same_length) in
    let at : c.index-names-place.result ≡ get_or names place [] =
    c.index-names-place.is ∙ get_or_default names place c.index-names-place.result [] lt in
    least_found links names c.requires graph built place lt least.2 least.1 c.index-names-place.result at

-- no application returns to itself
pub returns : goal.returns
returns c =
    let links = c.args.links.now in
    let names = c.args.names.now in
    let graph = c.in_ok-graph.graph in
    let built : IsGraphOf links names (length names) graph = c.in_ok-graph.ensures in
    let none : IsLeastReturning graph None = subst (IsLeastReturning graph) c.in-None.is c.in_ok-place.ensures in
    none_found links names c.requires graph built (λ j lt. none j (omega (arith, built.same_length)))
