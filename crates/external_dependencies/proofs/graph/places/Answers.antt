use Rattle.std.proofs.Common.{◌≡◌, ◌+◌, ◌++◌, ◌∷◌, [], take, sym, ap, subst, arith, ◌∙◌}
use Rattle.std.proofs.lemmas.List.{take_more, take_all}
use Rattle.external_dependencies.specs.Places.{ArePlaces}
use Rattle.external_dependencies.proofs.PlaceLemmas.{places_found, places_absent, search_finds, search_misses}
use Rattle.external_dependencies.proofs.graph.places.Goals as goal
use Rattle.external_dependencies.proofs.graph.places.Goals.{in-Ok+in_ok-push, in_default}

pub loop-link-preserved : goal.loop-link-preserved
loop-link-preserved c =
    let names = c.args.names.now in
    let link = c.link-item.result in
    let front : take (c.loop-link.link-index + 1) c.args.list.now ≡ take c.loop-link.link-index
    c.args.list.now ++ link ∷ [] = take_more _ _ link c.loop-link-test.true
    ∙ ap (λ x. take c.loop-link.link-index c.args.list.now ++ x ∷ []) (sym c.link-item.is) in
    let places : ArePlaces names
    (take c.loop-link.link-index c.args.list.now ++ link ∷ []) c.match-binary_search.found.items =
    elim c.match-binary_search.branch [
      | in-Ok+in_ok-push w ↦
          let found : w.push.new.self.items ≡ c.loop-link.found.items ++ w.in-Ok.place ∷ [] =
          w.in_ok-push.ensures.items in
          let at = search_finds names c.requires link.predecessor w.in-Ok.place w.in-Ok.ensures.position in
          rw (w.found-is, found)
          (places_found names c.requires _ _ c.loop-link.invariant link w.in-Ok.place w.in-Ok.ensures.bound at)
      | in_default w ↦ rw w.found-is (places_absent names c.requires _ _ c.loop-link.invariant link
          (search_misses names c.requires link.predecessor w.in_default.field-0 w.in_default.ensures.position))
    ] in
    subst (λ ls. ArePlaces names ls c.match-binary_search.found.items) (sym front) places

pub returns : goal.returns
returns c = subst (λ l. ArePlaces c.args.names.now l c.loop-link.found.items)
    (take_all c.loop-link.link-index c.args.list.now (omega arith)) c.loop-link.invariant
