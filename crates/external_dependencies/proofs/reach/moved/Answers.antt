use Rattle.std.proofs.Common.{◌≡◌, ◌↔◌, ◌++◌, List, ap, ap₂, map, subst, sym, ◌∙◌, inl, inr}
use Rattle.std.specs.List.{Contains}
use Rattle.std.proofs.lemmas.List.Elements.{Contains-append_cases, Contains-append_left, Contains-append_right}
use Rattle.occurrences.specs.declared.row.Row.{Row}
use Rattle.external_dependencies.specs.declared.live.Arrival.{Arrival}
use Rattle.external_dependencies.specs.Nearest.{arrival_of}
use Rattle.external_dependencies.specs.Reach.{HasMoved}
use Rattle.external_dependencies.proofs.MapLemmas.{map_back, map_has}
use Rattle.external_dependencies.proofs.reach.moved.Goals as goal

pub returns : goal.returns
returns c a = subst (λ xs. Contains xs a ↔ HasMoved c.args.touch.now a) (sym whole) (forward, backward)
  where
    made : List Row
    made = c.args.touch.now.made.items

    withdrawn : List Row
    withdrawn = c.args.touch.now.withdrawn.items

    first : List Arrival
    first = map arrival_of made

    more : List Arrival
    more = map arrival_of withdrawn

    whole : c.extend_from_slice.new.self.items ≡ first ++ more
    whole = c.in_ok-extend_from_slice.ensures.items ∙ ap₂ (λ xs ys. xs ++ ys)
        (c.in_ok-arrivals.ensures ∙ ap (map arrival_of) c.deref.ensures.value)
        (c.deref-3.ensures.value ∙ (c.in_ok-more.ensures ∙ ap (map arrival_of) c.deref-2.ensures.value))

    forward : Contains (first ++ more) a → HasMoved c.args.touch.now a
    forward there = elim (Contains-append_cases first more a there) [
      | inl new ↦ let (row, at, same) = map_back arrival_of made a new in (row, inl at, same)
      | inr gone ↦ let (row, at, same) = map_back arrival_of withdrawn a gone in (row, inr at, same)
    ]

    backward : HasMoved c.args.touch.now a → Contains (first ++ more) a
    backward (row, inl new, same) = subst (Contains (first ++ more)) same
        (Contains-append_left first more (arrival_of row) (map_has arrival_of made row new))
    backward (row, inr gone, same) = subst (Contains (first ++ more)) same
        (Contains-append_right first more (arrival_of row) (map_has arrival_of withdrawn row gone))
