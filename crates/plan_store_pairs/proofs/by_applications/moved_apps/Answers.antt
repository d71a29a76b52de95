use Rattle.std.proofs.Common.{◌≡◌, ◌++◌, ◌∙◌, ℕ, List, ap, ap₂, inl, inr, map, subst, sym}
use Rattle.std.specs.List.{Contains}
use Rattle.std.proofs.lemmas.List.Elements.{Contains-append_left, Contains-append_right}
use Rattle.occurrences.specs.declared.row.Row.{Row}
use Rattle.external_dependencies.specs.Touch.{IsMoved}
use Rattle.external_dependencies.proofs.MapLemmas.{map_has}
use Rattle.plan_store_pairs.proofs.by_applications.moved_apps.Goals as goal

pub returns : goal.returns
returns c row moved = subst (λ xs. Contains xs row.key.app) (sym whole) (there moved)
  where
    app_of : Row → List ℕ
    app_of r = r.key.app

    made : List Row
    made = c.args.touch.now.made.items

    gone : List Row
    gone = c.args.touch.now.withdrawn.items

    whole : c.extend_from_slice.new.self.items ≡ map app_of made ++ map app_of gone
    whole = c.in_ok-extend_from_slice.ensures.items ∙ ap₂ (λ xs ys. xs ++ ys)
        (c.in_ok-apps.ensures ∙ ap (map app_of) c.deref.ensures.value)
        (c.deref-3.ensures.value ∙ (c.in_ok-more.ensures ∙ ap (map app_of) c.deref-2.ensures.value))

    there : IsMoved c.args.touch.now row → Contains (map app_of made ++ map app_of gone) row.key.app
    there (inl new) = Contains-append_left (map app_of made) (map app_of gone) row.key.app (map_has app_of made row new)
    there (inr out) = Contains-append_right (map app_of made) (map app_of gone) row.key.app (map_has app_of gone row out)
