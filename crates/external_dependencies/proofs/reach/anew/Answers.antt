use Rattle.std.proofs.Common.{◌≡◌, ◌↔◌, ◌++◌, map, ap, subst, sym, ◌∙◌, inl, inr}
use Rattle.std.specs.List.{Contains}
use Rattle.std.proofs.lemmas.List.Elements.{Contains-append_cases, Contains-append_left, Contains-append_right}
use Rattle.occurrences.specs.declared.row.Row.{Row}
use Rattle.external_dependencies.specs.Touch.{IsAnew}
use Rattle.external_dependencies.proofs.MapLemmas.{serials_are}
use Rattle.external_dependencies.proofs.reach.anew.Goals as goal

pub returns : goal.returns
returns c serial =
    let made = c.in_ok-serials.serials.items in
    let opened = c.args.touch.now.opened.items in
    let rows = c.args.touch.now.made.items in
    let are = serials_are rows made (subst (λ rs. made ≡ map (λ (row : Row). row.serial) rs) c.deref.ensures.value
    c.in_ok-serials.ensures) serial in
    let whole : c.extend_from_slice.new.self.items ≡ made ++ opened =
    c.in_ok-extend_from_slice.ensures.items ∙ ap (λ xs. made ++ xs) c.deref-2.ensures.value in
    subst (λ xs. Contains xs serial ↔ IsAnew c.args.touch.now serial) (sym whole) (
      (λ there. elim (Contains-append_cases made opened serial there) [
        | inl new ↦ inl (are.0 new)
        | inr waits ↦ inr waits
      ]),
      λ is. elim is [
        | inl new ↦ Contains-append_left made opened serial (are.1 new)
        | inr waits ↦ Contains-append_right made opened serial waits
      ],
    )
