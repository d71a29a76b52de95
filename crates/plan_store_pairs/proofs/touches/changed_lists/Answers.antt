use Rattle.std.proofs.Common.{◌≡◌, ◌⊎◌, ◌++◌, ◌∙◌, ℕ, List, ap, inl, inr, subst, sym}
use Rattle.std.specs.List.{Contains}
use Rattle.std.proofs.lemmas.List.Elements.{Contains-append_left, Contains-append_right}
use Rattle.external_dependencies.specs.declared.links.Link.{Link}
use Rattle.plan_store_pairs.proofs.TouchedLemmas.{lists_told}
use Rattle.plan_store_pairs.proofs.touches.changed_lists.Goals as goal

pub returns : goal.returns
returns c = lists_told before links c.extend_from_slice.new.self.items on back
  where
    before : List Link
    before = c.args.before.now.items

    links : List Link
    links = c.args.links.now.items

    first : List (List ℕ)
    first = c.in_ok-apps.apps.items

    more : List (List ℕ)
    more = c.in_ok-more.more.items

    whole : c.extend_from_slice.new.self.items ≡ first ++ more
    whole = c.in_ok-extend_from_slice.ensures.items ∙ ap (λ xs. first ++ xs) c.deref.ensures.value

    told : (link : Link) → Contains before link → Contains links link ⊎ Contains first link.app
    told = c.in_ok-apps.ensures

    told_back : (link : Link) → Contains links link → Contains before link ⊎ Contains more link.app
    told_back = c.in_ok-more.ensures

    on : (link : Link) → Contains before link
        → Contains links link ⊎ Contains c.extend_from_slice.new.self.items link.app
    on link there = elim (told link there) [
      | inl stays ↦ inl stays
      | inr named ↦ inr (subst (λ xs. Contains xs link.app) (sym whole)
          (Contains-append_left first more link.app named))
    ]

    back : (link : Link) → Contains links link
        → Contains before link ⊎ Contains c.extend_from_slice.new.self.items link.app
    back link there = elim (told_back link there) [
      | inl stood ↦ inl stood
      | inr named ↦ inr (subst (λ xs. Contains xs link.app) (sym whole)
          (Contains-append_right first more link.app named))
    ]
