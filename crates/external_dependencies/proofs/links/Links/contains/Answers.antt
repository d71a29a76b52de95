use Rattle.std.proofs.Common.{◌≡◌, ◌↔◌, ◌∙◌, ◌<◌, length, get_or, sym, ap, subst, arith, rules, false, Ok, Err}
use Rattle.std.specs.Cmp.Rules.{comparing}
use Rattle.std.specs.Bool.{IsTrue}
use Rattle.std.specs.List.{Contains}
use Rattle.std.specs.List.Sorted.{IsBinarySearchResult}
use Rattle.std.proofs.lemmas.Bool.{false≢true}
use Rattle.std.proofs.lemmas.List.{get_or_default}
use Rattle.external_dependencies.specs.Link.{link_cmp}
use Rattle.external_dependencies.specs.declared.links.Link.{Link}
use Rattle.external_dependencies.proofs.LexLemmas.{link_total}
use Rattle.external_dependencies.proofs.OrderLemmas.{found_limit, found_link}
use Rattle.external_dependencies.proofs.PlaceLemmas.{search_absent}
use Rattle.external_dependencies.proofs.links.Links.contains.Goals as goal

pub returns-in-Ok : goal.returns-in-Ok
returns-in-Ok c =
    let links = c.self.inside.links.items in
    let link = c.args.link.now in
    let place = c.in-Ok.place in
    let found = c.binary_search.result in
    let told : IsBinarySearchResult (λ y. link_cmp y link) links found =
    subst (λ xs. IsBinarySearchResult (λ y. link_cmp y link) xs found) c.deref.ensures.value
    c.binary_search.ensures.position in
    let position : IsBinarySearchResult (λ y. link_cmp y link) links (Ok place) =
    subst (λ r. IsBinarySearchResult (λ y. link_cmp y link) links r) c.in-Ok.is told in
    let in_range : place < length links = omega (arith, c.in-Ok.ensures.bound, ap length c.deref.ensures.value) in
    let here : get_or links place link ≡ c.index.result.now =
    get_or_default links place link c.index.result.now in_range ∙ sym c.index.ensures in
    let limit = ap (λ (l : Link). l.within) here in
    let same : IsTrue c.eq.result ↔ (c.index.result.now.within ≡ link.within) = search (comparing, rules) in
    let is : IsTrue c.eq.result ↔ Contains links link = (
      (λ yes. found_link link_total links c.self.invariant link place in_range (position link)
          (limit ∙ same.0 yes)),
      λ there. same.1 (sym limit
          ∙ found_limit link_total links c.self.invariant link place in_range (position link) there),
    ) in
    subst (λ xs. IsTrue c.eq.result ↔ Contains xs link) c.self.view_is is

pub returns-in-Err : goal.returns-in-Err
returns-in-Err c =
    let links = c.self.inside.links.items in
    let link = c.args.link.now in
    let place = c.in-Err.field-0 in
    let found = c.binary_search.result in
    let told : IsBinarySearchResult (λ y. link_cmp y link) links found =
    subst (λ xs. IsBinarySearchResult (λ y. link_cmp y link) xs found) c.deref.ensures.value
    c.binary_search.ensures.position in
    let position : IsBinarySearchResult (λ y. link_cmp y link) links (Err place) =
    subst (λ r. IsBinarySearchResult (λ y. link_cmp y link) links r) c.in-Err.is told in
    let is : IsTrue false ↔ Contains links link = (
      (λ no. absurd (false≢true no)),
      λ there. absurd (search_absent link_total links c.self.invariant link place position there),
    ) in
    subst (λ xs. IsTrue false ↔ Contains xs link) c.self.view_is is
