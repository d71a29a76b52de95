use Rattle.std.proofs.Common.{◌≡◌, ◌↔◌, ◌<◌, ◌∙◌, length, get_or, sym, ap, subst, rules, false, Ok, Err}
use Rattle.std.specs.Bool.{IsTrue, one_answer}
use Rattle.std.specs.Cmp.Rules.{comparing}
use Rattle.std.specs.List.Sorted.{IsBinarySearchResult}
use Rattle.std.proofs.lemmas.Bool.{false≢true}
use Rattle.std.proofs.lemmas.List.{get_or_default}
use Rattle.external_dependencies.specs.Link.{link_cmp}
use Rattle.external_dependencies.specs.declared.links.Link.{Link}
use Rattle.external_dependencies.proofs.LexLemmas.{link_total}
use Rattle.external_dependencies.proofs.OrderLemmas.{found_limit, found_link}
use Rattle.plan_tables_writing.proofs.LinkLemmas.{holds_link-Decides, search_absent}
use Rattle.plan_tables_writing.proofs.moves.has_link.Goals as goal

pub returns-in-Ok : goal.returns-in-Ok
returns-in-Ok c =
    let links = c.args.links.now in
    let link = c.args.link.now in
    let place = c.in-Ok.place in
    let position : IsBinarySearchResult (λ y. link_cmp y link) links (Ok place) =
    subst (λ r. IsBinarySearchResult (λ y. link_cmp y link) links r) c.in-Ok.is c.binary_search.ensures.position in
    let in_range : place < length links = c.in-Ok.ensures.bound in
    let found = c.index-links-place.result in
    let here : get_or links place link ≡ found =
    get_or_default links place link found in_range ∙ sym c.index-links-place.is in
    let limit = ap (λ (l : Link). l.within) here in
    let same : IsTrue c.eq.result ↔ (found.within ≡ link.within) = search (comparing, rules) in
    one_answer c.eq.result _ (
      (λ yes. found_link link_total links c.requires link place in_range (position link) (limit ∙ same.0 yes)),
      λ there. same.1 (sym limit ∙ found_limit link_total links c.requires link place in_range (position link) there),
    ) (holds_link-Decides links link)

pub returns-in-Err : goal.returns-in-Err
returns-in-Err c =
    let links = c.args.links.now in
    let link = c.args.link.now in
    let place = c.in-Err.field-0 in
    let position : IsBinarySearchResult (λ y. link_cmp y link) links (Err place) =
    subst (λ r. IsBinarySearchResult (λ y. link_cmp y link) links r) c.in-Err.is c.binary_search.ensures.position in
    one_answer false _ (
      (λ no. absurd (false≢true no)),
      λ there. absurd (search_absent links c.requires link place position there),
    ) (holds_link-Decides links link)
