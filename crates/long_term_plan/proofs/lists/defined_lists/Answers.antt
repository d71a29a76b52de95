use Rattle.std.proofs.Common.{◌≡◌, ◌↔◌, ◌∙◌, ℕ, List, ap, map, subst, sym}
use Rattle.std.specs.List.{Contains}
use Rattle.app_definition_records.proofs.RisingLemmas.{Contains-map, Contains-map_back}
use Rattle.app_definition_records.specs.declared.predecessors.Predecessor.{Predecessor}
use Rattle.external_dependencies.specs.Link.{AreNamedOnce, KeepsNames}
use Rattle.external_dependencies.specs.declared.links.Link.{Link}
use Rattle.external_dependencies.proofs.OrderLemmas.{keeps_all}
use Rattle.planner_machine.specs.InForce.{IsDefinedLink}
use Rattle.long_term_plan.specs.Lists.{link_of}
use Rattle.long_term_plan.proofs.lists.defined_lists.Goals as goal

pub returns : goal.returns
returns c = record {
  rising = c.from_vec.ensures.rising;
  exactly = λ link. (forward link, backward link);
}
  where
    listed : List (List ℕ × Predecessor)
    listed = c.in_ok-listed.listed.items

    links : c.in_ok-links.links.items ≡ map link_of listed
    links = c.in_ok-links.ensures ∙ ap (map link_of) c.as_slice.ensures.value

    once : AreNamedOnce (map link_of listed)
    once a b at_a at_b same =
        let (x, in_x, is_x) = Contains-map_back link_of listed a at_a in
        let (y, in_y, is_y) = Contains-map_back link_of listed b at_b in
        let apps : x.0 ≡ y.0 =
        ap (λ (l : Link). l.app) is_x ∙ same.0 ∙ ap (λ (l : Link). l.app) (sym is_y) in
        let names : x.1.name ≡ y.1.name =
        ap (λ (l : Link). l.predecessor) is_x ∙ same.1 ∙ ap (λ (l : Link). l.predecessor) (sym is_y) in
        let one : x.1 ≡ y.1 = c.in_ok-listed.ensures.own_names x.0 x.1 y.1 in_x
        (subst (λ n. Contains listed (n, y.1)) (sym apps) in_y) names in
        sym is_x ∙ (λ i. link_of (apps i, one i)) ∙ is_y

    kept : (link : Link) → Contains c.from_vec.result link ↔ Contains (map link_of listed) link
    kept = keeps_all (map link_of listed) c.from_vec.result once
        (subst (λ ls. KeepsNames ls c.from_vec.result) links c.from_vec.ensures.kept)

    forward : (link : Link) → Contains c.from_vec.result link → IsDefinedLink c.args.all.now link
    forward link there =
        let (pair, in_list, is) = Contains-map_back link_of listed link ((kept link).0 there) in
        subst (IsDefinedLink c.args.all.now) is ((c.in_ok-listed.ensures.exactly pair.0 pair.1).0 in_list)

    backward : (link : Link) → IsDefinedLink c.args.all.now link → Contains c.from_vec.result link
    backward link is =
        let p : Predecessor = record { name = link.predecessor; within = link.within } in
        let in_list = (c.in_ok-listed.ensures.exactly link.app p).1 is in
        (kept link).1 (Contains-map link_of listed (link.app, p) in_list)
