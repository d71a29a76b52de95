use Rattle.std.proofs.Common.{◌≡◌, ◌↔◌, ◌∙◌, ◌++◌, List, ap, subst, sym}
use Rattle.std.specs.List.{Contains}
use Rattle.external_dependencies.specs.declared.links.Link.{Link}
use Rattle.plan_store_lists.specs.LinkBlocks.{with_list}
use Rattle.plan_store_lists.proofs.LinkBlockLemmas.{kept_all, others_list, then_some, with_list-rising}
use Rattle.plan_store_lists.proofs.lists_then.ListsThen.to_links.Goals as goal

pub returns-in_ok-extend_from_slice-in-Some : goal.returns-in_ok-extend_from_slice-in-Some
returns-in_ok-extend_from_slice-in-Some c =
    let items = c.args.self.now.lists.now.items in
    let own = c.in-Some.own.now in
    let all = with_list own.app own.links.items items in
    let others = c.in_ok-found-in-Some.found.items in
    let found = c.extend_from_slice.new.self.items in
    let whole : found ≡ others ++ own.links.items = c.in_ok-extend_from_slice-in-Some.ensures.items
    ∙ ap (λ (l : List Link). others ++ l) c.deref.ensures.value in
    let same : (link : Link) → Contains found link ↔ Contains all link = λ link.
    subst (λ (l : List Link). Contains l link ↔ Contains all link) (sym whole)
    (others_list own.app own.links.items items others c.in_ok-found-in-Some.ensures link) in
    kept_all all found c.from_vec.result
    (with_list-rising own.app own.links.items items own.rising own.own c.rise.ensures) c.from_vec.ensures.rising same
    c.from_vec.ensures.kept ∙ sym (then_some c.args.self.now c.in-Some.own c.in-Some.is)
