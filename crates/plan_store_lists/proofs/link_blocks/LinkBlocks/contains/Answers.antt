use Rattle.std.proofs.Common.{◌≡◌, ◌↔◌, ◌∙◌, ap, refl, rules, subst, sym}
use Rattle.std.specs.Bool.{IsTrue}
use Rattle.std.specs.Cmp.Rules.{comparing}
use Rattle.std.specs.List.{Contains}
use Rattle.std.proofs.lemmas.Bool.{false≢true}
use Rattle.external_dependencies.specs.declared.links.Link.{Link}
use Rattle.external_dependencies.proofs.OrderLemmas.{named_once}
use Rattle.plan_store_lists.specs.LinkBlocks.{names_of, names_ties}
use Rattle.plan_store_lists.specs.declared.namings.Names.{Names}
use Rattle.plan_store_lists.proofs.KeyLemmas.{missed_all}
use Rattle.plan_store_lists.proofs.LinkBlockLemmas.{names_total}
use Rattle.plan_store_lists.proofs.link_blocks.LinkBlocks.contains.Goals as goal

pub returns-in-Ok : goal.returns-in-Ok
returns-in-Ok c =
    let list = c.list-list.result.now in
    let link = c.args.link.now in
    let found = c.index-list-place.result in
    let taken = rw c.key.ensures at c.in-Ok.ensures.taken in
    let at : Contains list found = (c.in-Ok.place, taken.0, sym c.index-list-place.is) in
    let names : names_of found ≡ names_of link = ap names_of c.index-list-place.is ∙ taken.1 found in
    let same : IsTrue c.eq.result ↔ (found.within ≡ link.within) = search (comparing, rules) in
    let all = c.list-list.ensures.all link in (
      (λ yes.
          let limit = same.0 yes in
          let is : found ≡ link = λ i. record {
            app = (names i).first;
            predecessor = (names i).second;
            within = limit i;
          } in
          (all.0 (subst (Contains list) is at)).0),
      λ there.
          let listed = all.1 (there, refl) in
          same.1 (ap (λ (l : Link). l.within) (named_once list c.list-list.ensures.rising found link at listed (
            ap (λ (n : Names). n.first) names,
            ap (λ (n : Names). n.second) names,
          ))),
    )

pub returns-in-Err : goal.returns-in-Err
returns-in-Err c =
    let list = c.list-list.result.now in
    let link = c.args.link.now in
    let free = (rw c.key.ensures at c.in-Err.ensures.free) c.list-list.ensures.rising in
    let lacks = missed_all names_total names_ties names_of list (names_of link) c.in-Err.field-0 free.1 in (
      (λ no. absurd (false≢true no)),
      λ there. absurd (lacks link ((c.list-list.ensures.all link).1 (there, refl)) refl),
    )
