use Rattle.std.proofs.Common.{◌≡◌, ◌≢◌, ◌↔◌, ◌∙◌, List, subst, sym}
use Rattle.std.specs.List.{Contains}
use Rattle.external_dependencies.specs.declared.links.Link.{Link}
use Rattle.external_dependencies.proofs.NearestLemmas.{names_differ, names_equal}
use Rattle.plan_store_lists.specs.ListsThen.{links_then}
use Rattle.plan_store_lists.proofs.LinkBlockLemmas.{other_list, own_list, then_none, then_some}
use Rattle.plan_store_lists.proofs.lists_then.ListsThen.list.Goals as goal
use Rattle.plan_store_lists.proofs.lists_then.ListsThen.list.Goals.{in-Some+else-eq, in_default}

pub returns-then-eq-clause-all : goal.returns-then-eq-clause-all
returns-then-eq-clause-all c =
    let then = c.args.self.now in
    let app = c.args.app.now in
    let own = c.in-Some.own.now in
    let same : own.app ≡ app = names_equal own.app app (sym c.eq.ensures ∙ c.if-eq.true) in
    let are : (link : Link) → Contains own.links.items link ↔ (Contains (links_then then) link × (link.app ≡ app)) =
    λ link. subst (λ (l : List Link). Contains own.links.items link ↔ (Contains l link × (link.app ≡ app)))
    (sym (then_some then c.in-Some.own c.in-Some.is))
    (own_list own.app own.links.items then.lists.now.items own.own app same link) in
    rw c.as_slice.ensures.value are

pub returns-clause-all : goal.returns-clause-all
returns-clause-all c =
    let then = c.args.self.now in
    let app = c.args.app.now in
    let found = c.list.result.now in
    elim c.match-self.branch [
      | in-Some+else-eq w ↦ λ link.
          let own = w.in-Some.own.now in
          let apart : own.app ≢ app = names_differ own.app app (sym w.eq.ensures ∙ w.if-eq.false) in
          subst (λ (l : List Link). Contains found link ↔ (Contains l link × (link.app ≡ app)))
          (sym (then_some then w.in-Some.own w.in-Some.is))
          (other_list own.app own.links.items then.lists.now.items found own.own app apart c.list.ensures.all link)
      | in_default w ↦ λ link. subst (λ (l : List Link). Contains found link ↔ (Contains l link × (link.app ≡ app)))
          (sym (then_none then w.in_default.is)) (c.list.ensures.all link)
    ]
