use Rattle.std.proofs.Common.{◌≡◌, ◌↔◌, ◌∙◌, List, inl, inr, subst, sym}
use Rattle.std.specs.List.{Contains}
use Rattle.external_dependencies.specs.declared.links.Link.{Link}
use Rattle.external_dependencies.proofs.OrderLemmas.{keeps_all}
use Rattle.plan_store_lists.proofs.LinkBlockLemmas.{with_list-contains, with_list-rising}
use Rattle.long_term_plan.proofs.OneListLemmas.{IsOwn, list_stays}
use Rattle.long_term_plan.proofs.lists.list_of_one.Goals as goal

-- the list in force is the one that is defined
pub returns-then-are_same-clause-puts : goal.returns-then-are_same-clause-puts
returns-then-are_same-clause-puts c =
    let own = c.from_vec-own.result in
    let kept = keeps_all c.in_ok-listed.listed.items own c.in_ok-listed.ensures.once c.from_vec-own.ensures.kept in
    list_stays c.args.all.now c.args.app.now c.args.before.now.items own c.list.result.now
    (λ link. (
      (λ there. (c.in_ok-listed.ensures.exactly link).0 ((kept link).0 there)),
      λ is. (kept link).1 ((c.in_ok-listed.ensures.exactly link).1 is),
    ))
    c.rise.ensures c.list.ensures.all (sym c.as_slice.ensures.all ∙ c.are_same.ensures c.if-are_same.true)

pub invariant_of-result : goal.invariant_of-result
invariant_of-result c =
    let own = c.from_vec-own.result in
    let kept = keeps_all c.in_ok-listed.listed.items own c.in_ok-listed.ensures.once c.from_vec-own.ensures.kept in
    record {
      rising = rw c.into_vec.ensures.all c.from_vec-own.ensures.rising;
      own = λ link there. ((c.in_ok-listed.ensures.exactly link).0 ((kept link).0
          (subst (λ (ls : List Link). Contains ls link) c.into_vec.ensures.all there))).0;
    }

pub returns-clause-puts : goal.returns-clause-puts
returns-clause-puts c =
    let all = c.args.all.now in
    let app = c.args.app.now in
    let before = c.args.before.now.items in
    let own = c.from_vec-own.result in
    let kept = keeps_all c.in_ok-listed.listed.items own c.in_ok-listed.ensures.once c.from_vec-own.ensures.kept in
    let are : (link : Link) → Contains own link ↔ IsOwn all app link = λ link. (
      (λ there. (c.in_ok-listed.ensures.exactly link).0 ((kept link).0 there)),
      λ is. (kept link).1 ((c.in_ok-listed.ensures.exactly link).1 is),
    ) in
    let is_own : (link : Link) → Contains own link → link.app ≡ app = λ link there. ((are link).0 there).0 in
    rw c.into_vec.ensures.all (record {
      rising = with_list-rising app own before c.from_vec-own.ensures.rising is_own c.rise.ensures;
      exactly = λ link. (
        (λ there. elim ((with_list-contains app own before link).0 there) [
          | inl mine ↦ inl ((are link).0 mine)
          | inr (was, other) ↦ inr (other, was)
        ]),
        λ is. elim is [
          | inl mine ↦ (with_list-contains app own before link).1 (inl ((are link).1 mine))
          | inr (other, was) ↦ (with_list-contains app own before link).1 (inr (was, other))
        ],
      );
    })
