use Rattle.std.proofs.Common.{◌↔◌, List, subst, sym}
use Rattle.std.specs.List.{Contains}
use Rattle.std.proofs.lemmas.List.Elements.{All-contains}
use Rattle.std.proofs.lemmas.Result.{IfOk-weaker}
use Rattle.external_dependencies.specs.declared.links.Link.{Link}
use Rattle.plan_store_lists.specs.ListsThen.{links_then}
use Rattle.long_term_plan.specs.Lists.{AreListed}
use Rattle.long_term_plan.proofs.lists.loop_through.Goals as goal

-- the lists of the names are those that the application leads to
pub returns-then-are_listed : goal.returns-then-are_listed
returns-then-are_listed c =
    let all = links_then c.args.lists.now in
    let some = c.in_ok-some.some in
    let names = c.in_ok-names.names.items in
    let are : (link : Link) → Contains some link ↔ (Contains all link × Contains names link.app) =
    rw c.deref.ensures.value at c.in_ok-some.ensures in
    let own : Contains names c.args.app.now = rw c.deref-2.ensures.value at c.has_app.ensures c.if-has_app.true in
    let listed : AreListed names some =
    rw (c.deref-then-has_app.ensures.value, c.as_slice.ensures.all) at c.are_listed.ensures c.if-are_listed.true in
    IfOk-weaker c.find_loop_through.result _ _ (λ found least pass. least all (record {
      only = λ link there. ((are link).0 there).0;
      own = λ link there same. (are link).1 (there, subst (Contains names) (sym same) own);
      on = λ link next there at same. (are next).1 (
        at,
        subst (Contains names) (sym same) (All-contains (λ (l : Link). Contains names l.predecessor) some link listed there),
      );
    }) pass) c.find_loop_through.ensures

pub returns : goal.returns
returns c = IfOk-weaker c.find_loop-else-has_app.result _ _ (λ found least pass. rw c.in_ok-to_links.ensures at least)
    c.find_loop-else-has_app.ensures
