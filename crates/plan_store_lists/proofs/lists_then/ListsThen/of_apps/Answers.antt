use Rattle.std.proofs.Common.{◌≡◌, take, take_all, arith}
use Rattle.plan_store_lists.specs.ListsThen.{links_then}
use Rattle.plan_store_lists.proofs.LinkBlockLemmas.{apps_more, kept_among, then_rising}
use Rattle.plan_store_lists.proofs.lists_then.ListsThen.of_apps.Goals as goal

pub loop-app-preserved : goal.loop-app-preserved
loop-app-preserved c =
    rw c.in_ok-extend_from_slice.ensures.items (apps_more (links_then c.args.self.now) c.loop-app.found.items
    c.list.result.now c.args.apps.now c.loop-app.app-index c.app-item.result c.loop-app-test.true c.app-item.is
    c.loop-app.invariant c.list.ensures.all)

pub returns : goal.returns
returns c =
    let all = links_then c.args.self.now in
    let kept = kept_among all c.loop-app.found.items c.from_vec.result (then_rising c.args.self.now c.rise.ensures)
    (λ link there. ((c.loop-app.invariant link).0 there).0) c.from_vec.ensures.kept in
    let whole : take c.loop-app.app-index c.args.apps.now ≡ c.args.apps.now = take_all c.loop-app.app-index
    c.args.apps.now (omega arith) in
    let are = rw whole at c.loop-app.invariant in
    λ link. (
      (λ there. (are link).0 ((kept link).0 there)),
      λ both. (kept link).1 ((are link).1 both),
    )
