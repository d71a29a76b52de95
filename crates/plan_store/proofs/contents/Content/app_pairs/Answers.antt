use Rattle.std.proofs.Common.{List, subst}
use Rattle.external_dependencies.specs.declared.pairs.Pair.{Pair}
use Rattle.plan_store_lists.specs.Rows.{of_current, of_deletion, of_row}
use Rattle.plan_store.specs.AppPairs.{AddsPairs}
use Rattle.plan_store.specs.Contents.{content_of}
use Rattle.plan_store.proofs.AppPairLemmas.{has_app_pairs, part_has}
use Rattle.plan_store.proofs.contents.Content.app_pairs.Goals as goal

pub returns : goal.returns
returns c =
    let kept = c.args.self.now in
    let app = c.args.app.now in
    has_app_pairs app (content_of kept).sets c.args.others.now kept.pairs c.of_app.result.now c.of_app-2.result.now
    c.of_app-3.result.now c.of_app-4.result.now
    (part_has of_row kept.ltp.items c.of_app.result.now app c.of_app.ensures.all)
    (part_has of_current kept.cp.items c.of_app-2.result.now app c.of_app-2.ensures.all)
    (part_has of_row kept.history.items c.of_app-3.result.now app c.of_app-3.ensures.all)
    (part_has of_deletion kept.deletions.items c.of_app-4.result.now app c.of_app-4.ensures.all)
    c.push_pairs.new.found.items c.push_pairs-2.new.found.items c.push_pairs-3.new.found.items
    c.push_pairs-4.new.found.items c.push_pairs-5.new.found.items
    (subst (λ (l : List Pair). AddsPairs of_row app kept.pairs c.of_app.result.now l c.push_pairs.new.found.items)
    c.new-found.ensures.items c.in_ok-push_pairs.ensures)
    c.in_ok-push_pairs-2.ensures c.in_ok-push_pairs-3.ensures c.in_ok-push_pairs-4.ensures
    c.in_ok-push_pairs-5.ensures c.from_vec.result c.from_vec.ensures
