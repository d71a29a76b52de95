use Rattle.std.proofs.Common.{◌≡◌, ◌+◌, ◌++◌, ◌∷◌, ◌∙◌, List, [], take, sym, ap, subst, arith}
use Rattle.std.proofs.lemmas.List.{take_all, take_more}
use Rattle.plan_store_lists.specs.Rows.{look_up, of_row}
use Rattle.plan_store.specs.HistoryReads.{HasLasts}
use Rattle.plan_store.specs.Queries.{IsQueriedIn}
use Rattle.plan_store.specs.Views.{row_serial}
use Rattle.plan_store.specs.declared.queries.LastQuery.{LastQuery}
use Rattle.plan_store.proofs.LastLemmas.{lasts_more, lasts_none}
use Rattle.plan_store.proofs.WindowLemmas.{no_rows}
use Rattle.plan_store.proofs.lasts.fill_lasts.Goals as goal

pub loop-query-init : goal.loop-query-init
loop-query-init c = rw c.clear.ensures.items (no_rows of_row, lasts_none (look_up row_serial c.args.history.now.items))

pub add_last-requires-clause-part : goal.add_last-requires-clause-part
add_last-requires-clause-part c serial row there = (c.loop-query.invariant.1.only serial row there).0

-- one more query
pub loop-query-preserved : goal.loop-query-preserved
loop-query-preserved c =
    let history = look_up row_serial c.args.history.now.items in
    let all = c.args.queries.now in
    let index = c.loop-query.query-index in
    let query = c.query-item.result in
    let new = look_up row_serial c.add_last.new.lasts.items in
    let front : take (index + 1) all ≡ take index all ++ query ∷ [] =
    take_more all index query c.loop-query-test.true ∙ ap (λ x. take index all ++ x ∷ []) (sym c.query-item.is) in (
      c.in_ok-add_last.ensures.rows,
      subst (λ (l : List LastQuery). HasLasts (IsQueriedIn l) history new) (sym front)
          (lasts_more history (look_up row_serial c.loop-query.lasts.items) new (take index all) query
          c.loop-query.invariant.1 c.in_ok-add_last.ensures.adds),
    )

-- all queries
pub returns-clause-lasts : goal.returns-clause-lasts
returns-clause-lasts c =
    subst (λ (l : List LastQuery). HasLasts (IsQueriedIn l) (look_up row_serial c.args.history.now.items)
    (look_up row_serial c.loop-query.lasts.items))
    (take_all c.loop-query.query-index c.args.queries.now (omega arith)) c.loop-query.invariant.1
