use Rattle.plan_store_lists.specs.Rows.{of_row}
use Rattle.plan_tables_queries.proofs.AllLemmas.{lists_all, tells_each}
use Rattle.plan_tables_queries.proofs.FindLemmas.{finds_told}
use Rattle.plan_tables_queries.proofs.NumberLemmas.{history_numbered}
use Rattle.plan_tables_queries.proofs.finding.completed_rows.Goals as goal

pub returns : goal.returns
returns g c = finds_told g.S.Store c.args.conn.now c.decode_all.new.conn c.decode_all.result _ _ _
    (λ all content is found same. lists_all _ _ of_row _ _ history_numbered all content is found.items same)
    (λ all content is sound. tells_each _ _ of_row _ _ history_numbered all content is sound) c.decode_all.ensures
