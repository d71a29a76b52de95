use Rattle.plan_store_lists.specs.Rows.{of_deletion}
use Rattle.plan_tables_queries.proofs.AllLemmas.{lists_all, tells_each}
use Rattle.plan_tables_queries.proofs.FindLemmas.{finds_told}
use Rattle.plan_tables_queries.proofs.NumberLemmas.{deletions_numbered}
use Rattle.plan_tables_queries.proofs.finding.deleted_rows.Goals as goal

pub returns : goal.returns
returns g c = finds_told g.S.Store c.args.conn.now c.decode_all.new.conn c.decode_all.result _ _ _
    (λ all content is found same. lists_all _ _ of_deletion _ _ deletions_numbered all content is found.items same)
    (λ all content is sound. tells_each _ _ of_deletion _ _ deletions_numbered all content is sound) c.decode_all.ensures
