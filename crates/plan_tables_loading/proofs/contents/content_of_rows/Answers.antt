use Rattle.plan_store.specs.Contents.{content_of}
use Rattle.plan_tables_loading.proofs.ListLemmas.{fits_first, has_first}
use Rattle.plan_tables_loading.proofs.contents.content_of_rows.Goals as goal

pub apply-requires : goal.apply-requires
apply-requires c = fits_first c.args.rows c.change_of_rows-change.result c.change_of_rows-change.ensures
    (content_of c.new-content.result) c.new-content.ensures

pub returns : goal.returns
returns c = has_first c.args.rows c.change_of_rows-change.result c.change_of_rows-change.ensures
    (content_of c.new-content.result) (content_of c.apply.new.self) c.new-content.ensures c.in_ok-apply.ensures.ok
