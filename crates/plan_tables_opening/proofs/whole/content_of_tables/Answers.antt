use Rattle.plan_store.specs.Contents.{content_of}
use Rattle.plan_tables_schema.proofs.ResultLemmas.{if_ok}
use Rattle.plan_tables_loading.proofs.TableLemmas.{at_some, if_some}
use Rattle.plan_tables_opening.proofs.StoredLemmas.{stored_content}
use Rattle.plan_tables_opening.proofs.whole.content_of_tables.Goals as goal

pub returns-in-Some-clause-made : goal.returns-in-Some-clause-made
returns-in-Some-clause-made c =
    let rows = at_some c.in_ok-definitions.field-0 c.in-Some.definitions _ c.in-Some.is c.in_ok-definitions.ensures.made in
    if_ok c.some_content.result _ _ (λ found some. if_some found _ _ (λ content has all plans stored. stored_content all
    c.args.lists c.args.stored.now c.in-Some.definitions (content_of content) rows has plans stored) some)
    c.some_content.ensures.made

pub returns-in-None-clause-refused : goal.returns-in-None-clause-refused
returns-in-None-clause-refused c none = c.in_ok-definitions.ensures.refused c.in-None.is
