use Rattle.std.proofs.Common.{subst}
use Rattle.std.proofs.lemmas.Result.{on_ok_weaker}
use Rattle.plan_tables_content.specs.Facts.{IsPredecessorRow}
use Rattle.plan_tables_definitions.specs.Adding.{Adds}
use Rattle.plan_tables_definitions.proofs.PartLemmas.{predecessors_added}
use Rattle.plan_tables_definitions.proofs.predecessors.PredecessorRowsEncoding.push.Goals as goal

pub returns : goal.returns
returns c = on_ok_weaker c.push_links.result
    (λ h. subst (λ d. Adds 2 (IsPredecessorRow c.args.name.now d) c.args.rows.now.items c.push_links.new.rows.items)
    c.as_slice.ensures.value
    (predecessors_added c.args.name.now c.as_slice.result.now c.args.rows.now.items c.push_links.new.rows.items h))
    c.push_links.ensures
