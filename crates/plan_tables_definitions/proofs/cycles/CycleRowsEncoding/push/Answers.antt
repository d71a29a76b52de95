use Rattle.std.proofs.Common.{subst}
use Rattle.std.proofs.lemmas.Result.{on_ok_weaker}
use Rattle.plan_tables_content.specs.Facts.{IsCycleRow}
use Rattle.plan_tables_definitions.specs.Adding.{Adds}
use Rattle.plan_tables_definitions.proofs.PartLemmas.{cycles_added}
use Rattle.plan_tables_definitions.proofs.cycles.CycleRowsEncoding.push.Goals as goal

pub returns : goal.returns
returns c = on_ok_weaker c.push_cycles.result
    (λ h. subst (λ d. Adds 2 (IsCycleRow c.args.name.now d) c.args.rows.now.items c.push_cycles.new.rows.items)
    c.as_slice.ensures.value
    (cycles_added c.args.name.now c.as_slice.result.now c.args.rows.now.items c.push_cycles.new.rows.items h))
    c.push_cycles.ensures
