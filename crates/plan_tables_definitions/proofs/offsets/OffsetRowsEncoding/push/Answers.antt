use Rattle.std.proofs.Common.{subst}
use Rattle.std.proofs.lemmas.Result.{on_ok_weaker}
use Rattle.plan_tables_content.specs.Facts.{IsOffsetRow}
use Rattle.plan_tables_definitions.specs.Adding.{Adds}
use Rattle.plan_tables_definitions.proofs.PartLemmas.{offsets_added}
use Rattle.plan_tables_definitions.proofs.offsets.OffsetRowsEncoding.push.Goals as goal

pub returns : goal.returns
returns c = on_ok_weaker c.push_of_cycles.result
    (λ h. subst (λ d. Adds 3 (IsOffsetRow c.args.name.now d) c.args.rows.now.items c.push_of_cycles.new.rows.items)
    c.as_slice.ensures.value
    (offsets_added c.args.name.now c.as_slice.result.now c.args.rows.now.items c.push_of_cycles.new.rows.items h))
    c.push_of_cycles.ensures
