use Rattle.std.proofs.Common.{subst, length}
use Rattle.std.proofs.lemmas.Result.{on_ok_weaker}
use Rattle.plan_tables_definitions.specs.Adding.{Adds, IsOfPlace}
use Rattle.plan_tables_definitions.specs.Parts.{IsOffsetAt}
use Rattle.plan_tables_definitions.proofs.PartLemmas.{offsets_of_one}
use Rattle.plan_tables_definitions.proofs.offsets.push_of_cycle.Goals as goal

pub returns : goal.returns
returns c = on_ok_weaker c.push_offsets.result
    (λ h. offsets_of_one c.args.app.now c.args.cycle.now c.args.rows.now.items c.push_offsets.new.rows.items
    (subst (λ ks. Adds 3 (IsOfPlace (IsOffsetAt c.args.app.now c.args.cycle.now.name) ks (length ks))
    c.args.rows.now.items c.push_offsets.new.rows.items) c.as_slice.ensures.value h)) c.push_offsets.ensures
