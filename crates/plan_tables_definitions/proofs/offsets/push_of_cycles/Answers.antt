use Rattle.std.proofs.Common.{arith, subst}
use Rattle.plan_tables_definitions.specs.Adding.{Adds, IsOfPlace}
use Rattle.plan_tables_definitions.specs.Parts.{IsOffsetOf}
use Rattle.plan_tables_definitions.proofs.AddLemmas.{adds_step, get_at}
use Rattle.plan_tables_definitions.proofs.KeyLemmas.{apart_before, offsets_apart}
use Rattle.plan_tables_definitions.proofs.offsets.push_of_cycles.Goals as goal

pub loop-cycle-preserved : goal.loop-cycle-preserved
loop-cycle-preserved c = adds_step 3 (λ _. IsOffsetOf c.args.app.now) c.args.cycles.now c.loop-cycle.cycle-index
    c.cycle-item.result c.args.rows.now.items c.loop-cycle.rows.items c.push_of_cycle.new.rows.items
    (get_at c.args.cycles.now c.loop-cycle.cycle-index c.cycle-item.result c.loop-cycle-test.true c.cycle-item.is)
    (apart_before 3 (IsOffsetOf c.args.app.now) (λ cycle. cycle.name) c.args.cycles.now c.loop-cycle.cycle-index
    c.cycle-item.result c.requires
    (get_at c.args.cycles.now c.loop-cycle.cycle-index c.cycle-item.result c.loop-cycle-test.true c.cycle-item.is)
    (λ cycle v w. offsets_apart c.args.app.now cycle c.cycle-item.result v w))
    c.loop-cycle.invariant c.in_ok-push_of_cycle.ensures

pub returns : goal.returns
returns c = subst (λ n. Adds 3 (IsOfPlace (λ _. IsOffsetOf c.args.app.now) c.args.cycles.now n) c.args.rows.now.items
    c.loop-cycle.rows.items) (omega (arith, c.loop-cycle-test.false, c.loop-cycle.auto.cycle-index-end))
    c.loop-cycle.invariant
