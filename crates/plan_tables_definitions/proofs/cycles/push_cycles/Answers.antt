use Rattle.std.proofs.Common.{arith, subst}
use Rattle.plan_tables_content.specs.Facts.{cycle_values}
use Rattle.plan_tables_definitions.specs.Adding.{Adds, IsOfPlace}
use Rattle.plan_tables_definitions.specs.Parts.{IsRowOfCycle}
use Rattle.plan_tables_definitions.proofs.AddLemmas.{adds_step, get_at, row_added}
use Rattle.plan_tables_definitions.proofs.KeyLemmas.{apart_before, cycles_apart}
use Rattle.plan_tables_definitions.proofs.cycles.push_cycles.Goals as goal

pub loop-cycle-preserved : goal.loop-cycle-preserved
loop-cycle-preserved c = adds_step 2 (λ _. IsRowOfCycle c.args.app.now) c.args.cycles.now c.loop-cycle.cycle-index
    c.cycle-item.result c.args.rows.now.items c.loop-cycle.rows.items c.push.new.self.items
    (get_at c.args.cycles.now c.loop-cycle.cycle-index c.cycle-item.result c.loop-cycle-test.true c.cycle-item.is)
    (apart_before 2 (IsRowOfCycle c.args.app.now) (λ cycle. cycle.name) c.args.cycles.now c.loop-cycle.cycle-index
    c.cycle-item.result c.requires
    (get_at c.args.cycles.now c.loop-cycle.cycle-index c.cycle-item.result c.loop-cycle-test.true c.cycle-item.is)
    (λ cycle v w. cycles_apart c.args.app.now cycle c.cycle-item.result v w))
    c.loop-cycle.invariant
    (row_added 2 (cycle_values c.args.app.now c.cycle-item.result) c.in_ok-row.row c.loop-cycle.rows.items
    c.push.new.self.items c.in_ok-row.ensures
    c.in_ok-push.ensures.items)

pub returns : goal.returns
returns c = subst (λ n. Adds 2 (IsOfPlace (λ _. IsRowOfCycle c.args.app.now) c.args.cycles.now n) c.args.rows.now.items
    c.loop-cycle.rows.items) (omega (arith, c.loop-cycle-test.false, c.loop-cycle.auto.cycle-index-end))
    c.loop-cycle.invariant
