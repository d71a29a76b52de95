use Rattle.std.proofs.Common.{rules, List, sym, subst}
use Rattle.work_calendars.specs.WorkIndex.{is_work_in}
use Rattle.run_cycles.specs.declared.namings.Naming.{Naming}
use Rattle.run_cycles.specs.Naming.{RisesByDay, given_by}
use Rattle.run_cycles.proofs.NamingLemmas.{cycle_names, on_rising_days}
use Rattle.run_cycles.proofs.namings.namings_of.Goals as goal

pub returns-clause-each : goal.returns-clause-each
returns-clause-each c =
    cycle_names c.args.cycle.now c.args.period.now (is_work_in c.args.index.now)
    c.args.from c.args.to c.in_ok-days.days.left c.namings_on.result
    (search rules) c.namings_on.ensures

pub returns-clause-rising : goal.returns-clause-rising
returns-clause-rising c =
    let P : List Naming → Type 0 = λ l. RisesByDay l in
    subst P (sym c.namings_on.ensures) (on_rising_days c.args.cycle.now.ia
    (given_by c.args.cycle.now.kind c.args.cycle.now.name) c.in_ok-days.days.left c.in_ok-days.ensures.lists.rising)
