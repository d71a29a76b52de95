use Rattle.std.proofs.Common.{◌≤◌, sym}
use Rattle.work_calendars.specs.WorkIndex.{is_work_in}
use Rattle.run_cycles.specs.declared.cycles.RunCycle.{RunCycle}
use Rattle.run_cycles.specs.declared.namings.Naming.{Naming}
use Rattle.run_cycles.specs.Naming.{IsNamingOf}
use Rattle.run_cycles.proofs.NamingLemmas.{all_lists, more_lists, window_any}
use Rattle.run_cycles.proofs.namings.sources.Goals as goal

pub loop-cycle-preserved : goal.loop-cycle-preserved
loop-cycle-preserved c =
    let G : RunCycle → Naming → Type 0 = λ cycle x. (c.args.from ≤ x.day) ×
    (x.day ≤ c.args.to) × IsNamingOf c.args.periods.now (is_work_in c.args.index.now) x cycle in (
      more_lists G c.args.cycles.now c.loop-cycle.cycle-index c.cycle-item.result c.loop-cycle-test.true
          (sym c.cycle-item.is) c.loop-cycle.sources.items c.push_namings.new.sources.items
          c.loop-cycle.invariant.0 c.in_ok-push_namings.ensures.each,
      c.in_ok-push_namings.ensures.rising c.loop-cycle.invariant.1,
    )

pub returns-clause-each : goal.returns-clause-each
returns-clause-each c =
    let work = is_work_in c.args.index.now in
    let G : RunCycle → Naming → Type 0 = λ cycle x. (c.args.from ≤ x.day) ×
    (x.day ≤ c.args.to) × IsNamingOf c.args.periods.now work x cycle in
    λ x.
    let some = all_lists G c.args.cycles.now c.loop-cycle.cycle-index
    c.loop-cycle.sources.items c.loop-cycle-test.false c.loop-cycle.invariant.0 x in
    let window = window_any c.args.from c.args.to (λ cycle y.
    IsNamingOf c.args.periods.now work y cycle) c.args.cycles.now x in
    ((λ h. window.0 (some.0 h)), λ h. some.1 (window.1 h))
