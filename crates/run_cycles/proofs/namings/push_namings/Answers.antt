use Rattle.std.proofs.Common.{rules, ◌≡◌, ◌≤◌, Some}
use Rattle.work_calendars.specs.WorkIndex.{is_work_in}
use Rattle.plan_periods.specs.declared.periods.Period.{Period}
use Rattle.std.specs.FinMap as map
use Rattle.run_cycles.specs.Naming.{IsNamingOf, IsNamingWith}
use Rattle.run_cycles.proofs.NamingLemmas.{adds_list, some_period}
use Rattle.run_cycles.proofs.namings.push_namings.Goals as goal

pub returns-in_ok-push-clause-each : goal.returns-in_ok-push-clause-each
returns-in_ok-push-clause-each c =
    let work = is_work_in c.args.index.now in
    let there : map.get c.args.periods.now c.args.cycle.now.period ≡ Some c.in-Some.period.now = search rules in
    adds_list (λ x. (c.args.from ≤ x.day) × (x.day ≤ c.args.to) ×
    IsNamingOf c.args.periods.now work x c.args.cycle.now)
    c.args.sources.now.items c.push.new.self.items c.in_ok-namings_of.field-0 c.in_ok-push.ensures.items
    (λ x.
    let of = some_period (map.get c.args.periods.now c.args.cycle.now.period) c.in-Some.period.now
    (λ (p : Period). IsNamingWith p work x c.args.cycle.now) there in
    let each = c.in_ok-namings_of.ensures.each x in (
      (λ h. let (l, u, n) = each.0 h in (l, u, of.0 n)),
      λ (l, u, n). each.1 (l, u, of.1 n),
    ))
