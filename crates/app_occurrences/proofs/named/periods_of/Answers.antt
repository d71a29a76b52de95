use Rattle.std.proofs.Common.{◌≡◌, ◌+◌, sym, subst, ◌∙◌, arith, rules}
use Rattle.std.specs.Prelude.{Some, None}
use Rattle.std.specs.FinMap as map
use Rattle.run_cycles.specs.Occurrence.{PeriodMap}
use Rattle.app_occurrences.proofs.NamedLemmas.{AgreeBefore, IsWithin, nothing_yet, agree_more, absent_stays}
use Rattle.app_occurrences.proofs.NamedLemmas.{agree_inserted, within_inserted, same_inserted}
use Rattle.app_occurrences.proofs.named.periods_of.Goals.{in-Some+in_ok-clone+in_ok-insert, in_default}
use Rattle.app_occurrences.proofs.named.periods_of.Goals as goal

pub loop-cycle-init : goal.loop-cycle-init
loop-cycle-init c =
    (λ k d below. absurd (omega arith), nothing_yet c.args.all.now.periods c.new-periods.result c.new-periods.ensures)

pub loop-cycle-preserved : goal.loop-cycle-preserved
loop-cycle-preserved c =
    let all = c.args.all.now.periods in
    let some = c.loop-cycle.periods in
    let cycle = c.cycle-item.result in
    let (agree, within) = c.loop-cycle.invariant in
    let holds = λ (m : PeriodMap). AgreeBefore all m c.args.cycles.now (c.loop-cycle.cycle-index + 1)
    × IsWithin all m in
    elim c.match-get.branch [
      | in-Some+in_ok-clone+in_ok-insert w ↦
          let p = w.in_ok-clone.field-0 in
          let there : map.get all cycle.period ≡ Some p = search rules in
          let agree' = agree_inserted all some c.args.cycles.now c.loop-cycle.cycle-index cycle.period p there agree in
          let same = same_inserted all some cycle.period p there in
          subst holds (sym (w.periods-is ∙ w.in_ok-insert.ensures.ok)) (
            agree_more all (map.insert some cycle.period p) c.args.cycles.now c.loop-cycle.cycle-index cycle
                c.loop-cycle-test.true c.cycle-item.is same agree',
            within_inserted all some cycle.period p there within,
          )
      | in_default w ↦
          let none : map.get all cycle.period ≡ None = search rules in
          let same = absent_stays all some cycle.period within none in
          subst holds (sym w.periods-is) (
            agree_more all some c.args.cycles.now c.loop-cycle.cycle-index cycle c.loop-cycle-test.true
                c.cycle-item.is same agree,
            within,
          )
    ]
