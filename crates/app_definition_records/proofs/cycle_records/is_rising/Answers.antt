use Rattle.std.proofs.Common.{◌∙◌, ◌-◌, sym, ap, refl, get_or}
use Rattle.std.proofs.lemmas.Bool.{false≢true}
use Rattle.run_cycles.specs.declared.cycles.RunCycle.{RunCycle}
use Rattle.app_definition_records.proofs.RisingLemmas.{rises_none, rises_more, rising_all, not_rising}
use Rattle.app_definition_records.proofs.cycle_records.is_rising.Goals as goal

pub loop-i-init : goal.loop-i-init
loop-i-init c = rises_none (λ (cycle : RunCycle). cycle.name) c.args.cycles.now

pub returns-then-ge : goal.returns-then-ge
returns-then-ge c =
    let all = c.args.cycles.now in
    let i = c.loop-i.i in (
      λ yes. absurd (false≢true yes),
      λ rising. absurd (not_rising (λ (cycle : RunCycle). cycle.name) all i
          (get_or all (i - 1) c.index-cycles-i.result) (get_or all i c.index-cycles-i-in-loop-i.result)
          c.loop-i.auto.i c.loop-i-test.true (ap (λ x. get_or all (i - 1) x) c.index-cycles-i.is)
          (ap (λ x. get_or all i x) c.index-cycles-i-in-loop-i.is)
          (sym c.ge.ensures ∙ c.if-ge.true) rising),
    )

pub loop-i-preserved : goal.loop-i-preserved
loop-i-preserved c =
    let all = c.args.cycles.now in
    let i = c.loop-i.i in
    rises_more (λ (cycle : RunCycle). cycle.name) all i (get_or all (i - 1) c.index-cycles-i.result)
    (get_or all i c.index-cycles-i-in-loop-i.result)
    c.loop-i.invariant c.loop-i.auto.i c.loop-i-test.true (ap (λ x. get_or all (i - 1) x) c.index-cycles-i.is)
    (ap (λ x. get_or all i x) c.index-cycles-i-in-loop-i.is)
    (sym c.ge.ensures ∙ c.if-ge.false)

pub returns : goal.returns
returns c = (
  λ yes. rising_all
      (λ (cycle : RunCycle). cycle.name) c.args.cycles.now c.loop-i.i c.loop-i.invariant c.loop-i-test.false,
  λ rising. refl,
)
