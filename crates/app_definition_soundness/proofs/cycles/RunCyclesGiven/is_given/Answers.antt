use Rattle.std.proofs.Common.{List, subst, sym}
use Rattle.run_cycles.specs.declared.cycles.RunCycle.{RunCycle}
use Rattle.app_definition_records.specs.Rising.{AreRising}
use Rattle.app_definition_soundness.specs.Values.{AreCycleValues}
use Rattle.app_definition_soundness.proofs.CycleRecords.{cycles_given, cycles_value}
use Rattle.app_definition_soundness.proofs.cycles.RunCyclesGiven.is_given.Goals as goal

pub returns : goal.returns
returns c =
    let name = c.args.name.now in
    let cycles = c.args.self.now in
    let same = c.as_slice.ensures.value in (
      (λ yes.
          let values = subst (AreCycleValues name) same (c.are_run_cycles.ensures.0 yes) in
          cycles_given name cycles
          (subst (λ (l : List RunCycle). AreRising (λ cycle. cycle.name) l) same c.as_slice.ensures.rising)
          values.cycles values.named values.some),
      λ given. c.are_run_cycles.ensures.1
          (subst (AreCycleValues name) (sym same) (cycles_value name cycles given)),
    )
