use Rattle.std.proofs.Common.{refl, rules}
use Rattle.run_cycles.specs.declared.cycles.Deadline.{Deadline}
use Rattle.app_definition_records.specs.CycleRecords.{SpellsDeadline}
use Rattle.app_definition_records.proofs.cycle_records.deadline_of.Goals as goal

pub returns-clause-valid : goal.returns-clause-valid
returns-clause-valid c =
    let deadline : Deadline = record { days = c.in_ok-days.field-0; time = c.in_ok-time.time } in
    let s : SpellsDeadline c.args.day.now c.args.time.now
    (record { days = c.in_ok-days.field-0; time = c.in_ok-time.time }) = search rules in
    (λ some. (deadline, s), λ spelled. refl)
