use Rattle.std.proofs.Common.{refl, rules}
use Rattle.csv.specs.Records.{fields_of}
use Rattle.run_cycles.specs.declared.cycles.RunCycle.{RunCycle}
use Rattle.app_definition_records.specs.CycleRecords.{SpellsRunCycle}
use Rattle.app_definition_records.proofs.cycle_records.run_cycle_with.Goals as goal

pub returns-clause-valid : goal.returns-clause-valid
returns-clause-valid c =
    let cycle : RunCycle = record {
      name = c.in_ok-name.name;
      kind = c.in_ok-kind.kind;
      period = c.in_ok-period.period;
      rule = c.in_ok-rule.rule;
      offsets = c.args.offsets;
      in_effect =
          c.in_ok-in_effect.in_effect;
      out_effect = c.in_ok-out_effect.out_effect;
      ia = c.in_ok-ia.ia;
    } in
    let s : SpellsRunCycle (fields_of c.args.row.now)
    (record {
      name = c.in_ok-name.name;
      kind = c.in_ok-kind.kind;
      period = c.in_ok-period.period;
      rule = c.in_ok-rule.rule;
      offsets = c.args.offsets;
      in_effect = c.in_ok-in_effect.in_effect;
      out_effect =
          c.in_ok-out_effect.out_effect;
      ia = c.in_ok-ia.ia;
    }) = search rules in
    (λ some. (cycle, s), λ spelled. refl)
