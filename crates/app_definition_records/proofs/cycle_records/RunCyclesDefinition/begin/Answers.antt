use Rattle.std.proofs.Common.{rules}
use Rattle.csv.specs.Records.{fields_of}
use Rattle.app_definition_records.specs.CycleRecords.{SpellsRunCycle}
use Rattle.app_definition_records.proofs.CycleLemmas.{run_cycles-one}
use Rattle.app_definition_records.proofs.cycle_records.RunCyclesDefinition.begin.Goals as goal

pub returns : goal.returns
returns c =
    let s : SpellsRunCycle (fields_of c.args.row.now) c.in-Some.cycle = search rules in
    record {
      fits = search rules;
      made = rw (c.in_ok-push.ensures.items, c.new-cycles.ensures.items)
          (run_cycles-one (fields_of c.args.row.now) c.in-Some.cycle s);
    }
