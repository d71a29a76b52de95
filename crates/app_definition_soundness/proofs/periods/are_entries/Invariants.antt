use Rattle.std.specs.List.{AllWithin}
use Rattle.app_definition_soundness.specs.Values.{IsEntryValue}
use Rattle.app_definition_soundness.proofs.periods.are_entries.Given as goal

abbrev pub invariant-loop-entry : goal.invariant-loop-entry
invariant-loop-entry l = AllWithin IsEntryValue l.entries 0 l.entry-index
