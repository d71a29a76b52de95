use Rattle.std.proofs.Common.{◌≡◌, List, ◌++◌}
use Rattle.toml.proofs.Views.{Entry}
use Rattle.app_definitions.proofs.OptionLemmas.{OnlyKeys}
use Rattle.app_definitions.proofs.option_blocks.has_only_options.Given as goal

abbrev pub invariant-loop-key : goal.invariant-loop-key
invariant-loop-key l = (done : List Entry) × (l.table.entries ≡ done ++ l.key-iterator) × OnlyKeys done
