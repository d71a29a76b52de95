-- What is left of a change that is staged fits still.
use Rattle.std.proofs.Common.{List}
use Rattle.app_definitions.specs.declared.definitions.Definitions.{Definitions}
use Rattle.external_dependencies.specs.declared.pairs.Pair.{Pair}
use Rattle.planner_machine.specs.Content.{Content}
use Rattle.plan_store.specs.Changes.{Fits}
use Rattle.plan_store.specs.Room.{with_definitions, with_pairs_of}
use Rattle.plan_store.specs.declared.changes.Change.{Change}
use Rattle.plan_store.specs.declared.changes.DefinitionChange.{DefinitionChange}

-- a change without that of the definitions fits as it did, with other definitions and pairs too
pub still_fits : (change : Change) (d : DefinitionChange) (c : Content) (definitions : Definitions) (pairs : List Pair)
    → Fits change c → Fits (record change { definitions = d }) (with_definitions definitions (with_pairs_of pairs c))
still_fits change d c definitions pairs fits = record {
  ltp = fits.ltp;
  cp = fits.cp;
  history = fits.history;
  deletions = fits.deletions;
  job = fits.job;
}
