-- A change of definitions that is begun.
use Rattle.std.proofs.Common.{◌≡◌, refl}
use Rattle.app_definitions.specs.declared.definitions.Definitions.{Definitions}
use Rattle.app_definitions.specs.declared.kinds.Kind.TheVariants as kind
use Rattle.plan_store.specs.Changes.{redefined}
use Rattle.plan_store.specs.Redefining.{half_redefined}
use Rattle.plan_store.specs.declared.changes.DefinitionChange.{DefinitionChange}
use Rattle.plan_store.specs.declared.changes.DefinitionChange.TheVariants.{AsBefore, Merged, Removed}

-- its options are there from the beginning
pub same_options : (change : DefinitionChange) (all : Definitions)
    → (half_redefined change all).options ≡ (redefined change all).options
same_options AsBefore all = refl
same_options (Merged block) all = refl
same_options (Removed kind.Applications name) all = refl
same_options (Removed kind.Calendars name) all = refl
same_options (Removed kind.Periods name) all = refl
same_options (Removed kind.Predecessors name) all = refl
same_options (Removed kind.RunCycles name) all = refl
same_options (Removed kind.Options name) all = refl
