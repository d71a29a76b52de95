use Rattle.std.proofs.Common.{◌≡◌, Some}
use Rattle.std.specs.List.{AllWithin}
use Rattle.std.specs.FinMap as map
use Rattle.app_definition_soundness.proofs.given.names_are_given.Given as goal

abbrev pub invariant-loop-name : goal.invariant-loop-name
invariant-loop-name g l = AllWithin (λ name. (d : _) → map.get l.definitions name ≡ Some d
    → g.D.Given.IsGiven name d) l.names 0 l.name-index
