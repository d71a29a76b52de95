use Rattle.std.proofs.Common.{◌≡◌, List, [], ◌∷◌, refl}
use Rattle.occurrences.specs.declared.status.Action.{Action}
use Rattle.occurrences.specs.declared.status.Action.TheVariants.{Start, Complete, Fail, Reset, Delete}
use Rattle.occurrences.specs.declared.status.Status.TheVariants.{C, D}
use Rattle.occurrences.specs.Status.{status_after}
use Rattle.occurrences.proofs.laws.status_changes.Goals as goal

stays_complete : (tried : List Action) → status_after C tried ≡ C
stays_complete [] = refl
stays_complete (Start ∷ tried) = stays_complete tried
stays_complete (Complete ∷ tried) = stays_complete tried
stays_complete (Fail ∷ tried) = stays_complete tried
stays_complete (Reset ∷ tried) = stays_complete tried
stays_complete (Delete ∷ tried) = stays_complete tried

stays_deleted : (tried : List Action) → status_after D tried ≡ D
stays_deleted [] = refl
stays_deleted (Start ∷ tried) = stays_deleted tried
stays_deleted (Complete ∷ tried) = stays_deleted tried
stays_deleted (Fail ∷ tried) = stays_deleted tried
stays_deleted (Reset ∷ tried) = stays_deleted tried
stays_deleted (Delete ∷ tried) = stays_deleted tried

pub returns-clause-stays_complete : goal.returns-clause-stays_complete
returns-clause-stays_complete c = stays_complete

pub returns-clause-stays_deleted : goal.returns-clause-stays_deleted
returns-clause-stays_deleted c = stays_deleted
