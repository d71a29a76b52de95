-- Changes of pairs.
use Rattle.std.specs.Prelude.{◌⊎◌, ◌↔◌, List, Contains}
use Rattle.external_dependencies.specs.declared.change.PairChange.{PairChange}
use Rattle.external_dependencies.specs.declared.pairs.Pair.{Pair}

-- the change leads from the old pairs to the new: it removes those that only the old ones have, and adds those that
-- only the new ones have
pub record Leads (old new : List Pair) (change : PairChange) : Type 0 where
  pub removed : (pair : Pair) → Contains change.removed pair ↔ (Contains old pair × (Contains new pair → ⊥))
  pub added : (pair : Pair) → Contains change.added pair ↔ (Contains new pair × (Contains old pair → ⊥))

-- the change is exactly the difference between the old pairs and the new: it removes each old pair that is not a new
-- one, adds each new pair that was not an old one, and for each pair it is decidable whether it is one of these
pub record LeadsExactly (old : List Pair) (IsNew : Pair → Type 0) (change : PairChange) : Type 0 where
  pub removed : (pair : Pair) → Contains change.removed pair ↔ (Contains old pair × (IsNew pair → ⊥))
  pub added : (pair : Pair) → Contains change.added pair ↔ (IsNew pair × (Contains old pair → ⊥))
  pub stays : (pair : Pair) → Contains old pair → Contains change.removed pair ⊎ IsNew pair
  pub comes : (pair : Pair) → IsNew pair → Contains old pair ⊎ Contains change.added pair
