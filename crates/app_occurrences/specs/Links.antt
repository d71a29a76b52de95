-- The predecessors that the definitions list, over all applications.
use Rattle.std.specs.Prelude.{◌≡◌, ℕ, List, Contains, Some}
use Rattle.std.specs.FinMap as map
use Rattle.app_definitions.specs.declared.definitions.Definitions.{Definitions}
use Rattle.app_definition_records.specs.declared.predecessors.Predecessor.{Predecessor}

-- the predecessor is in the list that is defined for the application, with its limit
abbrev pub IsDefinedLink : Definitions → List ℕ → Predecessor → Type 0
IsDefinedLink all app predecessor = (listed : List Predecessor) × (map.get all.predecessors app ≡ Some listed)
    × Contains listed predecessor

-- no two of them are of one application and one name
abbrev pub HaveOwnNames : List (List ℕ × Predecessor) → Type 0
HaveOwnNames links = (app : List ℕ) (p q : Predecessor) → Contains links (app, p) → Contains links (app, q)
    → p.name ≡ q.name → p ≡ q
