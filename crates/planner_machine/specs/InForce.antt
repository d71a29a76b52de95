-- The predecessor lists that a statement puts into force.
use Rattle.std.specs.Prelude.{◌≡◌, ◌≢◌, ◌↔◌, ◌⊎◌, ℕ, List, Contains, Some}
use Rattle.std.specs.FinMap as map
use Rattle.app_definitions.specs.declared.definitions.Definitions.{Definitions}
use Rattle.app_definition_records.specs.declared.predecessors.Predecessor.{Predecessor}
use Rattle.external_dependencies.specs.Link.{link_cmp}
use Rattle.external_dependencies.specs.Rising.{IsRising}
use Rattle.external_dependencies.specs.declared.links.Link.{Link}

-- the predecessor is in the list that is defined for the application, with this limit
abbrev pub IsDefinedLink : Definitions → Link → Type 0
IsDefinedLink all link = (listed : List Predecessor) × (map.get all.predecessors link.app ≡ Some listed)
    × Contains listed (record { name = link.predecessor; within = link.within })

-- exactly these links, in order
pub record AreLinks (Is : Link → Type 0) (links : List Link) : Type 0 where
  pub rising : IsRising link_cmp links
  pub exactly : (link : Link) → Contains links link ↔ Is link

-- which lists are in force after a statement: by the definitions and the lists in force before it
abbrev pub PutsLists : Type 1
PutsLists = Definitions → List Link → List Link → Type 0

-- those that were
abbrev pub PutsNone : PutsLists
PutsNone all before after = after ≡ before

-- all that are defined
abbrev pub PutsAll : PutsLists
PutsAll all before after = AreLinks (IsDefinedLink all) after

-- for one application the list that is defined, and for all others those that were
abbrev pub PutsOne : List ℕ → PutsLists
PutsOne app all before after =
    AreLinks (λ link. ((link.app ≡ app) × IsDefinedLink all link) ⊎ ((link.app ≢ app) × Contains before link)) after
