-- What a statement reads of history: of an application the row that arrives last at a moment or before it, which is
-- before the next minute.
use Rattle.std.specs.Prelude.{◌≡◌, ◌≢◌, ◌⊎◌, ℕ, ◌+◌, ◌<◌, ◌≤◌, List, Option, None, Some}
use Rattle.app_definitions.specs.declared.definitions.Definitions.{Definitions}
use Rattle.occurrences.specs.declared.key.Key.{Key}
use Rattle.occurrences.specs.declared.place.CurrentRow.{CurrentRow}
use Rattle.occurrences.specs.declared.row.Row.{Row}
use Rattle.occurrences.specs.declared.status.Status.TheVariants.{D, W}
use Rattle.external_dependencies.specs.Link.{Lists}
use Rattle.external_dependencies.specs.declared.links.Link.{Link}
use Rattle.planner_machine.specs.Content.{Content, Sets}
use Rattle.planner_machine.specs.InForce.{IsDefinedLink}
use Rattle.planner_machine.specs.declared.content.Bounds.{Bounds}

-- the first arrives earlier, or at the same moment under no greater serial
abbrev pub IsNoLater : Row → Row → Type 0
IsNoLater a b = (a.key.ia < b.key.ia) ⊎ ((a.key.ia ≡ b.key.ia) × (a.serial ≤ b.serial))

-- of the rows of the application that arrive before the minute, the one that arrives last
pub record IsLastOf (history : ℕ → Option Row) (app : List ℕ) (minute : ℕ) (row : Row) : Type 0 where
  pub stands : history row.serial ≡ Some row
  pub of_app : row.key.app ≡ app
  pub in_time : row.key.ia < minute
  pub last : (serial : ℕ) (other : Row) → history serial ≡ Some other → other.key.app ≡ app → other.key.ia < minute
      → IsNoLater other row

-- before this minute arrives what may precede the key in the application
abbrev pub IsLimit : Key → List ℕ → ℕ → Type 0
IsLimit key app minute = ((app ≡ key.app) × (minute ≡ key.ia)) ⊎ ((app ≢ key.app) × (minute ≡ key.ia + 1))

-- a live occurrence of the application arrives then in one of the plans
abbrev pub IsPlannedAt : Sets → List ℕ → ℕ → Type 0
IsPlannedAt s app ia =
    ((serial : ℕ) × (row : Row) × (s.ltp serial ≡ Some row) × (row.key.app ≡ app) × (row.key.ia ≡ ia))
    ⊎ ((serial : ℕ) × (current : CurrentRow) × (s.cp serial ≡ Some current) × (current.status ≢ D)
    × (current.row.key.app ≡ app) × (current.row.key.ia ≡ ia))

-- the predecessor is in the list that is defined for the application
abbrev pub ListsDefined : Definitions → List ℕ → List ℕ → Type 0
ListsDefined all app predecessor = (within : Option ℕ)
    × IsDefinedLink all (record { app = app; predecessor = predecessor; within = within })

-- the predecessor is in the list of the application that is in force, or in the one that is defined
abbrev pub ListsEither : Content → List ℕ → List ℕ → Type 0
ListsEither c app predecessor = Lists c.in_force app predecessor ⊎ ListsDefined c.definitions app predecessor

-- what a statement on one key reads: the last at its arrival or before it, of its application and of each application
-- of its list
abbrev pub ReadsKey : Content → Key → List ℕ → ℕ → Type 0
ReadsKey c key app minute = (minute ≡ key.ia + 1) × ((app ≡ key.app) ⊎ Lists c.in_force key.app app)

-- a statement on the long-term plan may reach occurrences of the application: those of all, or those of one and of each
-- whose list in force names it
abbrev pub ReachesApp : Option (List ℕ) → List Link → List ℕ → Type 0
ReachesApp None links naming = Unit {0}
ReachesApp (Some app) links naming = (naming ≡ app) ⊎ Lists links naming app

-- what is read for a row of the application that waits in the current plan: the last at its arrival or before it, of
-- each application of its list, in force or defined
abbrev pub ReadsWaiting : Content → List ℕ → List ℕ → ℕ → Type 0
ReadsWaiting c naming app minute = (row : Row) × (c.sets.cp row.serial ≡ Some (record { row = row; status = W }))
    × (row.key.app ≡ naming) × (minute ≡ row.key.ia + 1) × ListsEither c naming app

-- what is read for the application in any case: the last at the plan end or before it, of each application of its list,
-- in force or defined
abbrev pub ReadsPlanEnd : Content → List ℕ → List ℕ → ℕ → Type 0
ReadsPlanEnd c naming app minute = (bounds : Bounds) × (c.sets.bounds ≡ Some bounds) × (minute ≡ bounds.plan_end + 1)
    × ListsEither c naming app

-- both
abbrev pub ReadsNaming : Content → List ℕ → List ℕ → ℕ → Type 0
ReadsNaming c naming app minute = ReadsWaiting c naming app minute ⊎ ReadsPlanEnd c naming app minute

-- what a statement on the long-term plan reads, for all applications or for one: that of each that it may reach
abbrev pub ReadsPlan : Option (List ℕ) → Content → List ℕ → ℕ → Type 0
ReadsPlan only c app minute = (naming : List ℕ) × ReachesApp only c.in_force naming × ReadsNaming c naming app minute

-- each row of the application that arrives before the minute has one that is shown, and that arrives no earlier
abbrev pub HasLast : (history shown : ℕ → Option Row) → List ℕ → ℕ → Type 0
HasLast history shown app minute = (serial : ℕ) (row : Row) → history serial ≡ Some row → row.key.app ≡ app
    → row.key.ia < minute
    → (r : Row) × (shown r.serial ≡ Some r) × (r.key.app ≡ app) × (r.key.ia < minute) × IsNoLater row r

-- exactly the rows of history are shown that are read
pub record HasLasts (Asked : List ℕ → ℕ → Type 0) (history shown : ℕ → Option Row) : Type 0 where
  pub only : (serial : ℕ) (row : Row) → shown serial ≡ Some row → (history serial ≡ Some row)
      × ((app : List ℕ) × (minute : ℕ) × Asked app minute × IsLastOf history app minute row)
  pub lasts : (app : List ℕ) (minute : ℕ) → Asked app minute → HasLast history shown app minute
